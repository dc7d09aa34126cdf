-- Bytes that are a name.
use Rattle.std.proofs.Common.{◌≡◌, ℕ, ◌≤◌, true, ◌&&◌, leb, List, length}
use Rattle.std.proofs.lemmas.Bool.{and_parts, leb-true}
use Rattle.circuits.specs.Names.{letters, is_name}

pub name_short : (bs : List ℕ) → is_name bs ≡ true → length bs ≤ 8
unfolding is_name
name_short bs h =
    let p = and_parts (leb 1 (length bs) && leb (length bs) 8) (letters bs) h in leb-true (length bs) 8 (and_parts (leb 1 (length bs)) (leb (length bs) 8) p.0).1
