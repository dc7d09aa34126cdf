-- Lists at the front of a table, and short lists.
use lib.ListN.{replicate}
use Rattle.std.proofs.Common.{◌≡◌, ℕ, zero, suc, ◌+◌, ◌<◌, ◌≤◌, Bool, true, ◌&&◌, eqb, leb, List, [], ◌∷◌, ◌++◌, length, get_or, take, drop, set, refl, ◌∙◌, subst, arith}
use Rattle.std.proofs.lemmas.List.{take_more_set, drop_more, drop-set-lt, length-set, length-take-le, length-replicate}
use Rattle.std.proofs.lemmas.Bool.{and_parts, and_from, leb-true, le-leb, eqb-true, eq-eqb}
use Rattle.circuits.specs.declared.short.Blank.{Ghosts}
use Rattle.circuits.specs.declared.short.Short.{Short}
use Rattle.circuits.specs.Shorts.{entries}
use Rattle.circuits.specs.Tables.{all_blank, holds_front}

module _ {X : Type 0} (blank : X → Bool) (size : ℕ) where
  pub record Front (table : List X) (len : ℕ) : Type 0 where
    pub long : length table ≡ size
    pub within : len ≤ size
    pub rest : all_blank blank (drop len table) ≡ true

  pub front_parts : (table : List X) (len : ℕ) → holds_front blank size table len ≡ true → Front table len
  unfolding holds_front
  front_parts table len h =
      let p = and_parts (eqb (length table) size && leb len size) (all_blank blank (drop len table)) h in
      let q = and_parts (eqb (length table) size) (leb len size) p.0 in
      record { long = eqb-true (length table) size q.0; within = leb-true len size q.1; rest = p.1 }

  pub front_from : (table : List X) (len : ℕ) → Front table len → holds_front blank size table len ≡ true
  unfolding holds_front
  front_from table len f =
      and_from (eqb (length table) size && leb len size) (all_blank blank (drop len table))
      (and_from (eqb (length table) size) (leb len size) (eq-eqb (length table) size f.long) (le-leb len size f.within)) f.rest

  -- one entry more
  pub front_more : (table : List X) (len : ℕ) (x : X) → len < size → Front table len → Front (set table len x) (len + 1)
  unfolding all_blank
  front_more table len x h f =
      let l : len < length table = omega arith in
      let d : all_blank blank (get_or table len x ∷ drop (len + 1) table) ≡ true =
      subst (λ (y : List X). all_blank blank y ≡ true) (drop_more table len x l) f.rest
      in
      record {
        long = length-set table len x ∙ f.long;
        within = omega arith;
        rest = rw (drop-set-lt (len + 1) table len x (omega arith)) (and_parts (blank (get_or table len x)) (all_blank blank (drop (len + 1) table)) d).1;
      }

  pub front_length : (table : List X) (len : ℕ) → Front table len → length (take len table) ≡ len
  front_length table len f = length-take-le len table (omega arith)

  -- the list with one entry more
  pub front_list : (table : List X) (len : ℕ) (x : X) → len < size → Front table len → take (len + 1) (set table len x) ≡ take len table ++ x ∷ []
  front_list table len x h f = take_more_set table len x (omega arith)

module _ {X : Type 0} {size : ℕ} {blank : Ghosts X} (s : Short X size blank) where
  pub front : Front blank.is_blank size s.table s.len
  front = front_parts blank.is_blank size s.table s.len s.good

  -- how many entries there are,
  pub entries_length : length (entries s) ≡ s.len
  entries_length = front_length blank.is_blank size s.table s.len front

  -- which is at most the size
  pub few : length (entries s) ≤ size
  few = let f = front in let e = entries_length in omega arith

-- a table that is blank throughout
all_blank_replicate : {X : Type 0} (blank : X → Bool) (size : ℕ) (x : X) → blank x ≡ true → all_blank blank (replicate size x) ≡ true
unfolding all_blank
all_blank_replicate blank zero x h = refl
all_blank_replicate blank (suc n) x h = and_from (blank x) (all_blank blank (replicate n x)) h (all_blank_replicate blank n x h)

pub blank_front : {X : Type 0} (blank : X → Bool) (size : ℕ) (x : X) → blank x ≡ true → holds_front blank size (replicate size x) 0 ≡ true
blank_front blank size x h =
    front_from blank size (replicate size x) 0 (record { long = length-replicate size x; within = omega arith; rest = all_blank_replicate blank size x h })
