-- The rules on lists of parts, with one part more at the end.
use Rattle.std.proofs.Common.{◌≡◌, ℕ, suc, ◌+◌, true, false, not, ◌&&◌, eqb, ltb, List, [], ◌∷◌, ◌++◌, length, sym, refl, subst, arith}
use Rattle.std.proofs.lemmas.List.{append-nil, append_assoc}
use Rattle.std.proofs.lemmas.Bool.{and_parts, and_from, not_from_false}
use Rattle.circuits.specs.declared.gate.Gate.{Gate}
use Rattle.circuits.specs.declared.gate.Output.{Output}
use Rattle.circuits.specs.declared.row.SpecRow.{SpecRow}
use Rattle.circuits.specs.Specification.{literals_of}
use Rattle.circuits.specs.Legality.{gate_legal, gates_legal, outputs_legal, among, apart_from, rows_legal, agrees, consistent_from}

pub gates_push : (s n : ℕ) (gs : List Gate) (g : Gate) → n ≡ s + length gs → gates_legal s gs ≡ true → gate_legal n g ≡ true → gates_legal s (gs ++ g ∷ []) ≡ true
unfolding gates_legal
gates_push s n [] g e h k = and_from (gate_legal s g) true (subst (λ (m : ℕ). gate_legal m g ≡ true) (let d : n ≡ s = omega arith in d) k) refl
gates_push s n (x ∷ gs) g e h k =
    let p = and_parts (gate_legal s x) (gates_legal (suc s) gs) h in
    and_from (gate_legal s x) (gates_legal (suc s) (gs ++ g ∷ [])) p.0 (gates_push (suc s) n gs g (omega arith) p.1 k)

pub outputs_push : (s : ℕ) (xs : List Output) (x : Output) → outputs_legal s xs ≡ true → ltb x.pin.stem s ≡ true → outputs_legal s (xs ++ x ∷ []) ≡ true
unfolding outputs_legal
outputs_push s [] x h k = and_from (ltb x.pin.stem s) true k refl
outputs_push s (y ∷ xs) x h k =
    let p = and_parts (ltb y.pin.stem s) (outputs_legal s xs) h in
    and_from (ltb y.pin.stem s) (outputs_legal s (xs ++ x ∷ [])) p.0 (outputs_push s xs x p.1 k)

pub rows_push :
    (m n : ℕ) (rs : List SpecRow) (r : SpecRow) → rows_legal m n rs ≡ true → (ltb r.output m && eqb (length (literals_of r)) n) ≡ true → rows_legal m n (rs ++ r ∷ []) ≡ true
unfolding rows_legal
rows_push m n [] r h k = and_from (ltb r.output m && eqb (length (literals_of r)) n) true k refl
rows_push m n (x ∷ rs) r h k =
    let p = and_parts (ltb x.output m && eqb (length (literals_of x)) n) (rows_legal m n rs) h in
    and_from (ltb x.output m && eqb (length (literals_of x)) n) (rows_legal m n (rs ++ r ∷ [])) p.0 (rows_push m n rs r p.1 k)

pub apart_push : (seen xs : List (List ℕ)) (y : List ℕ) → apart_from seen xs ≡ true → among y (seen ++ xs) ≡ false → apart_from seen (xs ++ y ∷ []) ≡ true
unfolding apart_from
apart_push seen [] y h k = and_from (not (among y seen)) true (not_from_false (among y seen) (rw append-nil at k)) refl
apart_push seen (x ∷ xs) y h k =
    let p = and_parts (not (among x seen)) (apart_from (seen ++ x ∷ []) xs) h in
    and_from (not (among x seen)) (apart_from (seen ++ x ∷ []) (xs ++ y ∷ [])) p.0
    (apart_push (seen ++ x ∷ []) xs y p.1 (subst (λ (l : List (List ℕ)). among y l ≡ false) (sym (append_assoc seen (x ∷ []) xs)) k))

pub consistent_push :
    (seen rs : List SpecRow) (r : SpecRow) → consistent_from seen rs ≡ true → agrees (seen ++ rs) r ≡ true → consistent_from seen (rs ++ r ∷ []) ≡ true
unfolding consistent_from
consistent_push seen [] r h k = and_from (agrees seen r) true (rw append-nil at k) refl
consistent_push seen (x ∷ rs) r h k =
    let p = and_parts (agrees seen x) (consistent_from (seen ++ x ∷ []) rs) h in
    and_from (agrees seen x) (consistent_from (seen ++ x ∷ []) (rs ++ r ∷ [])) p.0
    (consistent_push (seen ++ x ∷ []) rs r p.1 (subst (λ (l : List SpecRow). agrees l r ≡ true) (sym (append_assoc seen (x ∷ []) rs)) k))
