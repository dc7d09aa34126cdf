-- No output misses its rows just where what each line carries repairs it.
use Rattle.std.proofs.Common.{◌≡◌, ℕ, zero, suc, ◌+◌, ◌-◌, true, false, cond, eqb, ltb, ◌↔◌, List, [], ◌∷◌, length, Some, unwrap_or, sym, refl, ap, ◌∙◌, ⊎_elim, arith}
use Rattle.std.specs.Option.{option_map}
use Rattle.std.specs.List.{slice_get}
use Rattle.std.proofs.lemmas.Option.{slice_get-get_or}
use Rattle.std.proofs.lemmas.Bool.{and_parts, eqb-true, lt-ltb, cond-true, cases_Bool, false≢true}
use Rattle.circuits.specs.declared.gate.Output.{Output}
use Rattle.circuits.specs.declared.place.Place.{Place}
use Rattle.circuits.specs.declared.place.Place.TheVariants.{Stem, Pin as GatePin}
use Rattle.circuits.specs.declared.row.SpecRow.{SpecRow}
use Rattle.circuits.specs.Circuits.{Net, nothing, through, assignments, carried, with_bit}
use Rattle.circuits.specs.Legality.{gates_legal, legal}
use Rattle.circuits.specs.Lines.{stem_count, pin_at, pin_place, place_of}
use Rattle.circuits.specs.Specification.{bound, obeys, output_bit, meets, misses, misses_from, carried_by, Repaired}
use Rattle.circuits.proofs.Binding.{each_below_at, each_below_from}
use Rattle.circuits.proofs.Numbering.{stem_stands}
use Rattle.circuits.proofs.Putting.{put_carried}
use Rattle.circuits.proofs.Rules.{whole, design_rules}
use Rattle.circuits.proofs.Working.{stems_length}

-- what is carried is put, so nothing changes
put_nothing :
    (c : Net) (l a : ℕ) (q : Place) → gates_legal (length c.inputs) c.gates ≡ true → place_of c l ≡ Some q → with_bit c q (carried_by c q a) a ≡ carried c a
put_nothing c l a (Stem t) legal e =
    put_carried c a (Stem t) (carried_by c (Stem t) a) legal (λ s same. ap (slice_get (carried c a)) (eqb-true s t same) ∙ found) (λ g i p same stands. let z : ⊥ = false≢true same in absurd z)
  where
    found : slice_get (carried c a) t ≡ Some (unwrap_or (slice_get (carried c a) t) false)
    found =
        let n = slice_get-get_or (carried c a) t false (omega (arith, stems_length nothing c a, stem_stands c l t e)) in n ∙ ap (λ o. Some (unwrap_or o false)) (sym n)
put_nothing c l a (GatePin h j) legal e =
    put_carried c a (GatePin h j) (carried_by c (GatePin h j) a) legal (λ s same. let z : ⊥ = false≢true same in absurd z)
    (λ g i p same stands.
    let t = and_parts (eqb g h) (eqb i j) same in
    let f : pin_at c.gates h j ≡ Some p = ap (λ k. pin_at c.gates k j) (sym (eqb-true g h t.0)) ∙ (ap (pin_at c.gates g) (sym (eqb-true i j t.1)) ∙ stands) in
    ap (λ o. unwrap_or (option_map (λ r. through r (carried c a)) o) false) f)

-- no output misses its rows, by each of them
none_missed : (c : Net) (rows : List SpecRow) (k : ℕ) (xs : List Output) → misses_from c rows k xs ≡ 0 → (i : ℕ) (x : Output) → slice_get xs i ≡ Some x → meets c rows (k + i) x ≡ true
unfolding misses_from
none_missed c rows k [] e i x is = let z : ◌≡◌ {A = ℕ} 0 1 = cc in let y : ⊥ = omega arith in absurd y
none_missed c rows k (y ∷ ys) e zero x is =
    let n : k + 0 ≡ k = omega arith in
    let f : y ≡ x = cc in
    rw (n, ← f) (⊎_elim (λ t. t) (λ t. let one : ◌≡◌ {A = ℕ} (cond (meets c rows k y) 0 1) 1 = ap (λ b. cond b 0 1) t in let z : ⊥ = omega arith in absurd z) (cases_Bool (meets c rows k y)))
none_missed c rows k (y ∷ ys) e (suc i) x is =
    let n : k + suc i ≡ suc k + i = omega arith in rw n (none_missed c rows (suc k) ys (omega arith) i x is)

missed_none : (c : Net) (rows : List SpecRow) (k : ℕ) (xs : List Output) → ((i : ℕ) (x : Output) → slice_get xs i ≡ Some x → meets c rows (k + i) x ≡ true) → misses_from c rows k xs ≡ 0
unfolding misses_from
missed_none c rows k [] h = refl
missed_none c rows k (y ∷ ys) h =
    let n : k + 0 ≡ k = omega arith in
    let here : meets c rows k y ≡ true = ap (λ j. meets c rows j y) (sym n) ∙ h 0 y refl in
    let none : ◌≡◌ {A = ℕ} (cond (meets c rows k y) 0 1) 0 = ap (λ b. cond b 0 1) here in
    let later = missed_none c rows (suc k) ys (λ i x e. ap (λ j. meets c rows j x) (omega arith) ∙ h (suc i) x e) in
    omega arith

pub misses_repaired : (c : Net) (rows : List SpecRow) (r : ℕ) → legal c rows ≡ true → r ≡ misses c rows → (r ≡ 0) ↔ Repaired c rows
misses_repaired c rows r h value =
    let good = (design_rules c rows h).gates_good in (
      λ z l p at a below k x is.
          let n : 0 + k ≡ k = omega arith in
          let met : meets c rows k x ≡ true = ap (λ j. meets c rows j x) (sym n) ∙ none_missed c rows 0 c.outputs (sym value ∙ z) k x is in
          ap (λ stems. obeys (bound rows k a) (output_bit stems x)) (put_nothing c l a p good at) ∙ each_below_at (assignments c) a (λ j. obeys (bound rows k j) (output_bit (carried c j) x)) met below,
      λ all.
          let some = (whole c rows h).some_input in
          let first : place_of c 0 ≡ Some (Stem 0) = cond-true (ltb 0 (stem_count c)) (Some (Stem 0)) (pin_place 0 c.gates (0 - stem_count c)) (lt-ltb 0 (stem_count c) (omega arith)) in
          value ∙ missed_none c rows 0 c.outputs
          (λ k x is.
          let n : 0 + k ≡ k = omega arith in
          ap (λ j. meets c rows j x) n ∙ each_below_from (assignments c) (λ j. obeys (bound rows k j) (output_bit (carried c j) x))
          (λ a below. ap (λ stems. obeys (bound rows k a) (output_bit stems x)) (sym (put_nothing c 0 a (Stem 0) good first)) ∙ all 0 (Stem 0) first a below k x is)),
    )
