-- Putting at a line the bit that it carries changes nothing.
use Rattle.std.proofs.Common.{◌≡◌, ℕ, zero, suc, ◌+◌, ◌<◌, Bool, true, false, cond, ltb, List, [], ◌∷◌, ◌++◌, length, get_or, Some, sym, refl, ap, ◌∙◌, ⊎_elim, arith}
use Rattle.std.specs.List.{slice_get}
use Rattle.std.proofs.lemmas.List.{append_assoc, length_push, get_or_append_left, append-nil}
use Rattle.std.proofs.lemmas.Bool.{and_parts, ltb-true, cases_Bool}
use Rattle.circuits.specs.declared.gate.Gate.{Gate}
use Rattle.circuits.specs.declared.name.Name.{Name}
use Rattle.circuits.specs.declared.pin.Pin.{Pin}
use Rattle.circuits.specs.declared.place.Place.{Place}
use Rattle.circuits.specs.declared.place.Place.TheVariants.{Stem, Pin as GatePin}
use Rattle.circuits.specs.Kinds.{fits, gate_bit, differ}
use Rattle.circuits.specs.Circuits.{Net, pins_of, same_place, Put, nothing, put, settled, bit, through, input_stems, received, gate_stem, worked_out, stems_with, carried, with_bit}
use Rattle.circuits.specs.Legality.{pins_read, gate_legal, gates_legal}
use Rattle.circuits.specs.Lines.{pin_at}
use Rattle.circuits.proofs.Numbering.{some_same}
use Rattle.circuits.proofs.Working.{input_stems_length}

-- a bit that a place has anyway
settled_same : (q p : Place) (b v : Bool) → (same_place p q ≡ true → b ≡ v) → settled (put q b) p v ≡ v
settled_same q p b v h = ⊎_elim (λ t. ap (λ x. cond x b v) t ∙ h t) (λ t. ap (λ x. cond x b v) t) (cases_Bool (same_place p q))

nth_middle : {X : Type 0} (xs : List X) (y : X) (ys : List X) (i : ℕ) → length xs ≡ i → slice_get (xs ++ y ∷ ys) i ≡ Some y
nth_middle [] y ys zero e = refl
nth_middle [] y ys (suc i) e = let z : ⊥ = omega arith in absurd z
nth_middle (x ∷ xs) y ys zero e = let z : ⊥ = omega arith in absurd z
nth_middle (x ∷ xs) y ys (suc i) e = nth_middle xs y ys i (omega arith)

module _ (q : Place) (b : Bool) (all : List Bool) (stem : (s : ℕ) → same_place (Stem s) q ≡ true → slice_get all s ≡ Some b) where
  -- the inputs
  inputs_same : (i : ℕ) (xs : List Name) (a : ℕ) (front back : List Bool) → length front ≡ i → all ≡ front ++ (input_stems nothing i xs a ++ back) → input_stems (put q b) i xs a ≡ input_stems nothing i xs a
  unfolding input_stems
  inputs_same i [] a front back e is = refl
  inputs_same i (x ∷ xs) a front back e is =
      let v = bit a (length xs) in
      let rest = input_stems nothing (suc i) xs a in
      let here : settled (put q b) (Stem i) v ≡ v =
      settled_same q (Stem i) b v (λ t. some_same b v (sym (stem i t) ∙ (ap (λ l. slice_get l i) is ∙ nth_middle front v (rest ++ back) i e)))
      in
      let later =
      inputs_same (suc i) xs a (front ++ v ∷ []) back (length_push front v ∙ omega arith) (is ∙ sym (append_assoc front (v ∷ []) (rest ++ back)))
      in
      ap (λ y. y ∷ input_stems (put q b) (suc i) xs a) here ∙ ap (λ ys. v ∷ ys) later

  -- the pins of a gate
  pins_same : (g i : ℕ) (stems : List Bool) (ps : List Pin) → ((j : ℕ) (p : Pin) → slice_get ps j ≡ Some p → same_place (GatePin g (i + j)) q ≡ true → b ≡ through p stems) → received (put q b) g i stems ps ≡ received nothing g i stems ps
  unfolding received
  pins_same g i stems [] h = refl
  pins_same g i stems (p ∷ ps) h =
      let z : i + 0 ≡ i = omega arith in
      let here : settled (put q b) (GatePin g i) (through p stems) ≡ through p stems =
      settled_same q (GatePin g i) b (through p stems) (λ t. h 0 p refl (ap (λ k. same_place (GatePin g k) q) z ∙ t))
      in
      let later = pins_same g (suc i) stems ps (λ j r e t. let n : i + suc j ≡ suc i + j = omega arith in h (suc j) r e (ap (λ k. same_place (GatePin g k) q) n ∙ t)) in
      ap (λ y. y ∷ received (put q b) g (suc i) stems ps) here ∙ ap (λ ys. through p stems ∷ ys) later

-- the stems so far stay in front
worked_front : (u : Put) (g : ℕ) (stems : List Bool) (gs : List Gate) → (more : List Bool) × (worked_out u g stems gs ≡ stems ++ more)
unfolding worked_out
worked_front u g stems [] = ([], sym (append-nil stems))
worked_front u g stems (x ∷ xs) =
    let v = gate_stem u g stems x in
    let p = worked_front u (suc g) (stems ++ v ∷ []) xs in
    (v ∷ p.0, p.1 ∙ append_assoc stems (v ∷ []) p.0)

-- what an early stem's reader gets, now or of all stems
through_front : (p : Pin) (stems more all : List Bool) → all ≡ stems ++ more → p.stem < length stems → through p all ≡ through p stems
through_front p stems more all e h = ap (differ p.mark) (ap (λ l. get_or l p.stem false) e ∙ get_or_append_left stems more false p.stem h)

nth_reads : (s : ℕ) (ps : List Pin) (j : ℕ) (p : Pin) → pins_read s ps ≡ true → slice_get ps j ≡ Some p → p.stem < s
unfolding pins_read
nth_reads s [] j p h e = let z : ◌≡◌ {A = ℕ} 0 1 = cc in let y : ⊥ = omega arith in absurd y
nth_reads s (r ∷ ps) zero p h e = let f : r ≡ p = cc in rw (← f) (ltb-true r.stem s (and_parts (ltb r.stem s) (pins_read s ps) h).0)
nth_reads s (r ∷ ps) (suc j) p h e = nth_reads s ps j p (and_parts (ltb r.stem s) (pins_read s ps) h).1 e

module _
    (q : Place) (b : Bool) (all : List Bool) (gates : List Gate) (stem : (s : ℕ) → same_place (Stem s) q ≡ true → slice_get all s ≡ Some b)
    (pin : (g i : ℕ) (p : Pin) → same_place (GatePin g i) q ≡ true → pin_at gates g i ≡ Some p → b ≡ through p all)
  where
    -- the gates
    gates_same :
        (g : ℕ) (stems : List Bool) (gs : List Gate) → ((h i : ℕ) → pin_at gs h i ≡ pin_at gates (g + h) i) → gates_legal (length stems) gs ≡ true → all ≡ worked_out nothing g stems gs →
        worked_out (put q b) g stems gs ≡ worked_out nothing g stems gs
    unfolding worked_out gates_legal
    gates_same g stems [] at legal is = refl
    gates_same g stems (x ∷ xs) at legal is =
        let v = gate_stem nothing g stems x in
        let p = and_parts (gate_legal (length stems) x) (gates_legal (suc (length stems)) xs) legal in
        let reads = (and_parts (fits x.kind (length (pins_of x))) (pins_read (length stems) (pins_of x)) p.0).1 in
        let front = worked_front nothing (suc g) (stems ++ v ∷ []) xs in
        let whole : all ≡ stems ++ (v ∷ front.0) = is ∙ (front.1 ∙ append_assoc stems (v ∷ []) front.0) in
        let pins : received (put q b) g 0 stems (pins_of x) ≡ received nothing g 0 stems (pins_of x) =
        pins_same q b all stem g 0 stems (pins_of x)
        (λ j r e t.
        let n : 0 + j ≡ j = omega arith in
        let m : g + 0 ≡ g = omega arith in
        let stands : pin_at gates g j ≡ Some r = ap (λ k. pin_at gates k j) (sym m) ∙ (sym (at 0 j) ∙ e) in
        pin g j r (ap (λ k. same_place (GatePin g k) q) (sym n) ∙ t) stands ∙ through_front r stems (v ∷ front.0) all whole (nth_reads (length stems) (pins_of x) j r reads e))
        in
        let here : gate_stem (put q b) g stems x ≡ v =
        settled_same q (Stem (length stems)) b (gate_bit x.kind (received (put q b) g 0 stems (pins_of x)))
        (λ t. some_same b _ (sym (stem (length stems) t) ∙ (ap (λ l. slice_get l (length stems)) whole ∙ nth_middle stems v front.0 (length stems) refl) ∙ ap (λ bs. Some (gate_bit x.kind bs)) (sym pins)))
        ∙ ap (gate_bit x.kind) pins
        in
        let long : length (stems ++ v ∷ []) ≡ suc (length stems) = length_push stems v ∙ omega arith in
        let later =
        gates_same (suc g) (stems ++ v ∷ []) xs (λ h i. at (suc h) i ∙ ap (λ k. pin_at gates k i) (omega arith)) (ap (λ n. gates_legal n xs) long ∙ p.1) is
        in
        ap (λ y. worked_out (put q b) (suc g) (stems ++ y ∷ []) xs) here ∙ later

-- Putting at a place the bit that it carries leaves every stem as it was.
pub put_carried :
    (c : Net) (a : ℕ) (q : Place) (b : Bool) → gates_legal (length c.inputs) c.gates ≡ true →
    ((s : ℕ) → same_place (Stem s) q ≡ true → slice_get (carried c a) s ≡ Some b) →
    ((g i : ℕ) (p : Pin) → same_place (GatePin g i) q ≡ true → pin_at c.gates g i ≡ Some p → b ≡ through p (carried c a)) → with_bit c q b a ≡ carried c a
unfolding stems_with
put_carried c a q b legal stem pin =
    let front = worked_front nothing 0 (input_stems nothing 0 c.inputs a) c.gates in
    let same = inputs_same q b (carried c a) stem 0 c.inputs a [] front.0 refl front.1 in
    ap (λ xs. worked_out (put q b) 0 xs c.gates) same
    ∙ gates_same q b (carried c a) c.gates stem pin 0 (input_stems nothing 0 c.inputs a) c.gates (λ h i. ap (λ k. pin_at c.gates k i) (omega arith))
    (ap (λ n. gates_legal n c.gates) (input_stems_length nothing 0 c.inputs a) ∙ legal) refl
