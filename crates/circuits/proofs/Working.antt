-- Working out a circuit gate by gate, with nothing put into it.
use Rattle.std.proofs.Common.{◌≡◌, ℕ, zero, suc, ◌+◌, ◌-◌, ◌<◌, ◌≤◌, Bool, true, cond, ltb, List, [], ◌∷◌, ◌++◌, map, length, get_or, drop, Some, sym, refl, ap, ◌∙◌, add-one, arith}
use Rattle.std.proofs.lemmas.List.{drop_more, drop_all, length-drop, length_push, append_assoc, append-nil}
use Rattle.std.proofs.lemmas.Bool.{and_parts, ltb-true}
use Rattle.circuits.specs.declared.gate.Gate.{Gate}
use Rattle.circuits.specs.declared.gate.Output.{Output}
use Rattle.circuits.specs.declared.name.Name.{Name}
use Rattle.circuits.specs.declared.pin.Pin.{Pin}
use Rattle.circuits.specs.Kinds.{fits, gate_bit, ones}
use Rattle.circuits.specs.Circuits.{Net, pins_of, Put, nothing, gate_stem, bit, through, received, input_stems, worked_out, stems_with, carried}
use Rattle.circuits.specs.Legality.{pins_read, gate_legal, gates_legal, outputs_legal}
use Rattle.circuits.specs.Lines.{stem_count, pin_at}
use Rattle.std.specs.List.{slice_get, sum_by}
use Rattle.std.proofs.lemmas.List.Recursion.{is_sum_by}
use Rattle.std.specs.Option.{IfSome, option_map}
use Rattle.std.proofs.lemmas.Option.{IfSome_then, slice_get-get_or}

-- what each pin gets
pub received_each : (g i : ℕ) (stems : List Bool) (ps : List Pin) → received nothing g i stems ps ≡ map (λ (p : Pin). through p stems) ps
unfolding received
received_each g i stems [] = refl
received_each g i stems (p ∷ ps) = ap (λ bs. through p stems ∷ bs) (received_each g (suc i) stems ps)

-- how many pins get 1, as a sum over the pins
pub ones_received : (g i : ℕ) (stems : List Bool) (ps : List Pin) → ones (received nothing g i stems ps) ≡ sum_by (λ (p : Pin). cond (through p stems) 1 0) ps
unfolding ones
ones_received g i stems ps =
    ap ones (received_each g i stems ps) ∙ is_sum_by (λ qs. ones (map (λ (p : Pin). through p stems) qs)) (λ (p : Pin). cond (through p stems) 1 0) refl (λ _ _. refl) ps

-- a pin reads an earlier stem
pub pin_reads : (s : ℕ) (ps : List Pin) (i : ℕ) (d : Pin) → pins_read s ps ≡ true → i < length ps → (get_or ps i d).stem < s
unfolding pins_read
pin_reads s [] i d h k = let z : ⊥ = omega arith in absurd z
pin_reads s (p ∷ ps) zero d h k = ltb-true p.stem s (and_parts (ltb p.stem s) (pins_read s ps) h).0
pin_reads s (p ∷ ps) (suc i) d h k = pin_reads s ps i d (and_parts (ltb p.stem s) (pins_read s ps) h).1 (omega arith)

-- a gate is legal after the stems before it
pub gate_at : (s : ℕ) (gs : List Gate) (k : ℕ) (d : Gate) → gates_legal s gs ≡ true → k < length gs → gate_legal (s + k) (get_or gs k d) ≡ true
unfolding gates_legal
gate_at s [] k d h l = let z : ⊥ = omega arith in absurd z
gate_at s (g ∷ gs) zero d h l =
    let e : s + zero ≡ s = omega arith in rw e (and_parts (gate_legal s g) (gates_legal (suc s) gs) h).0
gate_at s (g ∷ gs) (suc k) d h l =
    let e : s + suc k ≡ suc s + k = omega arith in
    rw e (gate_at (suc s) gs k d (and_parts (gate_legal s g) (gates_legal (suc s) gs) h).1 (omega arith))

-- the i-th of a list, since there is one
pub element : {X : Type 0} (xs : List X) (i : ℕ) → i < length xs → (x : X) × (drop i xs ≡ x ∷ drop (i + 1) xs) × (slice_get xs i ≡ Some x)
element [] i h = let z : ⊥ = omega arith in absurd z
element (y ∷ ys) i h =
    let x = get_or (y ∷ ys) i y in (x, drop_more (y ∷ ys) i y h, slice_get-get_or (y ∷ ys) i y h)

-- All inputs but the last k are worked out.
pub record InputsDone (names : List Name) (a : ℕ) (bits : List Bool) (k : ℕ) : Type 0 where
  pub count : length bits + k ≡ length names
  pub done : bits ++ input_stems nothing (length bits) (drop (length bits) names) a ≡ input_stems nothing 0 names a

pub inputs_more :
    (names : List Name) (a : ℕ) (bits more : List Bool) (k : ℕ) → 0 < k → more ≡ bits ++ bit a (k - 1) ∷ [] → InputsDone names a bits k → InputsDone names a more (k - 1)
unfolding input_stems
inputs_more names a bits more k some added p =
    let v = bit a (k - 1) in
    let i = length bits in
    let l : i < length names = omega (arith, p.count) in
    let n : length (drop (i + 1) names) ≡ k - 1 = length-drop (i + 1) names ∙ omega (arith, p.count) in
    let s : input_stems nothing i (drop i names) a ≡ v ∷ input_stems nothing (i + 1) (drop (i + 1) names) a =
    ap (λ xs. input_stems nothing i xs a) (element names i l).1 ∙ (ap (λ j. bit a j ∷ input_stems nothing (suc i) (drop (i + 1) names) a) n ∙ ap (λ j. v ∷ input_stems nothing j (drop (i + 1) names) a) (sym (add-one i)))
    in
    let e : length more ≡ i + 1 = ap length added ∙ length_push bits v in
    record {
      count = omega (arith, p.count);
      done = rw (e, added) (append_assoc bits (v ∷ []) _ ∙ (ap (λ xs. bits ++ xs) (sym s) ∙ p.done));
    }

-- The first k gates are worked out.
pub record GatesDone (c : Net) (a : ℕ) (bits : List Bool) (k : ℕ) : Type 0 where
  pub count : length bits ≡ length c.inputs + k
  pub done : worked_out nothing k bits (drop k c.gates) ≡ carried c a

pub gates_none : (c : Net) (a : ℕ) (bits : List Bool) (k : ℕ) → k ≡ 0 → InputsDone c.inputs a bits k → GatesDone c a bits 0
unfolding stems_with input_stems
gates_none c a bits k e p =
    let all : bits ≡ input_stems nothing 0 c.inputs a =
    sym (append-nil bits) ∙ (ap (λ xs. bits ++ input_stems nothing (length bits) xs a) (sym (drop_all (length bits) c.inputs (omega (arith, p.count)))) ∙ p.done)
    in
    record { count = omega (arith, p.count); done = ap (λ xs. worked_out nothing 0 xs c.gates) all }

-- the next gate is legal after the stems before it
pub gate_next :
    (c : Net) (a : ℕ) (bits : List Bool) (k : ℕ) (g : Gate) → gates_legal (length c.inputs) c.gates ≡ true → k < length c.gates → g ≡ get_or c.gates k g →
    GatesDone c a bits k → gate_legal (length bits) g ≡ true
gate_next c a bits k g legal h is p = rw (p.count, is) (gate_at (length c.inputs) c.gates k g legal h)

pub gates_more :
    (c : Net) (a : ℕ) (bits more : List Bool) (k : ℕ) (g : Gate) (b : Bool) → k < length c.gates → g ≡ get_or c.gates k g → b ≡ gate_bit g.kind (received nothing k 0 bits (pins_of g)) →
    more ≡ bits ++ b ∷ [] → GatesDone c a bits k → GatesDone c a more (k + 1)
unfolding worked_out
gates_more c a bits more k g b h is e added p =
    let d : drop k c.gates ≡ g ∷ drop (k + 1) c.gates = drop_more c.gates k g h ∙ ap (λ x. x ∷ drop (k + 1) c.gates) (sym is) in
    let l : length more ≡ length bits + 1 = ap length added ∙ length_push bits b in
    record {
      count = omega (arith, p.count);
      done =
          ap (λ xs. worked_out nothing (k + 1) xs (drop (k + 1) c.gates)) added
          ∙ (ap (λ m. worked_out nothing m (bits ++ b ∷ []) (drop (k + 1) c.gates)) (add-one k)
          ∙ (ap (λ x. worked_out nothing (suc k) (bits ++ x ∷ []) (drop (k + 1) c.gates)) e
          ∙ (ap (λ gs. worked_out nothing k bits gs) (sym d) ∙ p.done)));
    }

pub gates_all : (c : Net) (a : ℕ) (bits : List Bool) (k : ℕ) → length c.gates ≤ k → GatesDone c a bits k → bits ≡ carried c a
unfolding worked_out
gates_all c a bits k e p = ap (λ gs. worked_out nothing k bits gs) (sym (drop_all k c.gates e)) ∙ p.done

-- an output reads a stem
pub output_reads : (s : ℕ) (xs : List Output) (k : ℕ) → outputs_legal s xs ≡ true → IfSome (option_map (λ (x : Output). x.pin) (slice_get xs k)) (λ p. p.stem < s)
unfolding outputs_legal
output_reads s [] k h = tt
output_reads s (y ∷ ys) zero h = ltb-true y.pin.stem s (and_parts (ltb y.pin.stem s) (outputs_legal s ys) h).0
output_reads s (y ∷ ys) (suc k) h = output_reads s ys k (and_parts (ltb y.pin.stem s) (outputs_legal s ys) h).1

some_pin_reads : (s : ℕ) (ps : List Pin) (i : ℕ) → pins_read s ps ≡ true → IfSome (slice_get ps i) (λ p. p.stem < s)
unfolding pins_read
some_pin_reads s [] i h = tt
some_pin_reads s (p ∷ ps) zero h = ltb-true p.stem s (and_parts (ltb p.stem s) (pins_read s ps) h).0
some_pin_reads s (p ∷ ps) (suc i) h = some_pin_reads s ps i (and_parts (ltb p.stem s) (pins_read s ps) h).1

-- a pin of a gate reads a stem
pub pin_at_reads : (n : ℕ) (gs : List Gate) (k i : ℕ) → gates_legal n gs ≡ true → IfSome (pin_at gs k i) (λ p. p.stem < n + length gs)
unfolding gates_legal
pin_at_reads n [] k i h = tt
pin_at_reads n (g ∷ gs) zero i h =
    let legal = (and_parts (gate_legal n g) (gates_legal (suc n) gs) h).0 in
    IfSome_then (slice_get (pins_of g) i) (some_pin_reads n (pins_of g) i (and_parts (fits g.kind (length (pins_of g))) (pins_read n (pins_of g)) legal).1) (λ p e. omega arith)
pin_at_reads n (g ∷ gs) (suc k) i h =
    IfSome_then (pin_at gs k i) (pin_at_reads (suc n) gs k i (and_parts (gate_legal n g) (gates_legal (suc n) gs) h).1) (λ p e. omega arith)

pub input_stems_length : (u : Put) (i : ℕ) (xs : List Name) (a : ℕ) → length (input_stems u i xs a) ≡ length xs
unfolding input_stems
input_stems_length u i [] a = refl
input_stems_length u i (x ∷ xs) a = ap suc (input_stems_length u (suc i) xs a)

worked_out_length : (u : Put) (g : ℕ) (stems : List Bool) (xs : List Gate) → length (worked_out u g stems xs) ≡ length stems + length xs
unfolding worked_out
worked_out_length u g stems [] = omega arith
worked_out_length u g stems (x ∷ xs) =
    let b = gate_stem u g stems x in
    omega (arith, worked_out_length u (suc g) (stems ++ b ∷ []) xs, length_push stems b)

-- there is a bit for each stem
pub stems_length : (u : Put) (c : Net) (a : ℕ) → length (stems_with u c a) ≡ stem_count c
unfolding stems_with
stems_length u c a = worked_out_length u 0 (input_stems u 0 c.inputs a) c.gates ∙ ap (λ n. n + length c.gates) (input_stems_length u 0 c.inputs a)
