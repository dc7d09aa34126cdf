-- What outputs meet, and counting those that miss their rows.
use Rattle.std.proofs.Common.{take, ◌≡◌, ℕ, zero, suc, ◌+◌, ◌<◌, ◌≤◌, Bool, true, false, cond, not, ◌⊎◌, List, length, get_or, drop, Some, None, Option, unwrap_or, sym, refl, ap, ◌∙◌, inl, inr, ⊎_elim, add-one, arith}
use Rattle.std.specs.Option.{option_map}
use Rattle.std.specs.List.{slice_get, filter, range_with_len}
use Rattle.std.proofs.lemmas.List.Filters.{length-filter_more}
use Rattle.std.proofs.lemmas.List.FromFn.{length-range_with_len, get_or-range_with_len}
use Rattle.std.proofs.lemmas.List.{take_all, drop_all}
use Rattle.std.proofs.lemmas.Bool.{and_parts, and_from, cases_order}
use Rattle.circuits.specs.declared.gate.Output.{Output}
use Rattle.circuits.specs.declared.pin.Pin.{Pin}
use Rattle.circuits.specs.declared.row.SpecRow.{SpecRow}
use Rattle.circuits.specs.Circuits.{Net, assignments, carried, through}
use Rattle.circuits.specs.Specification.{bound, obeys, each_below, meets, misses, misses_from}
use Rattle.circuits.proofs.Working.{element}

cases_last : (k n : ℕ) → k < suc n → (k ≡ n) ⊎ (k < n)
cases_last k n h = ⊎_elim inl (⊎_elim inr (λ g. let z : ⊥ = omega arith in absurd z)) (cases_order k n)

-- a test that holds of each number below n, and back
pub each_below_at : (n k : ℕ) (t : ℕ → Bool) → each_below n t ≡ true → k < n → t k ≡ true
unfolding each_below
each_below_at zero k t h l = let z : ⊥ = omega arith in absurd z
each_below_at (suc n) k t h l =
    let p = and_parts (each_below n t) (t n) h in
    ⊎_elim (λ same. rw same p.1) (λ less. each_below_at n k t p.0 less) (cases_last k n l)

pub each_below_from : (n : ℕ) (t : ℕ → Bool) → ((k : ℕ) → k < n → t k ≡ true) → each_below n t ≡ true
unfolding each_below
each_below_from zero t h = refl
each_below_from (suc n) t h = and_from (each_below n t) (t n) (each_below_from n t (λ k l. h k (omega arith))) (h n (omega arith))

swap_cond : (t : Bool) (x y : ℕ) → cond (not t) x y ≡ cond t y x
swap_cond true x y = refl
swap_cond false x y = refl

-- whether there is an output of this number and it misses its rows
abbrev pub missed : Net → List SpecRow → ℕ → Bool
missed c rows k = unwrap_or (option_map (λ x. not (meets c rows k x)) (slice_get c.outputs k)) false

-- how many of the first i numbers are of outputs that miss their rows, and what is left
counted : (c : Net) (rows : List SpecRow) (i : ℕ) → i ≤ length c.outputs →
    length (filter (missed c rows) (take i (range_with_len 0 (length c.outputs)))) + misses_from c rows i (drop i c.outputs) ≡ misses c rows
unfolding misses_from
counted c rows zero h = omega arith
counted c rows (suc i) h =
    let n = length c.outputs in
    let x = element c.outputs i (omega arith) in
    let met = meets c rows i x.0 in
    let is : missed c rows i ≡ not met = rw x.2 refl in
    let left : misses_from c rows i (drop i c.outputs) ≡ cond met 0 1 + misses_from c rows (i + 1) (drop (i + 1) c.outputs) =
    ap (λ xs. misses_from c rows i xs) x.1 ∙ ap (λ k. cond met 0 1 + misses_from c rows k (drop (i + 1) c.outputs)) (sym (add-one i))
    in
    let same : ◌≡◌ {A = ℕ} (cond (missed c rows i) 1 0) (cond met 0 1) = ap {A = Bool} {B = ℕ} (λ t. cond t 1 0) is ∙ swap_cond met 1 0 in
    let at : get_or (range_with_len 0 n) i 0 ≡ i = get_or-range_with_len 0 n i 0 (omega arith) ∙ omega arith in
    let more : length (filter (missed c rows) (take (i + 1) (range_with_len 0 n))) ≡ length (filter (missed c rows) (take i (range_with_len 0 n))) + cond (missed c rows i) 1 0 =
    length-filter_more (missed c rows) (range_with_len 0 n) i 0 (omega (arith, length-range_with_len 0 n)) ∙ ap (λ k. length (filter (missed c rows) (take i (range_with_len 0 n))) + cond (missed c rows k) 1 0) at
    in
    rw (← add-one i) (omega (arith, counted c rows i (omega arith)))

pub misses_counted : (c : Net) (rows : List SpecRow) → misses c rows ≡ length (filter (missed c rows) (range_with_len 0 (length c.outputs)))
unfolding misses_from
misses_counted c rows =
    let n = length c.outputs in
    let all : take n (range_with_len 0 n) ≡ range_with_len 0 n = take_all n (range_with_len 0 n) (omega (arith, length-range_with_len 0 n)) in
    let none : misses_from c rows n (drop n c.outputs) ≡ 0 = ap (λ xs. misses_from c rows n xs) (drop_all n c.outputs (omega arith)) in
    let e = counted c rows n (omega arith) in
    sym (rw (none, all) at e) ∙ omega arith

-- what an output meets, by the pin that it is read through
pub meets_by_pin :
    (c : Net) (rows : List SpecRow) (k : ℕ) (p : Pin) (b : Bool) → Some p ≡ option_map (λ (x : Output). x.pin) (slice_get c.outputs k) →
    b ≡ each_below (assignments c) (λ a. obeys (bound rows k a) (through p (carried c a))) → Some b ≡ option_map (meets c rows k) (slice_get c.outputs k)
meets_by_pin c rows k p b is e = go (slice_get c.outputs k) is
  where
    go : (o : Option Output) → Some p ≡ option_map (λ (x : Output). x.pin) o → Some b ≡ option_map (meets c rows k) o
    go None f = let z : ◌≡◌ {A = ℕ} 0 1 = cc in let y : ⊥ = omega arith in absurd y
    go (Some x) f =
        let g : p ≡ x.pin = cc in
        ap (λ t. Some t) (e ∙ ap (λ q. each_below (assignments c) (λ a. obeys (bound rows k a) (through q (carried c a)))) g)
