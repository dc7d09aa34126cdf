-- What speaks against a part that a record names is what speaks against the part itself.
use Rattle.std.proofs.Common.{◌≡◌, ℕ, suc, ◌+◌, ◌<◌, Bool, true, false, cond, not, ◌||◌, ltb, leb, List, [], ◌∷◌, map, length, is_some, Some, None, Option, refl, ap, ◌∙◌, subst, arith}
use Rattle.std.proofs.lemmas.List.{length-append, length-map}
use Rattle.std.proofs.lemmas.Bool.{and_from, lt-ltb, lt-leb}
use Rattle.std.specs.Str.{bytes_eq}
use Rattle.std.specs.Option.{option_map}
use Rattle.circuits.specs.declared.fault.PartFault.TheVariants as part
use Rattle.circuits.specs.declared.gate.Gate.{Gate}
use Rattle.circuits.specs.declared.gate.Output.{Output}
use Rattle.circuits.specs.declared.pin.Pin.{Pin}
use Rattle.circuits.specs.Circuits.{name_bytes, pins_of}
use Rattle.circuits.specs.Drafts.{Parts, check, some_yet, gate_fault, output_fault}
use Rattle.circuits.specs.Kinds.{fits}
use Rattle.circuits.specs.Legality.{position, among, stem_names, output_names, pins_read}
use Rattle.circuits.specs.Lines.{stem_count, then}
use Rattle.texts.specs.Adding.{cause_if, Reached, stem_named, pins_named, pins_cause, gate_cause, output_cause}
use Rattle.texts.specs.Fields.{has_mark, past_mark}
use Rattle.texts.specs.declared.fault.Cause.TheVariants.{Naming, Limit, PinCount}
use Rattle.texts.specs.declared.group.Group.TheVariants.{Gates, Outputs}
use Rattle.texts.specs.Faults.{cause_of}

abbrev a_pin : ℕ → Bool → Pin
a_pin k m = record { stem = k; mark = m }

-- What is found stands in the list.
pub position_within : (i : ℕ) (w : List ℕ) (xs : List (List ℕ)) (k : ℕ) → position i w xs ≡ Some k → k < i + length xs
unfolding position
position_within i w [] k e = let z : ◌≡◌ {A = ℕ} 0 1 = cc in absurd (omega arith)
position_within i w (x ∷ xs) k e =
    elim (bytes_eq w x) as (λ t. cond t (Some i) (position (suc i) w xs) ≡ Some k → k < i + suc (length xs)) [
      | true ↦ λ q. let same : i ≡ k = cc in omega arith
      | false ↦ λ q. omega (arith, position_within (suc i) w xs k q)
    ] e

pub stem_within : (d : Parts) (w : List ℕ) (k : ℕ) → stem_named d w ≡ Some k → k < stem_count d.circuit
stem_within d w k e =
    let h = position_within 0 w (stem_names d.circuit) k e in
    omega (
      arith,
      length-append (map name_bytes d.circuit.inputs) (map (λ (g : Gate). name_bytes g.name) d.circuit.gates),
      length-map d.circuit.inputs name_bytes,
      length-map d.circuit.gates (λ (g : Gate). name_bytes g.name),
    )

-- The pins that fields write read stems that stand.
read_more :
    (s : ℕ) (o : Option ℕ) (m : Bool) (rest : Option (List Pin)) (ps : List Pin) → ((k : ℕ) → o ≡ Some k → k < s) → ((qs : List Pin) → rest ≡ Some qs → pins_read s qs ≡ true) →
    then (option_map (λ k. a_pin k m) o) (λ p. option_map (λ qs. p ∷ qs) rest) ≡ Some ps → pins_read s ps ≡ true
unfolding pins_read
read_more s None m rest ps low all e = let z : ◌≡◌ {A = ℕ} 0 1 = cc in absurd (omega arith)
read_more s (Some k) m None ps low all e = let z : ◌≡◌ {A = ℕ} 0 1 = cc in absurd (omega arith)
read_more s (Some k) m (Some qs) ps low all e =
    let same : a_pin k m ∷ qs ≡ ps = cc in
    subst (λ l. pins_read s l ≡ true) same (and_from (ltb k s) (pins_read s qs) (lt-ltb k s (low k refl)) (all qs refl))

pub named_read : (d : Parts) (fs : List (List ℕ)) (ps : List Pin) → pins_named d fs ≡ Some ps → pins_read (stem_count d.circuit) ps ≡ true
unfolding pins_named pins_read
named_read d [] ps e = let same : ◌≡◌ {A = List Pin} [] ps = cc in subst (λ l. pins_read (stem_count d.circuit) l ≡ true) same refl
named_read d (f ∷ fs) ps e = read_more (stem_count d.circuit) (stem_named d (past_mark f)) (has_mark f) (pins_named d fs) ps (λ k h. stem_within d (past_mark f) k h) (λ qs h. named_read d fs qs h) e

-- the checks that are left to a draft
gate_way :
    (late full taken unread misfit : Bool) → late ≡ false → full ≡ false → taken ≡ false → unread ≡ false →
    cause_if full Limit (cause_if taken Naming (cause_if misfit PinCount None)) ≡ option_map cause_of (check late part.Order (check full part.Limit (check (taken || unread) part.Naming (check misfit part.PinCount None))))
gate_way late full taken unread misfit a b c d =
    rw (a, b, c, d) (elim misfit as (λ t. cause_if t PinCount None ≡ option_map cause_of (check t part.PinCount None)) [ true ↦ refl | false ↦ refl ])

pub gate_same :
    (d : Parts) (g : Gate) (fs : List (List ℕ)) → Reached Gates d → leb 64 (length d.circuit.gates) ≡ false → among (name_bytes g.name) (stem_names d.circuit) ≡ false → pins_named d fs ≡ Some (pins_of g) →
    gate_cause d (name_bytes g.name) g.kind fs ≡ option_map cause_of (gate_fault d g)
gate_same d g fs r room free pins =
    let none : (some_yet d.circuit.outputs || some_yet d.rows) ≡ false = rw (r.0, r.1) refl in
    let stand : not (pins_read (stem_count d.circuit) (pins_of g)) ≡ false = ap not (named_read d fs (pins_of g) pins) in
    ap (λ x. cause_if (leb 64 (length d.circuit.gates)) Limit (cause_if (among (name_bytes g.name) (stem_names d.circuit)) Naming (pins_cause g.kind x))) pins
    ∙ gate_way (some_yet d.circuit.outputs || some_yet d.rows) (leb 64 (length d.circuit.gates)) (among (name_bytes g.name) (stem_names d.circuit)) (not (pins_read (stem_count d.circuit) (pins_of g))) (not (fits g.kind (length (pins_of g)))) none room free stand

output_way :
    (late full taken unknown unread : Bool) → late ≡ false → full ≡ false → unknown ≡ false → unread ≡ false →
    cause_if full Limit (cause_if (taken || unknown) Naming None) ≡ option_map cause_of (check late part.Order (check full part.Limit (check (taken || unread) part.Naming None)))
output_way late full taken unknown unread a b c d =
    rw (a, b, c, d) (elim taken as (λ t. cause_if (t || false) Naming None ≡ option_map cause_of (check (t || false) part.Naming None)) [ true ↦ refl | false ↦ refl ])

pub output_same :
    (d : Parts) (x : Output) (s : List ℕ) → Reached Outputs d → leb 16 (length d.circuit.outputs) ≡ false → stem_named d s ≡ Some x.pin.stem →
    output_cause d (name_bytes x.name) s ≡ option_map cause_of (output_fault d x)
output_same d x s r room found =
    let none : some_yet d.rows ≡ false = rw r refl in
    let known : not (among s (stem_names d.circuit)) ≡ false = ap (λ o. not (is_some o)) found in
    let stands = lt-leb (stem_count d.circuit) x.pin.stem (stem_within d s x.pin.stem found) in
    output_way (some_yet d.rows) (leb 16 (length d.circuit.outputs)) (among (name_bytes x.name) (output_names d.circuit)) (not (among s (stem_names d.circuit))) (leb (stem_count d.circuit) x.pin.stem) none room known stands
