-- What one record of the netlist does.
use Rattle.std.proofs.Common.{◌≡◌, ℕ, Bool, true, List, Some, None, Ok, Err, Result, sym, refl, ap, ◌∙◌, subst, arith}
use Rattle.std.specs.Option.{option_map}
use Rattle.circuits.specs.declared.kind.Kind.{Kind}
use Rattle.circuits.specs.declared.name.Name.{Name}
use Rattle.circuits.specs.declared.pin.Pin.{Pin}
use Rattle.circuits.specs.Circuits.{name_bytes}
use Rattle.circuits.specs.Drafts.{Parts}
use Rattle.texts.specs.declared.fault.Cause.{Cause}
use Rattle.texts.specs.declared.group.Group.{Group}
use Rattle.texts.specs.declared.group.Group.TheVariants.{Inputs, Gates, Outputs}
use Rattle.texts.specs.declared.group.RecordKind.{RecordKind}
use Rattle.texts.specs.declared.shape.Shaped.{Shaped}
use Rattle.texts.specs.declared.shape.Shaped.TheVariants as shaped
use Rattle.texts.specs.Adding.{Reached, stem_named, pin_named, GateAdded, output_cause, OutputAdded}
use Rattle.texts.specs.Fields.{marked_word, has_mark}
use Rattle.texts.specs.Groups.{next}
use Rattle.texts.specs.Netlist.{shape_kind, Spells, shape_cause, Declared, Taken, shapeless, late, refused, added}
use Rattle.texts.specs.Records.{fields}
use Rattle.texts.specs.Shapes.{Shape, input, gate, output, shape_fields, well_shaped, shape_of, shaped_kind}
use Rattle.texts.proofs.Words.{mark_of_word, name_of_word}

abbrev a_pin : ℕ → Bool → Pin
a_pin k m = record { stem = k; mark = m }

abbrev Fitting : List ℕ → Shaped → Type 0
Fitting bs x = (well_shaped (shape_of x) ≡ true) × (fields bs ≡ shape_fields (shape_of x))

spelt : (bs : List ℕ) (x : Shaped) → Fitting bs x → Spells bs (shape_of x)
spelt bs x h = record { good = h.0; parts = h.1 }

kind_same : (x : Shaped) → shaped_kind x ≡ shape_kind (shape_of x)
kind_same (shaped.Input x) = refl
kind_same (shaped.Gate x k ps) = refl
kind_same (shaped.Output x m s) = refl

module _ (d : Parts) (g : Group) (bs : List ℕ) (x : Shaped) (k : RecordKind) (told : Fitting bs x) (kind : k ≡ shaped_kind x) where
  onto : (r : Result Group Cause) → r ≡ next g k → next g (shape_kind (shape_of x)) ≡ r
  onto r e = sym (e ∙ ap (next g) (kind ∙ kind_same x))

  pub taken_late : (c : Cause) → Err c ≡ next g k → Taken d g bs (Err c) d
  taken_late c e = late (shape_of x) c (spelt bs x told) (onto (Err c) e)

  pub taken_refused : (y : Shaped) (g' : Group) (c : Cause) (d' : Parts) → x ≡ y → Ok g' ≡ next g k → shape_cause d (shape_of y) ≡ Some c → d' ≡ d → Taken d g bs (Err c) d'
  taken_refused y g' c d' is e f same =
      subst (Taken d g bs (Err c)) (sym same) (refused (shape_of x) g' c (spelt bs x told) (onto (Ok g') e) (ap (λ z. shape_cause d (shape_of z)) is ∙ f))

  pub taken_added : (y : Shaped) (g' : Group) (d' : Parts) → x ≡ y → Ok g' ≡ next g k → shape_cause d (shape_of y) ≡ None → Declared d (shape_of y) d' → Taken d g bs (Ok g') d'
  taken_added y g' d' is e f h =
      added (shape_of x) g' d' (spelt bs x told) (onto (Ok g') e) (ap (λ z. shape_cause d (shape_of z)) is ∙ f) (subst (λ z. Declared d (shape_of z) d') (sym is) h)

-- The group that is reached stays in step with the parts.
pub onward : (d : Parts) (g : Group) (s : Shape) (g' : Group) (d' : Parts) → Reached g d → next g (shape_kind s) ≡ Ok g' → Declared d s d' → Reached g' d'
onward d Inputs (input x) g' d' r e h =
    let same : Inputs ≡ g' = cc in
    subst (λ q. Reached q d') same (ap (λ p. p.circuit.gates) h.2 ∙ r.0, ap (λ p. p.circuit.outputs) h.2 ∙ r.1, ap (λ p. p.rows) h.2 ∙ r.2)
onward d Inputs (gate x k ps) g' d' r e h =
    let same : Gates ≡ g' = cc in subst (λ q. Reached q d') same (ap (λ p. p.circuit.outputs) h.4 ∙ r.1, ap (λ p. p.rows) h.4 ∙ r.2)
onward d Inputs (output x p) g' d' r e h = let same : Outputs ≡ g' = cc in subst (λ q. Reached q d') same (ap (λ q. q.rows) h.3 ∙ r.2)
onward d Gates (input x) g' d' r e h = let z : ◌≡◌ {A = ℕ} 0 1 = cc in absurd (omega arith)
onward d Gates (gate x k ps) g' d' r e h =
    let same : Gates ≡ g' = cc in subst (λ q. Reached q d') same (ap (λ p. p.circuit.outputs) h.4 ∙ r.0, ap (λ p. p.rows) h.4 ∙ r.1)
onward d Gates (output x p) g' d' r e h = let same : Outputs ≡ g' = cc in subst (λ q. Reached q d') same (ap (λ q. q.rows) h.3 ∙ r.1)
onward d Outputs (input x) g' d' r e h = let z : ◌≡◌ {A = ℕ} 0 1 = cc in absurd (omega arith)
onward d Outputs (gate x k ps) g' d' r e h = let z : ◌≡◌ {A = ℕ} 0 1 = cc in absurd (omega arith)
onward d Outputs (output x p) g' d' r e h = let same : Outputs ≡ g' = cc in subst (λ q. Reached q d') same (ap (λ q. q.rows) h.3 ∙ r)

-- A part that was added is the one that the record declares.
pub gate_declared : (d : Parts) (x : Name) (k : Kind) (ps : List (List ℕ)) (d' : Parts) → GateAdded d x k ps d' → Declared d (gate (name_bytes x) k ps) d'
gate_declared d x k ps d' h = (h.gate, ap name_bytes h.named, h.of_kind, h.with_pins, h.added)

pub output_declared : (d : Parts) (x : Name) (m : Bool) (s : Name) (d' : Parts) → OutputAdded d x m (name_bytes s) d' → Declared d (output (name_bytes x) (marked_word m (name_bytes s))) d'
output_declared d x m s d' h =
    let w = marked_word m (name_bytes s) in
    let pin : pin_named d w ≡ Some h.output.pin =
    ap (λ y. option_map (λ k. a_pin k (has_mark w)) (stem_named d y)) (name_of_word m s)
    ∙ (ap (option_map (λ k. a_pin k (has_mark w))) h.reads ∙ ap (λ b. Some (a_pin h.output.pin.stem b)) (mark_of_word m s ∙ sym h.marked))
    in
    (h.output, ap name_bytes h.named, pin, h.added)

pub output_told : (d : Parts) (x : List ℕ) (m : Bool) (s : Name) → shape_cause d (output x (marked_word m (name_bytes s))) ≡ output_cause d x (name_bytes s)
output_told d x m s = ap (output_cause d x) (name_of_word m s)

-- the group after a record that was added
pub onward_taken : (d : Parts) (g : Group) (bs : List ℕ) (g' : Group) (d' : Parts) → Reached g d → Taken d g bs (Ok g') d' → Reached g' d'
onward_taken d g bs g' d' r (added s q e w next' f h) = onward d g s g' d' r next' h

-- A record that is refused leaves the parts.
pub taken_left : (d : Parts) (g : Group) (bs : List ℕ) (c : Cause) (d' : Parts) → Taken d g bs (Err c) d' → Taken d g bs (Err c) d
taken_left d g bs c d' (shapeless h) = shapeless h
taken_left d g bs c d' (late s e w f) = late s c w f
taken_left d g bs c d' (refused s q e w n f) = refused s q c w n f
