-- Rows that a record writes.
use Rattle.std.proofs.Common.{◌≡◌, ℕ, ◌<◌, ◌≤◌, Bool, true, false, not, eqb, List, length, Some, None, sym, refl, ap, ◌∙◌, subst, arith}
use Rattle.std.proofs.lemmas.List.{length-map}
use Rattle.std.proofs.lemmas.Bool.{lt-leb, eqb-true, eq-eqb, both_ways}
use Rattle.circuits.specs.declared.fault.PartFault.{PartFault}
use Rattle.circuits.specs.declared.fault.PartFault.TheVariants as part
use Rattle.circuits.specs.declared.gate.Output.{Output}
use Rattle.circuits.specs.declared.literal.Literal.{Literal}
use Rattle.circuits.specs.declared.row.SpecRow.{SpecRow}
use Rattle.circuits.specs.Circuits.{name_bytes}
use Rattle.circuits.specs.Drafts.{Parts, check, row_fault, with_row}
use Rattle.circuits.specs.Legality.{agrees, output_names}
use Rattle.circuits.specs.Specification.{literals_of}
use Rattle.circuits.proofs.Fronts.{few}
use Rattle.texts.specs.Adding.{output_named, RowWritten, RowAdded, RowRefused, unwritten, contradiction}
use Rattle.texts.specs.Faults.{cause_of}
use Rattle.texts.specs.Fields.{literal_byte, pattern_word, value_word}
use Rattle.texts.proofs.Additions.{position_within}

-- Where the pattern or the value writes nothing, no row is written.
pub no_pattern : (d : Parts) (x p v : List ℕ) → ((ls : List Literal) → length ls ≤ 12 → p ≡ pattern_word ls → ⊥) → (row : SpecRow) → RowWritten d x p v row → ⊥
no_pattern d x p v none row w = none (literals_of row) (few row.pattern) w.matches

pub no_value : (d : Parts) (x p v : List ℕ) → ((b : Bool) → v ≡ value_word b → ⊥) → (row : SpecRow) → RowWritten d x p v row → ⊥
no_value d x p v none row w = none row.value w.holds

pub output_within : (d : Parts) (w : List ℕ) (k : ℕ) → output_named d w ≡ Some k → k < length d.circuit.outputs
output_within d w k e = omega (arith, position_within 0 w (output_names d.circuit) k e, length-map d.circuit.outputs (λ (x : Output). name_bytes x.name))

-- what is left to check of a row
row_left : (d : Parts) (row : SpecRow) → length d.rows < 256 → row.output < length d.circuit.outputs → row_fault d row ≡ check (not (eqb (length (literals_of row)) (length d.circuit.inputs))) part.Literals (check (not (agrees d.rows row)) part.Contradiction None)
row_left d row room stands = rw (lt-leb 256 (length d.rows) room, lt-leb (length d.circuit.outputs) row.output stands) refl

same_length : (d : Parts) (x p v : List ℕ) (row other : SpecRow) → p ≡ pattern_word (literals_of row) → RowWritten d x p v other → length (literals_of row) ≡ length d.circuit.inputs
same_length d x p v row other e w =
    sym (length-map (literals_of row) literal_byte) ∙ (ap length (sym e ∙ w.matches) ∙ (length-map (literals_of other) literal_byte ∙ w.one_each))

module _ (d : Parts) (x p v : List ℕ) (row : SpecRow) (room : length d.rows < 256) (named : output_named d x ≡ Some row.output) (spelt : p ≡ pattern_word (literals_of row)) (valued : v ≡ value_word row.value) where
  each : eqb (length (literals_of row)) (length d.circuit.inputs) ≡ true → RowWritten d x p v row
  each e = record { names = named; matches = spelt; one_each = eqb-true _ _ e; holds = valued }

  refused_by : (one fits : Bool) (f : PartFault) → eqb (length (literals_of row)) (length d.circuit.inputs) ≡ one → agrees d.rows row ≡ fits → check (not one) part.Literals (check (not fits) part.Contradiction None) ≡ Some f → RowRefused d x p v (cause_of f)
  refused_by false fits f a b e =
      let same : part.Literals ≡ f = cc in
      subst (λ g. RowRefused d x p v (cause_of g)) same
      (unwritten room row.output named (λ other w. both_ways _ a (eq-eqb _ _ (same_length d x p v row other spelt w))))
  refused_by true false f a b e = let same : part.Contradiction ≡ f = cc in subst (λ g. RowRefused d x p v (cause_of g)) same (contradiction room row (each a) b)
  refused_by true true f a b e = let z : ◌≡◌ {A = ℕ} 0 1 = cc in absurd (omega arith)

  added_by : (one fits : Bool) → eqb (length (literals_of row)) (length d.circuit.inputs) ≡ one → agrees d.rows row ≡ fits → check (not one) part.Literals (check (not fits) part.Contradiction None) ≡ None → RowWritten d x p v row × (agrees d.rows row ≡ true)
  added_by false fits a b e = let z : ◌≡◌ {A = ℕ} 0 1 = cc in absurd (omega arith)
  added_by true false a b e = let z : ◌≡◌ {A = ℕ} 0 1 = cc in absurd (omega arith)
  added_by true true a b e = (each a, b)

  pub row_refused : (f : PartFault) → row_fault d row ≡ Some f → RowRefused d x p v (cause_of f)
  row_refused f e = refused_by _ _ f refl refl (sym (row_left d row room (output_within d x row.output named)) ∙ e)

  pub row_added : (d' : Parts) → row_fault d row ≡ None → d' ≡ with_row d row → RowAdded d x p v d'
  row_added d' e same =
      let w = added_by _ _ refl refl (sym (row_left d row room (output_within d x row.output named)) ∙ e) in
      record { row = row; room = room; written = w.0; consistent = w.1; added = same }
