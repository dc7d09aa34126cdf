-- What the parts that a record names do to a design that is being read.
use Rattle.std.specs.Prelude.{◌≡◌, ℕ, ◌<◌, ◌≤◌, Bool, true, false, cond, not, ◌||◌, List, [], ◌∷◌, length, Some, None, Option, Result, MatchResult, nat_le}
use Rattle.std.specs.Option.{option_map}
use Rattle.circuits.specs.declared.gate.Gate.{Gate}
use Rattle.circuits.specs.declared.gate.Output.{Output}
use Rattle.circuits.specs.declared.kind.Kind.{Kind}
use Rattle.circuits.specs.declared.name.Name.{Name}
use Rattle.circuits.specs.declared.pin.Pin.{Pin}
use Rattle.circuits.specs.declared.row.SpecRow.{SpecRow}
use Rattle.circuits.specs.Circuits.{Pins, pin_list, pins_of}
use Rattle.circuits.specs.Drafts.{Parts, with_gate, with_output, with_row}
use Rattle.circuits.specs.Kinds.{fits}
use Rattle.circuits.specs.Legality.{position, among, stem_names, output_names, agrees}
use Rattle.circuits.specs.Lines.{then}
use Rattle.circuits.specs.Specification.{literals_of}
use Rattle.texts.specs.declared.fault.Cause.{Cause}
use Rattle.texts.specs.declared.fault.Cause.TheVariants.{Naming, Limit, PinCount, Literals, Contradiction}
use Rattle.texts.specs.declared.group.Group.{Group}
use Rattle.texts.specs.declared.group.Group.TheVariants.{Inputs, Gates, Outputs}
use Rattle.texts.specs.Fields.{has_mark, past_mark, pattern_word, value_word}

-- a cause where a condition holds, and else what the later checks find
abbrev pub cause_if : Bool → Cause → Option Cause → Option Cause
cause_if b c later = cond b (Some c) later

-- What is asked for is done where nothing speaks against it. Where something does, its cause is told, and all is left.
abbrev pub Settled : Option Cause → Type 0 → Type 0 → Result Unit Cause → Type 0
Settled cause done left r = MatchResult r (λ _. (cause ≡ None) × done) (λ c. (cause ≡ Some c) × left)

-- No part of a later group stands.
abbrev pub Reached : Group → Parts → Type 0
Reached Inputs d = (d.circuit.gates ≡ []) × (d.circuit.outputs ≡ []) × (d.rows ≡ [])
Reached Gates d = (d.circuit.outputs ≡ []) × (d.rows ≡ [])
Reached Outputs d = d.rows ≡ []

abbrev pub stem_named : Parts → List ℕ → Option ℕ
stem_named d w = position 0 w (stem_names d.circuit)

abbrev pub output_named : Parts → List ℕ → Option ℕ
output_named d w = position 0 w (output_names d.circuit)

-- the pin that a field writes, if its stem is known
abbrev pub pin_named : Parts → List ℕ → Option Pin
pin_named d f = option_map (λ k. record { stem = k; mark = has_mark f }) (stem_named d (past_mark f))

-- the pins that these fields write, if the stem of each is known
unfoldable pub pins_named : Parts → List (List ℕ) → Option (List Pin)
pins_named d [] = Some []
pins_named d (f ∷ fs) = then (pin_named d f) (λ p. option_map (λ ps. p ∷ ps) (pins_named d fs))

-- Pins that are looked up: the stem of each has to be known, and then there may be at most four.
abbrev pub PinsRefused : Option (List Pin) → Cause → Type 0
PinsRefused None c = c ≡ Naming
PinsRefused (Some ps) c = (4 < length ps) × (c ≡ PinCount)

abbrev pub PinsRead : Option (List Pin) → Result Pins Cause → Type 0
PinsRead named r = MatchResult r (λ p. named ≡ Some (pin_list p)) (λ c. PinsRefused named c)

-- what speaks against an input
abbrev pub input_cause : Parts → List ℕ → Option Cause
input_cause d x = cause_if (nat_le 12 (length d.circuit.inputs)) Limit (cause_if (among x (stem_names d.circuit)) Naming None)

-- against a gate
abbrev pub pins_cause : Kind → Option (List Pin) → Option Cause
pins_cause k None = Some Naming
pins_cause k (Some ps) = cause_if (not (fits k (length ps))) PinCount None

abbrev pub gate_cause : Parts → List ℕ → Kind → List (List ℕ) → Option Cause
gate_cause d x k fs =
    cause_if (nat_le 64 (length d.circuit.gates)) Limit (cause_if (among x (stem_names d.circuit)) Naming (pins_cause k (pins_named d fs)))

pub record GateAdded (d : Parts) (x : Name) (k : Kind) (fs : List (List ℕ)) (d' : Parts) : Type 0 where
  pub gate : Gate
  pub named : gate.name ≡ x
  pub of_kind : gate.kind ≡ k
  pub with_pins : pins_named d fs ≡ Some (pins_of gate)
  pub added : d' ≡ with_gate d gate

-- against an output
abbrev pub output_cause : Parts → List ℕ → List ℕ → Option Cause
output_cause d x s =
    cause_if (nat_le 16 (length d.circuit.outputs)) Limit (cause_if (among x (output_names d.circuit) || not (among s (stem_names d.circuit))) Naming None)

pub record OutputAdded (d : Parts) (x : Name) (m : Bool) (s : List ℕ) (d' : Parts) : Type 0 where
  pub output : Output
  pub named : output.name ≡ x
  pub marked : output.pin.mark ≡ m
  pub reads : stem_named d s ≡ Some output.pin.stem
  pub added : d' ≡ with_output d output

-- the row that the name of an output, a pattern and a value write
pub record RowWritten (d : Parts) (x p v : List ℕ) (row : SpecRow) : Type 0 where
  pub names : output_named d x ≡ Some row.output
  pub matches : p ≡ pattern_word (literals_of row)
  pub one_each : length (literals_of row) ≡ length d.circuit.inputs
  pub holds : v ≡ value_word row.value

pub record RowAdded (d : Parts) (x p v : List ℕ) (d' : Parts) : Type 0 where
  pub row : SpecRow
  pub room : length d.rows < 256
  pub written : RowWritten d x p v row
  pub consistent : agrees d.rows row ≡ true
  pub added : d' ≡ with_row d row

-- the first check that such a record fails
pub data RowRefused (d : Parts) (x p v : List ℕ) : Cause → Type 0 where
  limit : 256 ≤ length d.rows → RowRefused d x p v Limit
  unknown : length d.rows < 256 → output_named d x ≡ None → RowRefused d x p v Naming
  unwritten : length d.rows < 256 → (k : ℕ) → output_named d x ≡ Some k → ((row : SpecRow) → RowWritten d x p v row → ⊥) → RowRefused d x p v Literals
  contradiction : length d.rows < 256 → (row : SpecRow) → RowWritten d x p v row → agrees d.rows row ≡ false → RowRefused d x p v Contradiction
