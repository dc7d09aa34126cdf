-- The netlist: what each of its records does to a design that is being read, and what it has to have at its end.
use Rattle.std.specs.Prelude.{◌≡◌, ℕ, true, List, length, Some, None, Ok, Err, Option, Result}
use Rattle.circuits.specs.declared.fault.PartFault.TheVariants as part
use Rattle.circuits.specs.declared.gate.Gate.{Gate}
use Rattle.circuits.specs.declared.gate.Output.{Output}
use Rattle.circuits.specs.declared.name.Name.{Name}
use Rattle.circuits.specs.Circuits.{name_bytes, pins_of}
use Rattle.circuits.specs.Drafts.{Parts, no_parts, whole_fault, with_input, with_gate, with_output}
use Rattle.texts.specs.declared.fault.Cause.{Cause}
use Rattle.texts.specs.declared.fault.Cause.TheVariants as cause
use Rattle.texts.specs.declared.fault.Text.TheVariants.{Netlist}
use Rattle.texts.specs.declared.fault.TextFault.{TextFault}
use Rattle.texts.specs.declared.group.Group.{Group}
use Rattle.texts.specs.declared.group.Group.TheVariants.{Inputs}
use Rattle.texts.specs.declared.group.RecordKind.{RecordKind}
use Rattle.texts.specs.declared.group.RecordKind.TheVariants.{Input, Gate as GateKind, Output as OutputKind}
use Rattle.texts.specs.Adding.{pin_named, pins_named, input_cause, gate_cause, output_cause}
use Rattle.texts.specs.Fields.{past_mark}
use Rattle.texts.specs.Groups.{next}
use Rattle.texts.specs.Records.{fields}
use Rattle.texts.specs.Shapes.{Shape, input, gate, output, shape_fields, well_shaped}
use Rattle.texts.specs.Walks.{record_place, fault_at, After, Through, Stopped}

abbrev pub shape_kind : Shape → RecordKind
shape_kind (input x) = Input
shape_kind (gate x k ps) = GateKind
shape_kind (output x p) = OutputKind

-- A record of a netlist: it is of this shape.
pub record Spells (bs : List ℕ) (s : Shape) : Type 0 where
  pub good : well_shaped s ≡ true
  pub parts : fields bs ≡ shape_fields s

-- what speaks against the part that a record declares
abbrev pub shape_cause : Parts → Shape → Option Cause
shape_cause d (input x) = input_cause d x
shape_cause d (gate x k ps) = gate_cause d x k ps
shape_cause d (output x p) = output_cause d x (past_mark p)

-- the part that a record declares is added
abbrev pub Declared : Parts → Shape → Parts → Type 0
Declared d (input x) d' = (n : Name) × (name_bytes n ≡ x) × (d' ≡ with_input d n)
Declared d (gate x k ps) d' = (g : Gate) × (name_bytes g.name ≡ x) × (g.kind ≡ k) × (pins_named d ps ≡ Some (pins_of g)) × (d' ≡ with_gate d g)
Declared d (output x p) d' = (o : Output) × (name_bytes o.name ≡ x) × (pin_named d p ≡ Some o.pin) × (d' ≡ with_output d o)

-- One record: the first check that it fails is told, and then all is left. Otherwise its part is added, and its group is reached.
pub data Taken (d : Parts) (g : Group) (bs : List ℕ) : Result Group Cause → Parts → Type 0 where
  shapeless : ((s : Shape) → Spells bs s → ⊥) → Taken d g bs (Err cause.Shape) d
  late : (s : Shape) (c : Cause) → Spells bs s → next g (shape_kind s) ≡ Err c → Taken d g bs (Err c) d
  refused : (s : Shape) (g' : Group) (c : Cause) → Spells bs s → next g (shape_kind s) ≡ Ok g' → shape_cause d s ≡ Some c → Taken d g bs (Err c) d
  added : (s : Shape) (g' : Group) (d' : Parts) → Spells bs s → next g (shape_kind s) ≡ Ok g' → shape_cause d s ≡ None → Declared d s d' → Taken d g bs (Ok g') d'

-- A record takes the group and the parts on.
abbrev pub NetlistStep : Group × Parts → List ℕ → Result (Group × Parts) Cause → Type 0
NetlistStep s bs (Ok s') = Taken s.1 s.0 bs (Ok s'.0) s'.1
NetlistStep s bs (Err c) = Taken s.1 s.0 bs (Err c) s.1

abbrev pub start : Group × Parts
start = (Inputs, no_parts)

-- All records are taken, and there is an input and an output.
pub record NetlistRead (bs : List ℕ) (d : Parts) : Type 0 where
  pub group : Group
  pub through : Through NetlistStep bs start (group, d)
  pub whole : whole_fault d ≡ None

-- A record is refused, or an input or an output is missing at the end.
pub data NetlistRefused (bs : List ℕ) : TextFault → Type 0 where
  at_record : (f : TextFault) → Stopped NetlistStep Netlist bs start f → NetlistRefused bs f
  at_end : (n : ℕ) (g : Group) (d : Parts) → After NetlistStep bs start n (g, d) → record_place bs n ≡ length bs → whole_fault d ≡ Some part.Limit → NetlistRefused bs (fault_at Netlist bs n cause.Limit)
