-- A design that is being read: what speaks against a further part, and what it becomes with it.
use Rattle.std.specs.Prelude.{◌≡◌, Bool, true, false, cond, not, ◌||◌, List, [], ◌∷◌, ◌++◌, map, length, Some, None, vec_items, vec_capacity, Vec, Option, Result, MatchResult, ◌==◌, nat_le}
use Rattle.std.specs.declared.alloc.Global.{Global}
use Rattle.circuits.specs.declared.circuit.Circuit.{Circuit}
use Rattle.circuits.specs.declared.gate.Gate.{Gate}
use Rattle.circuits.specs.declared.gate.Output.{Output}
use Rattle.circuits.specs.declared.name.Name.{Name}
use Rattle.circuits.specs.declared.fault.PartFault.{PartFault}
use Rattle.circuits.specs.declared.fault.PartFault.TheVariants.{Order, Limit, Naming, PinCount, Literals, Contradiction}
use Rattle.circuits.specs.declared.row.SpecRow.{SpecRow}
use Rattle.circuits.specs.Kinds.{fits}
use Rattle.circuits.specs.Circuits.{Net, net, name_bytes, pins_of}
use Rattle.circuits.specs.Lines.{stem_count}
use Rattle.circuits.specs.Specification.{literals_of}
use Rattle.circuits.specs.Legality.{among, stem_names, output_names, pins_read, agrees, drafted, roomy}

-- what a design or a draft consists of
pub record Parts : Type 0 where
  pub circuit : Net
  pub rows : List SpecRow

abbrev pub parts : Circuit → Vec SpecRow Global → Parts
parts c rows = record { circuit = net c; rows = vec_items rows }

-- what a draft keeps: each rule so far, and room for all that there may be
pub record DraftKeeps (c : Circuit) (rows : Vec SpecRow Global) : Type 0 where
  pub lawful : drafted (net c) (vec_items rows) ≡ true
  pub room : roomy (vec_capacity c.inputs) (vec_capacity c.gates) (vec_capacity c.outputs) (vec_capacity rows) ≡ true

abbrev pub no_parts : Parts
no_parts = record { circuit = record { inputs = []; gates = []; outputs = [] }; rows = [] }

abbrev pub with_input : Parts → Name → Parts
with_input d x = record { circuit = record { inputs = d.circuit.inputs ++ x ∷ []; gates = d.circuit.gates; outputs = d.circuit.outputs }; rows = d.rows }

abbrev pub with_gate : Parts → Gate → Parts
with_gate d g = record { circuit = record { inputs = d.circuit.inputs; gates = d.circuit.gates ++ g ∷ []; outputs = d.circuit.outputs }; rows = d.rows }

abbrev pub with_output : Parts → Output → Parts
with_output d x = record { circuit = record { inputs = d.circuit.inputs; gates = d.circuit.gates; outputs = d.circuit.outputs ++ x ∷ [] }; rows = d.rows }

abbrev pub with_row : Parts → SpecRow → Parts
with_row d r = record { circuit = d.circuit; rows = d.rows ++ r ∷ [] }

-- The smallest design: one input of the name a, no gate, one output of that name that reads the input and has no mark, and no row.
pub record Smallest (d : Parts) : Type 0 where
  pub input_name : map name_bytes d.circuit.inputs ≡ (97 ∷ []) ∷ []
  pub no_gates : d.circuit.gates ≡ []
  pub output_name : output_names d.circuit ≡ (97 ∷ []) ∷ []
  pub output_pin : map (λ (x : Output). x.pin) d.circuit.outputs ≡ record { stem = 0; mark = false } ∷ []
  pub no_rows : d.rows ≡ []

-- a fault where a condition holds, and else what the later checks find
abbrev pub check : Bool → PartFault → Option PartFault → Option PartFault
check b f later = cond b (Some f) later

abbrev pub some_yet : {X : Type 0} → List X → Bool
some_yet xs = not (length xs == 0)

-- What speaks against a further input: a part of a later group stands, there are twelve, or the name is taken.
abbrev pub input_fault : Parts → Name → Option PartFault
input_fault d x =
    check (some_yet d.circuit.gates || (some_yet d.circuit.outputs || some_yet d.rows)) Order
    (check (nat_le 12 (length d.circuit.inputs)) Limit (check (among (name_bytes x) (stem_names d.circuit)) Naming None))

-- against a gate: its name is taken, or a pin reads a stem that does not stand, or the number of its pins does not fit its kind
abbrev pub gate_fault : Parts → Gate → Option PartFault
gate_fault d g =
    check (some_yet d.circuit.outputs || some_yet d.rows) Order
    (check (nat_le 64 (length d.circuit.gates)) Limit
    (check (among (name_bytes g.name) (stem_names d.circuit) || not (pins_read (stem_count d.circuit) (pins_of g))) Naming
    (check (not (fits g.kind (length (pins_of g)))) PinCount None)))

-- against an output: its name is taken, or it reads a stem that does not stand
abbrev pub output_fault : Parts → Output → Option PartFault
output_fault d x =
    check (some_yet d.rows) Order
    (check (nat_le 16 (length d.circuit.outputs)) Limit
    (check (among (name_bytes x.name) (output_names d.circuit) || nat_le (stem_count d.circuit) x.pin.stem) Naming None))

-- against a row: there is no such output, it has not one literal for each input, or it contradicts an earlier row
abbrev pub row_fault : Parts → SpecRow → Option PartFault
row_fault d r =
    check (nat_le 256 (length d.rows)) Limit
    (check (nat_le (length d.circuit.outputs) r.output) Naming
    (check (not (length (literals_of r) == length d.circuit.inputs)) Literals (check (not (agrees d.rows r)) Contradiction None)))

-- against a whole design: it has no input, or no output
abbrev pub whole_fault : Parts → Option PartFault
whole_fault d = check (length d.circuit.inputs == 0 || length d.circuit.outputs == 0) Limit None

-- What is asked for is done where nothing speaks against it. Where something does, that is told, and all is left.
abbrev pub Unless : Option PartFault → Type 0 → Type 0 → Result Unit PartFault → Type 0
Unless fault done left r = MatchResult r (λ _. (fault ≡ None) × done) (λ f. (fault ≡ Some f) × left)
