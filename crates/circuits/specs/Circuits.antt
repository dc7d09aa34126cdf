-- Circuits, and the bits that their stems have at an assignment, with and without a bit put at a line.
use Rattle.std.specs.Prelude.{ℕ, suc, ◌/◌, ◌%◌, ◌^◌, Bool, false, cond, ◌&&◌, List, [], ◌∷◌, ◌++◌, length, vec_items, ◌==◌, slice_index_or}
use Rattle.circuits.specs.declared.circuit.Circuit.{Circuit}
use Rattle.circuits.specs.declared.gate.Gate.{Gate}
use Rattle.circuits.specs.declared.gate.Output.{Output}
use Rattle.circuits.specs.declared.name.Name.{Name}
use Rattle.circuits.specs.declared.pin.Pin.{Pin}
use Rattle.circuits.specs.declared.place.Place.{Place}
use Rattle.circuits.specs.declared.place.Place.TheVariants.{Stem, Pin as GatePin}
use Rattle.circuits.specs.declared.short.Short.{Short}
use Rattle.circuits.specs.contracts.pin.PinBlank.TheImpl.{ghosts}
use Rattle.circuits.specs.Kinds.{differ, gate_bit}
use Rattle.circuits.specs.Shorts.{entries}

-- a circuit by its three lists
pub record Net : Type 0 where
  pub inputs : List Name
  pub gates : List Gate
  pub outputs : List Output

abbrev pub net : Circuit → Net
net c = record { inputs = vec_items c.inputs; gates = vec_items c.gates; outputs = vec_items c.outputs }

-- how many assignments there are
abbrev pub assignments : Net → ℕ
assignments c = 2 ^ length c.inputs

abbrev pub name_bytes : Name → List ℕ
name_bytes x = entries x.bytes

abbrev pub Pins : Type 0
Pins = Short Pin 4 ghosts

abbrev pub pin_list : Pins → List Pin
pin_list p = entries p

abbrev pub pins_of : Gate → List Pin
pins_of g = pin_list g.pins

-- bit k of a number
abbrev pub bit : ℕ → ℕ → Bool
bit x k = x / 2 ^ k % 2 == 1

abbrev pub same_place : Place → Place → Bool
same_place (Stem s) (Stem t) = s == t
same_place (Stem s) (GatePin h j) = false
same_place (GatePin g i) (Stem t) = false
same_place (GatePin g i) (GatePin h j) = g == h && i == j

-- Either nothing is put into the circuit, or a bit at one place.
pub data Put : Type 0 where
  nothing : Put
  put : Place → Bool → Put

-- what a place carries where the circuit works out v for it
abbrev pub settled : Put → Place → Bool → Bool
settled nothing p v = v
settled (put q b) p v = cond (same_place p q) b v

-- what a reader gets of the stems, through its mark
abbrev pub through : Pin → List Bool → Bool
through p stems = differ p.mark (slice_index_or stems p.stem false)

-- the inputs' stems from the i-th on: the first input is the highest bit of the assignment
unfoldable pub input_stems : Put → ℕ → List Name → ℕ → List Bool
input_stems u i [] a = []
input_stems u i (x ∷ xs) a = settled u (Stem i) (bit a (length xs)) ∷ input_stems u (suc i) xs a

-- what the pins of gate g receive, from the i-th on
unfoldable pub received : Put → ℕ → ℕ → List Bool → List Pin → List Bool
received u g i stems [] = []
received u g i stems (p ∷ ps) = settled u (GatePin g i) (through p stems) ∷ received u g (suc i) stems ps

-- the stem of gate g, which comes after these stems
abbrev pub gate_stem : Put → ℕ → List Bool → Gate → Bool
gate_stem u g stems x = settled u (Stem (length stems)) (gate_bit x.kind (received u g 0 stems (pins_of x)))

-- The gates from the g-th on are worked out in order, each from the stems before it.
unfoldable pub worked_out : Put → ℕ → List Bool → List Gate → List Bool
worked_out u g stems [] = stems
worked_out u g stems (x ∷ xs) = worked_out u (suc g) (stems ++ gate_stem u g stems x ∷ []) xs

-- the bits of all stems at an assignment
unfoldable pub stems_with : Put → Net → ℕ → List Bool
stems_with u c a = worked_out u 0 (input_stems u 0 c.inputs a) c.gates

-- with a bit put at a place, and without
abbrev pub with_bit : Net → Place → Bool → ℕ → List Bool
with_bit c p b a = stems_with (put p b) c a

abbrev pub carried : Net → ℕ → List Bool
carried c a = stems_with nothing c a
