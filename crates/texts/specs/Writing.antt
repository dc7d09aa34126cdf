-- How a circuit and its rows are written.
use Rattle.std.specs.Prelude.{◌≡◌, ℕ, List, [], ◌∷◌, ◌++◌, map, codes, slice_index_or}
use Rattle.circuits.specs.declared.gate.Gate.{Gate}
use Rattle.circuits.specs.declared.gate.Output.{Output}
use Rattle.circuits.specs.declared.name.Name.{Name}
use Rattle.circuits.specs.declared.pin.Pin.{Pin}
use Rattle.circuits.specs.declared.row.SpecRow.{SpecRow}
use Rattle.circuits.specs.Circuits.{Net, name_bytes, pins_of}
use Rattle.circuits.specs.Drafts.{Parts}
use Rattle.circuits.specs.Legality.{stem_names, output_names}
use Rattle.circuits.specs.Specification.{literals_of}
use Rattle.texts.specs.Fields.{marked_word, kind_word, pattern_word, value_word}
use Rattle.texts.specs.Records.{comma, feed}

-- fields, parted by commas
abbrev pub after_comma : List ℕ → List (List ℕ) → List ℕ
after_comma f [] = f
after_comma f (g ∷ gs) = f ++ comma ∷ after_comma g gs

abbrev pub parted : List (List ℕ) → List ℕ
parted [] = []
parted (f ∷ fs) = after_comma f fs

-- a record, which ends with a line feed
abbrev pub line : List (List ℕ) → List ℕ
line fs = parted fs ++ feed ∷ []

-- the lines of things, one after the other
unfoldable pub lines : {X : Type 0} → (X → List ℕ) → List X → List ℕ
lines f [] = []
lines f (x ∷ xs) = f x ++ lines f xs

-- a pin, by the name of its stem among these
abbrev pub pin_word : List (List ℕ) → Pin → List ℕ
pin_word stems p = marked_word p.mark (slice_index_or stems p.stem [])

abbrev pub input_line : Name → List ℕ
input_line x = line (codes "in" ∷ name_bytes x ∷ [])

abbrev pub gate_line : List (List ℕ) → Gate → List ℕ
gate_line stems g = line (codes "gate" ∷ name_bytes g.name ∷ kind_word g.kind ∷ map (pin_word stems) (pins_of g))

abbrev pub output_line : List (List ℕ) → Output → List ℕ
output_line stems x = line (codes "out" ∷ name_bytes x.name ∷ pin_word stems x.pin ∷ [])

-- the netlist of a circuit: its inputs, its gates and its outputs
abbrev pub netlist_text : Net → List ℕ
netlist_text c = lines input_line c.inputs ++ (lines (gate_line (stem_names c)) c.gates ++ lines (output_line (stem_names c)) c.outputs)

abbrev pub row_line : List (List ℕ) → SpecRow → List ℕ
row_line outputs r = line (codes "spec" ∷ slice_index_or outputs r.output [] ∷ pattern_word (literals_of r) ∷ value_word r.value ∷ [])

-- the specification of a circuit's outputs
abbrev pub rows_text : Net → List SpecRow → List ℕ
rows_text c rows = lines (row_line (output_names c)) rows

-- The two texts are the writing of a circuit and its rows.
pub record Writes (netlist specification : List ℕ) (d : Parts) : Type 0 where
  pub circuit : netlist ≡ netlist_text d.circuit
  pub rows : specification ≡ rows_text d.circuit d.rows
