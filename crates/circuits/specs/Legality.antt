-- The rules that each design keeps.
use Rattle.std.specs.Prelude.{ℕ, suc, ◌+◌, Bool, true, cond, not, ◌&&◌, List, [], ◌∷◌, ◌++◌, map, length, is_some, Some, None, Option, ◌==◌, nat_le, nat_lt}
use Rattle.std.specs.Str.{bytes_eq}
use Rattle.circuits.specs.declared.gate.Gate.{Gate}
use Rattle.circuits.specs.declared.gate.Output.{Output}
use Rattle.circuits.specs.declared.pin.Pin.{Pin}
use Rattle.circuits.specs.declared.row.SpecRow.{SpecRow}
use Rattle.circuits.specs.Kinds.{fits}
use Rattle.circuits.specs.Circuits.{Net, name_bytes, pins_of}
use Rattle.circuits.specs.Specification.{literals_of, contradicts}

-- whether each pin reads one of the first s stems
unfoldable pub pins_read : ℕ → List Pin → Bool
pins_read s [] = true
pins_read s (p ∷ ps) = nat_lt p.stem s && pins_read s ps

-- whether a gate after s stems has a number of pins that fits its kind, each of which reads an earlier stem
abbrev pub gate_legal : ℕ → Gate → Bool
gate_legal s g = fits g.kind (length (pins_of g)) && pins_read s (pins_of g)

unfoldable pub gates_legal : ℕ → List Gate → Bool
gates_legal s [] = true
gates_legal s (g ∷ gs) = gate_legal s g && gates_legal (suc s) gs

-- whether each output reads one of s stems
unfoldable pub outputs_legal : ℕ → List Output → Bool
outputs_legal s [] = true
outputs_legal s (x ∷ xs) = nat_lt x.pin.stem s && outputs_legal s xs

-- the place of a word in a list that begins at i, the first where it stands twice
unfoldable pub position : ℕ → List ℕ → List (List ℕ) → Option ℕ
position i w [] = None
position i w (x ∷ xs) = cond (bytes_eq w x) (Some i) (position (suc i) w xs)

-- whether a word is among these
abbrev pub among : List ℕ → List (List ℕ) → Bool
among w xs = is_some (position 0 w xs)

-- whether no word is the same as an earlier one
unfoldable pub apart_from : List (List ℕ) → List (List ℕ) → Bool
apart_from seen [] = true
apart_from seen (x ∷ xs) = not (among x seen) && apart_from (seen ++ x ∷ []) xs

abbrev pub all_apart : List (List ℕ) → Bool
all_apart xs = apart_from [] xs

abbrev pub stem_names : Net → List (List ℕ)
stem_names c = map name_bytes c.inputs ++ map (λ (g : Gate). name_bytes g.name) c.gates

abbrev pub output_names : Net → List (List ℕ)
output_names c = map (λ (x : Output). name_bytes x.name) c.outputs

-- whether each row is of one of m outputs, with a literal for each of n inputs
unfoldable pub rows_legal : ℕ → ℕ → List SpecRow → Bool
rows_legal m n [] = true
rows_legal m n (r ∷ rs) = (nat_lt r.output m && length (literals_of r) == n) && rows_legal m n rs

-- whether a row contradicts none of the earlier ones
unfoldable pub agrees : List SpecRow → SpecRow → Bool
agrees [] s = true
agrees (r ∷ rs) s = not (contradicts r s) && agrees rs s

unfoldable pub consistent_from : List SpecRow → List SpecRow → Bool
consistent_from seen [] = true
consistent_from seen (r ∷ rs) = agrees seen r && consistent_from (seen ++ r ∷ []) rs

abbrev pub consistent : List SpecRow → Bool
consistent rows = consistent_from [] rows

-- at most 12 inputs, 64 gates, 16 outputs and 256 rows
abbrev pub within_limits : Net → List SpecRow → Bool
within_limits c rows = (nat_le (length c.inputs) 12 && nat_le (length c.gates) 64) && (nat_le (length c.outputs) 16 && nat_le (length rows) 256)

abbrev pub circuit_legal : Net → Bool
circuit_legal c =
    (gates_legal (length c.inputs) c.gates && outputs_legal (length c.inputs + length c.gates) c.outputs)
    && (all_apart (stem_names c) && all_apart (output_names c))

-- what a design keeps while it is being read
unfoldable pub drafted : Net → List SpecRow → Bool
drafted c rows = within_limits c rows && (circuit_legal c && (rows_legal (length c.outputs) (length c.inputs) rows && consistent rows))

-- what a whole design keeps: it has an input and an output, too
unfoldable pub legal : Net → List SpecRow → Bool
legal c rows = (nat_le 1 (length c.inputs) && nat_le 1 (length c.outputs)) && drafted c rows

-- room for as many inputs, gates, outputs and rows as there may be
abbrev pub roomy : ℕ → ℕ → ℕ → ℕ → Bool
roomy inputs gates outputs rows = (nat_le 12 inputs && nat_le 64 gates) && (nat_le 16 outputs && nat_le 256 rows)
