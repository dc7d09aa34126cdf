-- The shapes that records have, by their fields.
use Rattle.std.specs.Prelude.{◌≡◌, ℕ, Bool, true, ◌&&◌, List, [], ◌∷◌, length, codes, Option, MatchOption, ◌≢◌, nat_le}
use Rattle.circuits.specs.declared.kind.Kind.{Kind}
use Rattle.circuits.specs.Circuits.{name_bytes}
use Rattle.circuits.specs.Names.{is_name}
use Rattle.texts.specs.declared.group.RecordKind.{RecordKind}
use Rattle.texts.specs.declared.group.RecordKind.TheVariants as kind
use Rattle.texts.specs.declared.shape.Shaped.{Shaped}
use Rattle.texts.specs.declared.shape.Shaped.TheVariants.{Input, Gate, Output}
use Rattle.texts.specs.declared.shape.RowFields.{RowFields}
use Rattle.texts.specs.Records.{fields}
use Rattle.texts.specs.Fields.{marked_word, past_mark, kind_word}

-- a record of the netlist, each name and pin as it is written
pub data Shape : Type 0 where
  input : List ℕ → Shape
  gate : List ℕ → Kind → List (List ℕ) → Shape
  output : List ℕ → List ℕ → Shape

abbrev pub shape_fields : Shape → List (List ℕ)
shape_fields (input x) = codes "in" ∷ x ∷ []
shape_fields (gate x k ps) = codes "gate" ∷ x ∷ kind_word k ∷ ps
shape_fields (output x p) = codes "out" ∷ x ∷ p ∷ []

-- A pin is a name after at most one mark.
abbrev pub is_pin : List ℕ → Bool
is_pin p = is_name (past_mark p)

unfoldable pub all_pins : List (List ℕ) → Bool
all_pins [] = true
all_pins (p ∷ ps) = is_pin p && all_pins ps

-- Each name is one, each pin too, and a gate has a pin.
abbrev pub well_shaped : Shape → Bool
well_shaped (input x) = is_name x
well_shaped (gate x k ps) = is_name x && (nat_le 1 (length ps) && all_pins ps)
well_shaped (output x p) = is_name x && is_pin p

-- The record that was taken apart: the pins of a gate are the fields of what follows its kind.
abbrev pub shape_of : Shaped → Shape
shape_of (Input x) = input (name_bytes x)
shape_of (Gate x k ps) = gate (name_bytes x) k (fields ps.now)
shape_of (Output x m s) = output (name_bytes x) (marked_word m (name_bytes s))

abbrev pub shaped_kind : Shaped → RecordKind
shaped_kind (Input x) = kind.Input
shaped_kind (Gate x k ps) = kind.Gate
shaped_kind (Output x m s) = kind.Output

-- These fields are taken apart, or they are those of no record.
abbrev pub Apart : List (List ℕ) → Option Shaped → Type 0
Apart fs r = MatchOption r ((s : Shape) → well_shaped s ≡ true → fs ≢ shape_fields s) (λ x. (well_shaped (shape_of x) ≡ true) × (fs ≡ shape_fields (shape_of x)))

-- the fields of a row's record
abbrev pub row_fields : List ℕ → List ℕ → List ℕ → List (List ℕ)
row_fields x p v = codes "spec" ∷ x ∷ p ∷ v ∷ []

abbrev pub RowApart : List (List ℕ) → Option RowFields → Type 0
RowApart fs r = MatchOption r ((x p v : List ℕ) → fs ≢ row_fields x p v) (λ s. fs ≡ row_fields s.output.now s.pattern.now s.value.now)
