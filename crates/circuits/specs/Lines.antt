-- The lines of a circuit: the input stems, the gate stems, then the pins gate by gate, numbered from 0.
use Rattle.std.specs.Prelude.{ℕ, suc, ◌+◌, ◌-◌, Bool, cond, List, [], ◌∷◌, length, take, Some, None, Option, nat_lt}
use Rattle.std.specs.Option.{option_map}
use Rattle.std.specs.List.{slice_get}
use Rattle.circuits.specs.declared.gate.Gate.{Gate}
use Rattle.circuits.specs.declared.pin.Pin.{Pin}
use Rattle.circuits.specs.declared.place.Place.{Place}
use Rattle.circuits.specs.declared.place.Place.TheVariants.{Stem, Pin as GatePin}
use Rattle.circuits.specs.Circuits.{Net, pins_of, assignments, carried, through}

-- what comes next of an answer, if there is one
abbrev pub then : {A B : Type 0} → Option A → (A → Option B) → Option B
then None f = None
then (Some x) f = f x

abbrev pub stem_count : Net → ℕ
stem_count c = length c.inputs + length c.gates

-- how many pins the gates have together
unfoldable pub pin_count : List Gate → ℕ
pin_count [] = 0
pin_count (g ∷ gs) = length (pins_of g) + pin_count gs

abbrev pub line_count : Net → ℕ
line_count c = stem_count c + pin_count c.gates

-- the pin at a position of a gate
abbrev pub pin_at : List Gate → ℕ → ℕ → Option Pin
pin_at gs g i = then (slice_get gs g) (λ x. slice_get (pins_of x) i)

-- the number of a line
abbrev pub line_of : Net → Place → Option ℕ
line_of c (Stem s) = cond (nat_lt s (stem_count c)) (Some s) None
line_of c (GatePin g i) = option_map (λ _. stem_count c + (pin_count (take g c.gates) + i)) (pin_at c.gates g i)

-- the l-th of the pins of these gates, the first of which is gate g
unfoldable pub pin_place : ℕ → List Gate → ℕ → Option Place
pin_place g [] l = None
pin_place g (x ∷ xs) l = cond (nat_lt l (length (pins_of x))) (Some (GatePin g l)) (pin_place (suc g) xs (l - length (pins_of x)))

-- the place of a line
abbrev pub place_of : Net → ℕ → Option Place
place_of c l = cond (nat_lt l (stem_count c)) (Some (Stem l)) (pin_place 0 c.gates (l - stem_count c))

-- What a place carries: a stem its bit before any mark, a pin what its gate receives.
abbrev pub place_bit : Net → List Bool → Place → Option Bool
place_bit c stems (Stem s) = slice_get stems s
place_bit c stems (GatePin g i) = option_map (λ p. through p stems) (pin_at c.gates g i)

-- the bit that a line carries at an assignment
abbrev pub line_bit : Net → ℕ → ℕ → Option Bool
line_bit c l a = cond (nat_lt a (assignments c)) (then (place_of c l) (place_bit c (carried c a))) None
