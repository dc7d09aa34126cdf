-- What the outputs of a circuit have to be.
use Rattle.std.specs.Prelude.{◌≡◌, ℕ, zero, suc, ◌+◌, ◌<◌, Bool, true, false, cond, not, ◌&&◌, List, [], ◌∷◌, length, Some, None, Option, ◌==◌, nat_lt}
use Rattle.std.specs.Option.{option_map, unwrap_or}
use Rattle.std.specs.List.{slice_get}
use Rattle.circuits.specs.declared.gate.Output.{Output}
use Rattle.circuits.specs.declared.literal.Literal.{Literal}
use Rattle.circuits.specs.declared.literal.Literal.TheVariants.{Zero, One, Dash}
use Rattle.circuits.specs.declared.place.Place.{Place}
use Rattle.circuits.specs.declared.row.SpecRow.{SpecRow}
use Rattle.circuits.specs.declared.short.Short.{Short}
use Rattle.circuits.specs.contracts.literal.LiteralBlank.TheImpl.{ghosts}
use Rattle.circuits.specs.Kinds.{differ}
use Rattle.circuits.specs.Lines.{place_of, place_bit}
use Rattle.circuits.specs.Shorts.{entries}
use Rattle.circuits.specs.Circuits.{Net, bit, assignments, carried, through, with_bit}

abbrev pub Pattern : Type 0
Pattern = Short Literal 12 ghosts

-- the literals of a pattern, one for each input
abbrev pub literal_list : Pattern → List Literal
literal_list p = entries p

abbrev pub literals_of : SpecRow → List Literal
literals_of r = literal_list r.pattern

-- whether a literal matches a bit
abbrev pub matches : Literal → Bool → Bool
matches Zero b = not b
matches One b = b
matches Dash b = true

-- whether a pattern matches an assignment, whose highest bit is the first input
unfoldable pub covers : List Literal → ℕ → Bool
covers [] a = true
covers (l ∷ ls) a = matches l (bit a (length ls)) && covers ls a

-- whether a row speaks of output k at an assignment
abbrev pub binds : SpecRow → ℕ → ℕ → Bool
binds r k a = r.output == k && covers (literals_of r) a

-- the value that output k must have at an assignment, if a row covers it
unfoldable pub bound : List SpecRow → ℕ → ℕ → Option Bool
bound [] k a = None
bound (r ∷ rs) k a = cond (binds r k a) (Some r.value) (bound rs k a)

-- whether a bit is the bound one, where there is one
abbrev pub obeys : Option Bool → Bool → Bool
obeys None b = true
obeys (Some v) b = not (differ v b)

-- the bit of an output after its mark
abbrev pub output_bit : List Bool → Output → Bool
output_bit stems x = through x.pin stems

-- the same by the output's number, where there is such an output and assignment
abbrev pub output_at : Net → ℕ → ℕ → Option Bool
output_at c k a = cond (nat_lt a (assignments c)) (option_map (output_bit (carried c a)) (slice_get c.outputs k)) None

-- whether a test holds of each number below n
unfoldable pub each_below : ℕ → (ℕ → Bool) → Bool
each_below zero t = true
each_below (suc k) t = each_below k t && t k

-- whether output k, which is x, has its bound value wherever it is bound
abbrev pub meets : Net → List SpecRow → ℕ → Output → Bool
meets c rows k x = each_below (assignments c) (λ a. obeys (bound rows k a) (output_bit (carried c a) x))

-- The same, row by row: wherever a row of output k covers an assignment, the output has the row's value.
abbrev pub Obeyed : Net → List SpecRow → ℕ → Output → Type 0
Obeyed c rows k x =
    (a : ℕ) → a < assignments c → (i : ℕ) (r : SpecRow) → slice_get rows i ≡ Some r → binds r k a ≡ true → output_bit (carried c a) x ≡ r.value

-- how many outputs, from the k-th on, do not meet their rows
unfoldable pub misses_from : Net → List SpecRow → ℕ → List Output → ℕ
misses_from c rows k [] = 0
misses_from c rows k (x ∷ xs) = cond (meets c rows k x) 0 1 + misses_from c rows (suc k) xs

abbrev pub misses : Net → List SpecRow → ℕ
misses c rows = misses_from c rows 0 c.outputs

-- whether two literals match a common bit
abbrev pub overlap : Literal → Literal → Bool
overlap Zero m = matches m false
overlap One m = matches m true
overlap Dash m = true

-- whether two patterns match a common assignment
unfoldable pub meet : List Literal → List Literal → Bool
meet [] [] = true
meet [] (m ∷ ms) = true
meet (l ∷ ls) [] = true
meet (l ∷ ls) (m ∷ ms) = overlap l m && meet ls ms

-- whether two rows of one output have different values and cover a common assignment
abbrev pub contradicts : SpecRow → SpecRow → Bool
contradicts r s = (r.output == s.output && differ r.value s.value) && meet (literals_of r) (literals_of s)

-- A function of the inputs repairs the circuit at a place if, put there, it makes every output have its bound value wherever it is bound.
abbrev pub Repairs : Net → List SpecRow → Place → (ℕ → Bool) → Type 0
Repairs c rows p φ =
    (a : ℕ) → a < assignments c → (k : ℕ) (x : Output) → slice_get c.outputs k ≡ Some x → obeys (bound rows k a) (output_bit (with_bit c p (φ a) a) x) ≡ true

-- what a place carries, as a function of the inputs
abbrev pub carried_by : Net → Place → ℕ → Bool
carried_by c p a = unwrap_or (place_bit c (carried c a) p) false

-- What each line carries repairs it.
abbrev pub Repaired : Net → List SpecRow → Type 0
Repaired c rows = (l : ℕ) (p : Place) → place_of c l ≡ Some p → Repairs c rows p (carried_by c p)
