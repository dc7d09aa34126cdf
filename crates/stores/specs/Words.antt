-- The word store: each function that is not constant is one word.
use Rattle.std.specs.Prelude.{◌≡◌, ℕ, ◌^◌, ◌<◌, ◌≤◌, true, false, cond, List, [], ◌∷◌, map, length, take, Some, None, Option, Ok, Err, Result, slice_index}
use Rattle.stores.specs.declared.fault.StoreFault.{StoreFault}
use Rattle.stores.specs.declared.fault.StoreFault.TheVariants.{Inputs, Places, Bounds}
use Rattle.stores.specs.Functions.{Function, never, always, bit, points, constant}
use Rattle.stores.specs.Meaning.{Meaning, Rule, has, different, Stands}

-- bit p of a word is its function at the point p
abbrev pub of_word : ℕ → Function
of_word w p = bit w p

abbrev pub listed : ℕ → List ℕ → List Function
listed len ws = never ∷ always ∷ map of_word (take len ws)

-- a store of n inputs that uses the first len of its words
abbrev pub meaning_of : ℕ → ℕ → List ℕ → Meaning
meaning_of n len ws = record { inputs = n; most = 5; places = length ws; held = listed len ws }

-- it keeps a function alone
abbrev pub alone : Rule
alone n f = cond (constant n f) [] (f ∷ [])

pub record SoundOf (n len : ℕ) (ws : List ℕ) : Type 0 where
  pub within : len ≤ length ws
  pub bounded : length ws ≤ 4096
  pub few : n ≤ 5
  pub small : (k : ℕ) → k < len → slice_index ws k < 2 ^ points n
  pub apart : different n (listed len ws) ≡ true

-- where a function is
abbrev pub Found : Meaning → Function → Option ℕ → Type 0
Found m f (Some h) = Stands m h f
Found m f None = has m.inputs f m.held ≡ false

-- the word of a handle, which is refused with 15 where it is not held
abbrev pub Reads : Meaning → ℕ → Result ℕ StoreFault → Type 0
Reads m h (Ok w) = (w < 2 ^ points m.inputs) × Stands m h (of_word w)
Reads m h (Err Inputs) = ⊥
Reads m h (Err Places) = ⊥
Reads m h (Err Bounds) = h < length m.held → ⊥
