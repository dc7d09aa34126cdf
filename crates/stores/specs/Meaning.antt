-- What a function store holds, and what a call makes of it.
use Rattle.std.specs.Prelude.{◌≡◌, ℕ, suc, ◌^◌, ◌<◌, ◌≤◌, Bool, true, false, cond, not, ◌&&◌, ◌||◌, List, [], ◌∷◌, ◌++◌, length, take, Ok, Err, Result, slice_index_or}
use Rattle.stores.specs.declared.fault.StoreFault.{StoreFault}
use Rattle.stores.specs.declared.fault.StoreFault.TheVariants.{Inputs, Places, Bounds}
use Rattle.stores.specs.Functions.{Function, never, always, same, Same, constant, point, variable, complement, joined, fixed}
use Rattle.stores.specs.declared.operation.Operation.{Operation}

pub record Meaning : Type 0 where
  pub inputs : ℕ
  pub most : ℕ
  pub places : ℕ
  pub held : List Function

-- the function of a handle
abbrev pub at : List Function → ℕ → Function
at fs h = slice_index_or fs h never

-- whether a list has a function
unfoldable pub has : ℕ → Function → List Function → Bool
has n f [] = false
has n f (g ∷ gs) = same n f g || has n f gs

-- whether the functions of a list are pairwise different
unfoldable pub different : ℕ → List Function → Bool
different n [] = true
different n (f ∷ fs) = not (has n f fs) && different n fs

-- how many different functions of a list are not constant
unfoldable pub count : ℕ → List Function → ℕ
count n [] = 0
count n (f ∷ fs) = cond (constant n f || has n f fs) (count n fs) (suc (count n fs))

-- A keeping rule gives, for n inputs, the functions that are kept for a function.
abbrev pub Rule : Type 0
Rule = ℕ → Function → List Function

-- A rule keeps a function that is not constant, and nothing for a constant one, and it keeps no constant one.
-- What it keeps depends on a function's points alone.
pub record Keeps (rule : Rule) (n : ℕ) : Type 0 where
  pub itself : (f : Function) → constant n f ≡ false → has n f (rule n f) ≡ true
  pub nothing : (f g : Function) → constant n f ≡ true → has n g (rule n f) ≡ false
  pub proper : (f g : Function) → has n g (rule n f) ≡ true → constant n g ≡ false
  pub by_points : (f g h : Function) → Same n f g → has n h (rule n f) ≡ has n h (rule n g)

-- what is kept for the functions of a list
unfoldable pub kept : Rule → ℕ → List Function → List Function
kept rule n [] = []
kept rule n (f ∷ fs) = rule n f ++ kept rule n fs

-- What holds of each store: the list begins with false and true, its functions differ, and they fit.
pub record Good (m : Meaning) : Type 0 where
  pub others : List Function
  pub begins : m.held ≡ never ∷ always ∷ others
  pub apart : different m.inputs m.held ≡ true
  pub fits : length others ≤ m.places
  pub few : m.inputs ≤ m.most

-- what a client may use of a store beside its calls
pub record Lawful (rule : Rule) (m : Meaning) : Type 0 where
  pub good : Good m
  pub keeps : (n : ℕ) → Keeps rule n

-- The list may have grown, and nothing else has changed.
pub record Grown (m m' : Meaning) : Type 0 where
  pub inputs_kept : m'.inputs ≡ m.inputs
  pub most_kept : m'.most ≡ m.most
  pub places_kept : m'.places ≡ m.places
  pub added : List Function
  pub longer : m'.held ≡ m.held ++ added

-- The functions fs were yielded, one after the other: the list has gained what is kept for them, each function once, and it fits.
pub record Gained (rule : Rule) (m : Meaning) (fs : List Function) (m' : Meaning) : Type 0 where
  pub grown : Grown m m'
  pub content : (g : Function) → has m.inputs g m'.held ≡ has m.inputs g (m.held ++ kept rule m.inputs fs)
  pub apart : different m.inputs m'.held ≡ true
  pub fits : count m.inputs m'.held ≤ m.places

-- More functions than there are places would be held once the functions fs were yielded.
unfoldable pub Overfull : Rule → Meaning → List Function → Type 0
Overfull rule m fs = m.places < count m.inputs (m.held ++ kept rule m.inputs fs)

-- h is the handle of f
pub record Stands (m : Meaning) (h : ℕ) (f : Function) : Type 0 where
  pub within : h < length m.held
  pub means : Same m.inputs (at m.held h) f

-- Calls that yield the functions fs, the answer being f's handle, under the condition P on what was passed; all is as before if they are refused.
abbrev pub Yields : Rule → Meaning → Type 0 → List Function → Function → Result ℕ StoreFault → Meaning → Type 0
Yields rule m P fs f (Ok h) m' = P × Gained rule m fs m' × Stands m' h f
Yields rule m P fs f (Err Inputs) m' = ⊥
Yields rule m P fs f (Err Places) m' = P × Overfull rule m fs × (m' ≡ m)
Yields rule m P fs f (Err Bounds) m' = (P → ⊥) × (m' ≡ m)

-- The same inside a client, whose arguments were found to be right: only places can be short, and then the list may have grown.
abbrev pub Makes : Rule → Meaning → List Function → Function → Result ℕ StoreFault → Meaning → Type 0
Makes rule m fs f (Ok h) m' = Gained rule m fs m' × Stands m' h f
Makes rule m fs f (Err Inputs) m' = ⊥
Makes rule m fs f (Err Places) m' = Overfull rule m fs × Grown m m'
Makes rule m fs f (Err Bounds) m' = ⊥

-- a variable
abbrev pub Takes : Rule → Meaning → ℕ → Result ℕ StoreFault → Meaning → Type 0
Takes rule m v r m' = Yields rule m (v ≤ m.inputs) (variable m.inputs v ∷ []) (variable m.inputs v) r m'

-- the and, the or, or the xor of two functions
abbrev pub Joins : Rule → Meaning → Operation → ℕ → ℕ → Result ℕ StoreFault → Meaning → Type 0
Joins rule m op f g r m' =
    Yields rule m ((f < length m.held) × (g < length m.held)) (joined op (at m.held f) (at m.held g) ∷ []) (joined op (at m.held f) (at m.held g)) r m'

-- the complement of a function
abbrev pub Flips : Rule → Meaning → ℕ → Result ℕ StoreFault → Meaning → Type 0
Flips rule m f r m' = Yields rule m (f < length m.held) (complement (at m.held f) ∷ []) (complement (at m.held f)) r m'

-- a function with e set to a bit
abbrev pub Fixes : Rule → Meaning → ℕ → Bool → Result ℕ StoreFault → Meaning → Type 0
Fixes rule m f b r m' = Yields rule m (f < length m.held) (fixed m.inputs (at m.held f) b ∷ []) (fixed m.inputs (at m.held f) b) r m'

-- before the first start
abbrev pub empty : ℕ → ℕ → Meaning
empty most places = record { inputs = 0; most = most; places = places; held = never ∷ always ∷ [] }

-- a start at n inputs
abbrev pub Starts : Meaning → ℕ → Result Unit StoreFault → Meaning → Type 0
Starts m n (Ok _) m' = (0 < n) × (n ≤ m.most) × (m' ≡ record { inputs = n; most = m.most; places = m.places; held = never ∷ always ∷ [] })
Starts m n (Err Inputs) m' = ((0 < n) × (n ≤ m.most) → ⊥) × (m' ≡ m)
Starts m n (Err Places) m' = ⊥
Starts m n (Err Bounds) m' = ⊥

abbrev pub cut : Meaning → ℕ → Meaning
cut m k = record { inputs = m.inputs; most = m.most; places = m.places; held = take k m.held }

-- the list is cut to its first k functions
abbrev pub Releases : Meaning → ℕ → Result Unit StoreFault → Meaning → Type 0
Releases m k (Ok _) m' = (2 ≤ k) × (k ≤ length m.held) × (m' ≡ cut m k)
Releases m k (Err Inputs) m' = ⊥
Releases m k (Err Places) m' = ⊥
Releases m k (Err Bounds) m' = ((2 ≤ k) × (k ≤ length m.held) → ⊥) × (m' ≡ m)

-- the bit of a handle's function at e and an assignment
abbrev pub Tells : Meaning → ℕ → Bool → ℕ → Result Bool StoreFault → Type 0
Tells m h e a (Ok b) = (h < length m.held) × (a < 2 ^ m.inputs) × (b ≡ at m.held h (point m.inputs e a))
Tells m h e a (Err Inputs) = ⊥
Tells m h e a (Err Places) = ⊥
Tells m h e a (Err Bounds) = (h < length m.held) × (a < 2 ^ m.inputs) → ⊥
