-- The majority of three functions, as joins make it.
use Rattle.std.specs.Prelude.{ℕ, ◌<◌, List, [], ◌∷◌, length}
use Rattle.stores.specs.declared.operation.Operation.TheVariants.{And, Or}
use Rattle.stores.specs.Meaning.{Meaning, at}
use Rattle.stores.specs.Functions.{Function, joined}

abbrev pub majority_of : Function → Function → Function → Function
majority_of f g h = joined Or (joined Or (joined And f g) (joined And f h)) (joined And g h)

abbrev pub majority_steps : Function → Function → Function → List Function
majority_steps f g h = joined And f g ∷ joined And f h ∷ joined And g h ∷ joined Or (joined And f g) (joined And f h) ∷ majority_of f g h ∷ []

-- the three handles are held
abbrev pub AllHeld : Meaning → ℕ → ℕ → ℕ → Type 0
AllHeld m a b c = (a < length m.held) × (b < length m.held) × (c < length m.held)

abbrev pub steps_at : Meaning → ℕ → ℕ → ℕ → List Function
steps_at m a b c = majority_steps (at m.held a) (at m.held b) (at m.held c)

abbrev pub majority_at : Meaning → ℕ → ℕ → ℕ → Function
majority_at m a b c = majority_of (at m.held a) (at m.held b) (at m.held c)
