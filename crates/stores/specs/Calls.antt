-- The calls of a store that yield a function.
use Rattle.std.specs.Prelude.{ℕ, ◌<◌, ◌≤◌, [], ◌∷◌, length, Result}
use Rattle.stores.specs.Functions.{Function, variable, complement, joined, fixed}
use Rattle.stores.specs.declared.fault.StoreFault.{StoreFault}
use Rattle.stores.specs.Meaning.{Meaning, Rule, at, Yields}
use Rattle.stores.specs.declared.call.Call.{Call}
use Rattle.stores.specs.declared.call.Call.TheVariants.{Variable, Join, Flip, Fix}

-- the function that is asked for, of a store with this meaning
abbrev pub asked : Meaning → Call → Function
asked m (Join op f g) = joined op (at m.held f) (at m.held g)
asked m (Flip f) = complement (at m.held f)
asked m (Fix f b) = fixed m.inputs (at m.held f) b
asked m (Variable v) = variable m.inputs v

-- the call is within its bounds, where the list is cut to its first k functions
abbrev pub Fits : Meaning → ℕ → Call → Type 0
Fits m k (Join op f g) = (f < k) × (g < k)
Fits m k (Flip f) = f < k
Fits m k (Fix f b) = f < k
Fits m k (Variable v) = v ≤ m.inputs

-- what a store answers to a call, by the interface
abbrev pub Asks : Rule → Meaning → Call → Result ℕ StoreFault → Meaning → Type 0
Asks rule m c r m' = Yields rule m (Fits m (length m.held) c) (asked m c ∷ []) (asked m c) r m'
