-- Functions of the extra variable e and n inputs.
use Rattle.std.specs.Prelude.{◌≡◌, ℕ, zero, suc, ◌+◌, ◌-◌, ◌/◌, ◌%◌, ◌^◌, ◌<◌, Bool, true, false, cond, not, ◌&&◌, ◌||◌, ◌==◌}
use Rattle.stores.specs.declared.operation.Operation.{Operation}
use Rattle.stores.specs.declared.operation.Operation.TheVariants.{And, Or, Xor}

-- A function gives a bit at each point e * 2 ^ n + a, where the assignment a is below 2 ^ n and has the first input as its highest bit.
-- What it gives at 2 ^ (n + 1) and above does not matter.
abbrev pub Function : Type 0
Function = ℕ → Bool

abbrev pub points : ℕ → ℕ
points n = 2 ^ (n + 1)

-- bit k of a number
abbrev pub bit : ℕ → ℕ → Bool
bit x k = x / 2 ^ k % 2 == 1

abbrev pub never : Function
never p = false

abbrev pub always : Function
always p = true

-- Variable 0 is e, and 1 to n are the inputs.
unfoldable pub variable : ℕ → ℕ → Function
variable n v p = bit p (n - v)

unfoldable pub complement : Function → Function
complement f p = not (f p)

abbrev pub differ : Bool → Bool → Bool
differ x y = cond x (not y) y

abbrev pub combine : Operation → Bool → Bool → Bool
combine And x y = x && y
combine Or x y = x || y
combine Xor x y = differ x y

unfoldable pub joined : Operation → Function → Function → Function
joined op f g p = combine op (f p) (g p)

-- the point of e and an assignment
abbrev pub point : ℕ → Bool → ℕ → ℕ
point n e a = cond e (2 ^ n) 0 + a

unfoldable pub fixed : ℕ → Function → Bool → Function
fixed n f e p = f (point n e (p % 2 ^ n))

-- f and g agree at each point of n inputs
abbrev pub Same : ℕ → Function → Function → Type 0
Same n f g = (p : ℕ) → p < points n → f p ≡ g p

-- the test for it
unfoldable pub agrees : ℕ → Function → Function → Bool
agrees zero f g = true
agrees (suc k) f g = not (differ (f k) (g k)) && agrees k f g

unfoldable pub same : ℕ → Function → Function → Bool
same n f g = agrees (points n) f g

unfoldable pub constant : ℕ → Function → Bool
constant n f = same n f never || same n f always
