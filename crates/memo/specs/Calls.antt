-- The places of the calls that a memo remembers.
use Rattle.std.specs.Prelude.{ℕ, ◌+◌, ◌*◌, ◌%◌, cond}
use Rattle.stores.specs.declared.operation.Operation.{Operation}
use Rattle.stores.specs.declared.operation.Operation.TheVariants.{And, Or, Xor}
use Rattle.stores.specs.declared.call.Call.{Call}
use Rattle.stores.specs.declared.call.Call.TheVariants.{Variable, Join, Flip, Fix}

abbrev pub number_of : Operation → ℕ
number_of And = 0
number_of Or = 1
number_of Xor = 2

-- the place that two numbers and the number of what a call does give
abbrev pub place_at : ℕ → ℕ → ℕ → ℕ
place_at first second number = (first % 64 + 3 * (second % 64) + number) % 64

-- where a call is remembered: a fix has the bit as its second number, and a flip and a variable have 0
unfoldable pub place_of : Call → ℕ
place_of (Join op f g) = place_at f g (number_of op)
place_of (Flip f) = place_at f 0 3
place_of (Fix f b) = place_at f (cond b 1 0) 4
place_of (Variable v) = place_at v 0 5
