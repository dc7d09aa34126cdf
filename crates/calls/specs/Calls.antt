-- What a line of a table asks of a store: the names, the numbers, and what each does.
use Rattle.std.specs.Prelude.{◌≡◌, ℕ, Bool, cond, List, length, codes, Ok, Err, Result, MatchResult, ◌==◌, slice_index}
use Rattle.stores.specs.declared.fault.StoreFault.{StoreFault}
use Rattle.stores.specs.declared.operation.Operation.TheVariants.{And, Or, Xor}
use Rattle.stores.specs.declared.call.Call.TheVariants.{Variable, Join, Flip, Fix}
use Rattle.stores.specs.Majority.{AllHeld, steps_at, majority_at}
use Rattle.stores.specs.Meaning.{Meaning, Rule, Yields, Starts, Tells, Releases}
use Rattle.stores.specs.Calls.{Asks}
use Rattle.calls.specs.declared.request.Request.{Request}
use Rattle.calls.specs.declared.request.Request.TheVariants.{Start, Yield, Majority, Value, Length, Release}

-- the name of a request
abbrev pub request_word : Request → List ℕ
request_word (Start n) = codes "start"
request_word (Yield (Variable v)) = codes "variable"
request_word (Yield (Join And f g)) = codes "and"
request_word (Yield (Join Or f g)) = codes "or"
request_word (Yield (Join Xor f g)) = codes "xor"
request_word (Majority f g h) = codes "majority"
request_word (Yield (Flip f)) = codes "flip"
request_word (Yield (Fix f b)) = codes "fix"
request_word (Value f e a) = codes "value"
request_word Length = codes "length"
request_word (Release m) = codes "release"

-- the number at a place of three
abbrev at : List ℕ → ℕ → ℕ
at ns i = slice_index ns i

-- What is passed with a request are the first of these numbers. A bit is 1 where its number is 1.
abbrev pub HasNumbers : Request → List ℕ → Type 0
HasNumbers (Start n) ns = n ≡ at ns 0
HasNumbers (Yield (Variable v)) ns = v ≡ at ns 0
HasNumbers (Yield (Join op f g)) ns = (f ≡ at ns 0) × (g ≡ at ns 1)
HasNumbers (Majority f g h) ns = (f ≡ at ns 0) × (g ≡ at ns 1) × (h ≡ at ns 2)
HasNumbers (Yield (Flip f)) ns = f ≡ at ns 0
HasNumbers (Yield (Fix f b)) ns = (f ≡ at ns 0) × (b ≡ (at ns 1 == 1))
HasNumbers (Value f e a) ns = (f ≡ at ns 0) × (e ≡ (at ns 1 == 1)) × (a ≡ at ns 2)
HasNumbers Length ns = Unit {0}
HasNumbers (Release m) ns = m ≡ at ns 0

-- A request that the store answers with nothing is told as 0.
abbrev pub Silent : (Result Unit StoreFault → Type 0) → Result ℕ StoreFault → Type 0
Silent does r = MatchResult r (λ k. (k ≡ 0) × does (Ok tt)) (λ f. does (Err f))

-- what a store does that is asked
abbrev pub Ran : Rule → Meaning → Request → Result ℕ StoreFault → Meaning → Type 0
Ran rule m (Start n) r m' = Silent (λ s. Starts m n s m') r
Ran rule m (Yield c) r m' = Asks rule m c r m'
Ran rule m (Majority f g h) r m' = Yields rule m (AllHeld m f g h) (steps_at m f g h) (majority_at m f g h) r m'
Ran rule m (Value f e a) r m' = (m' ≡ m) × MatchResult r (λ k. (b : Bool) × Tells m f e a (Ok b) × (k ≡ cond b 1 0)) (λ x. Tells m f e a (Err x))
Ran rule m Length r m' = (m' ≡ m) × (r ≡ Ok (length m.held))
Ran rule m (Release k) r m' = Silent (λ s. Releases m k s m') r
