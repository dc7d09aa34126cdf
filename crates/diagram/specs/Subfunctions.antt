-- What is kept for a function: what is left of it once the first variables are set.
use Rattle.std.specs.Prelude.{ℕ, zero, suc, ◌+◌, ◌-◌, ◌*◌, ◌/◌, ◌%◌, ◌^◌, Bool, true, false, cond, not, List, [], ◌∷◌, ◌++◌, map, filter}
use Rattle.stores.specs.Functions.{Function, constant}
use Rattle.stores.specs.Meaning.{Rule}

-- a point with its bit d set
unfoldable pub with_bit : ℕ → Bool → ℕ → ℕ
with_bit d b p = p / 2 ^ (d + 1) * 2 ^ (d + 1) + (cond b (2 ^ d) 0 + p % 2 ^ d)

-- f with variable v set to a bit
abbrev pub cofactor : ℕ → ℕ → Bool → Function → Function
cofactor n v b f p = f (with_bit (n - v) b p)

-- f with variables 0 to k - 1 set, to all values
unfoldable pub settings : ℕ → ℕ → Function → List Function
settings n zero f = f ∷ []
settings n (suc k) f = map (cofactor n k false) (settings n k f) ++ map (cofactor n k true) (settings n k f)

-- f with variables 0 to k - 1 set, for every k up to m
unfoldable pub settings_upto : ℕ → ℕ → Function → List Function
settings_upto n zero f = settings n zero f
settings_upto n (suc m) f = settings n (suc m) f ++ settings_upto n m f

-- those of them that are not constant
unfoldable pub subfunctions : Rule
subfunctions n f = filter (λ g. not (constant n g)) (settings_upto n (n + 1) f)
