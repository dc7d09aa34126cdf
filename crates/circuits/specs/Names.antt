-- Names: 1 to 8 bytes of a to z and 0 to 9.
use Rattle.std.specs.Prelude.{ℕ, Bool, true, ◌&&◌, ◌||◌, List, [], ◌∷◌, length, ◌==◌, nat_le}

-- a to z, or 0 to 9
abbrev pub letter : ℕ → Bool
letter b = (nat_le 97 b && nat_le b 122) || (nat_le 48 b && nat_le b 57)

unfoldable pub letters : List ℕ → Bool
letters [] = true
letters (b ∷ bs) = letter b && letters bs

-- whether these bytes are a name
unfoldable pub is_name : List ℕ → Bool
is_name bs = (nat_le 1 (length bs) && nat_le (length bs) 8) && letters bs

-- A byte of a name's table that is not used is 0.
abbrev pub zero_byte : ℕ → Bool
zero_byte b = b == 0
