-- The records of a text, and the fields of a record.
use Rattle.std.specs.Prelude.{ℕ, cond, List, [], ◌∷◌, drop, ◌==◌}

-- the bytes before the first that is c, or all
unfoldable pub before : ℕ → List ℕ → List ℕ
before c [] = []
before c (b ∷ bs) = cond (b == c) [] (b ∷ before c bs)

-- A line feed, byte 10, ends a record, and a comma, byte 44, parts two fields.
abbrev pub feed : ℕ
feed = 10

abbrev pub comma : ℕ
comma = 44

-- the record that begins at a place, without its line feed
abbrev pub record_at : List ℕ → ℕ → List ℕ
record_at text place = before feed (drop place text)

-- a byte more in the first field
abbrev pub in_first : ℕ → List (List ℕ) → List (List ℕ)
in_first b [] = (b ∷ []) ∷ []
in_first b (f ∷ fs) = (b ∷ f) ∷ fs

-- the fields of a record: one more than it has commas
unfoldable pub fields : List ℕ → List (List ℕ)
fields [] = [] ∷ []
fields (b ∷ bs) = cond (b == comma) ([] ∷ fields bs) (in_first b (fields bs))
