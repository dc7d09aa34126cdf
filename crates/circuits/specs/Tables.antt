-- A short list that stands at the front of a table of fixed size, whose other entries are blank.
use Rattle.std.specs.Prelude.{ℕ, Bool, true, ◌&&◌, List, [], ◌∷◌, length, drop, ◌==◌, nat_le}

unfoldable pub all_blank : {X : Type 0} → (X → Bool) → List X → Bool
all_blank blank [] = true
all_blank blank (x ∷ xs) = blank x && all_blank blank xs

-- whether a table of this size holds a list of len entries
unfoldable pub holds_front : {X : Type 0} → (X → Bool) → ℕ → List X → ℕ → Bool
holds_front blank size table len = (length table == size && nat_le len size) && all_blank blank (drop len table)
