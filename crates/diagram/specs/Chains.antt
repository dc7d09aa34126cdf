-- The chains of rows: each row is linked to the newest earlier row of its chain, and each chain has a head, its newest row.
use Rattle.std.specs.Prelude.{◌≡◌, ℕ, zero, suc, ◌+◌, ◌*◌, ◌%◌, ◌<◌, ◌≤◌, cond, List, length, Some, None, Option, ◌==◌, slice_index_or}
use Rattle.diagram.specs.declared.link.Link.{Link}
use Rattle.diagram.specs.declared.row.Node.{Node}
use Rattle.diagram.specs.declared.row.Row.{Row}

-- the link to no row
abbrev pub no_link : Link
no_link = record { raw = 0 }

-- the handle of the row that a link leads to, if any
abbrev pub handle_of : Link → Option ℕ
handle_of l = cond (l.raw == 0) None (Some l.raw)

abbrev pub blank : Row
blank = record { node = record { variable = 0; low = 0; high = 0 }; next = no_link }

-- the row at a place
abbrev pub row : List Row → ℕ → Row
row rows k = slice_index_or rows k blank

-- the chain of a row with this node
unfoldable pub chain : Node → ℕ
chain m = (m.variable + 31 * m.low + 509 * m.high) % 1024

-- the handle of the newest of the first k rows that is in a chain
unfoldable pub newest : List Row → ℕ → ℕ → Option ℕ
newest rows b zero = None
newest rows b (suc k) = cond (chain (row rows k).node == b) (Some (k + 2)) (newest rows b k)

-- The heads and the links of the first len rows are right.
pub record Chained (len : ℕ) (rows : List Row) (heads : List Link) : Type 0 where
  pub many : length heads ≡ 1024
  pub starts : (b : ℕ) → b < 1024 → handle_of (slice_index_or heads b no_link) ≡ newest rows b len
  pub links : (k : ℕ) → k < len → handle_of (row rows k).next ≡ newest rows (chain (row rows k).node) k

-- The rows are found by their chains.
pub record LinkedOf (len : ℕ) (rows : List Row) (heads : List Link) : Type 0 where
  pub within : len ≤ length rows
  pub bounded : length rows ≤ 4096
  pub chained : Chained len rows heads

-- where the row with this node stands among the first len
abbrev pub Placed : ℕ → List Row → Node → Option ℕ → Type 0
Placed len rows m (Some h) = (k : ℕ) × (k < len) × (h ≡ k + 2) × ((row rows k).node ≡ m)
Placed len rows m None = (k : ℕ) → k < len → (row rows k).node ≡ m → ⊥
