-- What rows stand for, and when they are reduced.
use Rattle.std.specs.Prelude.{◌≡◌, ℕ, zero, suc, ◌+◌, ◌-◌, ◌<◌, ◌≤◌, Bool, cond, List, [], ◌∷◌, ◌++◌}
use Rattle.stores.specs.Functions.{Function, never, always, points, variable}
use Rattle.stores.specs.Meaning.{at}
use Rattle.diagram.specs.declared.link.Link.{Link}
use Rattle.diagram.specs.declared.row.Row.{Row}
use Rattle.diagram.specs.Chains.{row, LinkedOf}
use Rattle.diagram.specs.Subfunctions.{with_bit}

-- f where variable v is 0, and g where it is 1
abbrev pub node : ℕ → ℕ → Function → Function → Function
node n v f g p = cond (variable n v p) (g p) (f p)

-- f depends on no variable below v
abbrev pub Free : ℕ → ℕ → Function → Type 0
Free n v f = (k : ℕ) → k < v → (b : Bool) (p : ℕ) → p < points n → f (with_bit (n - k) b p) ≡ f p

-- the functions of the first rows, behind false and true
unfoldable pub functions : ℕ → List Row → ℕ → List Function
functions n rows zero = never ∷ always ∷ []
functions n rows (suc k) =
    functions n rows k ++ node n (row rows k).node.variable (at (functions n rows k) (row rows k).node.low) (at (functions n rows k) (row rows k).node.high) ∷ []

-- the variable of a handle's row; a constant has none, and stands below all variables
abbrev pub top : ℕ → List Row → ℕ → ℕ
top n rows zero = n + 1
top n rows (suc zero) = n + 1
top n rows (suc (suc k)) = (row rows k).node.variable

-- The row at place k has a variable, two different handles of constants or earlier rows, and their variables are larger.
pub record Ordered (n : ℕ) (rows : List Row) (k : ℕ) : Type 0 where
  pub known : (row rows k).node.variable ≤ n
  pub low_earlier : (row rows k).node.low < k + 2
  pub high_earlier : (row rows k).node.high < k + 2
  pub parts_differ : (row rows k).node.low ≡ (row rows k).node.high → ⊥
  pub low_rises : (row rows k).node.variable < top n rows (row rows k).node.low
  pub high_rises : (row rows k).node.variable < top n rows (row rows k).node.high

-- The first len rows are ordered, and no two are equal.
pub record Reduced (n len : ℕ) (rows : List Row) : Type 0 where
  pub ordered : (k : ℕ) → k < len → Ordered n rows k
  pub once : (j k : ℕ) → j < k → k < len → (row rows j).node ≡ (row rows k).node → ⊥

-- What holds of a store of n inputs that uses the first len of its rows.
pub record SoundOf (n len : ℕ) (rows : List Row) (heads : List Link) : Type 0 where
  pub few : n ≤ 12
  pub reduced : Reduced n len rows
  pub linked : LinkedOf len rows heads
