-- The diagram store: what it holds, and what its own functions leave.
use Rattle.std.specs.Prelude.{◌≡◌, ℕ, ◌+◌, ◌<◌, ◌≤◌, Bool, true, false, ◌⊎◌, List, [], ◌∷◌, length, Some, None, Ok, Err, Option, Result}
use Rattle.stores.specs.declared.fault.StoreFault.{StoreFault}
use Rattle.stores.specs.declared.fault.StoreFault.TheVariants.{Inputs, Places, Bounds}
use Rattle.stores.specs.declared.operation.Operation.{Operation}
use Rattle.stores.specs.Functions.{Function, Same, combine}
use Rattle.stores.specs.Meaning.{Meaning, at, Gained, Overfull, Stands}
use Rattle.diagram.specs.declared.row.Node.{Node}
use Rattle.diagram.specs.declared.row.Row.{Row}
use Rattle.diagram.specs.declared.diagram.Diagram.{Diagram}
use Rattle.diagram.specs.Chains.{row, Placed}
use Rattle.diagram.specs.Rows.{node, functions, top}
use Rattle.diagram.specs.Subfunctions.{subfunctions}

-- a store of n inputs that uses the first len of its rows
abbrev pub meaning_of : ℕ → ℕ → List Row → Meaning
meaning_of n len rows = record { inputs = n; most = 12; places = length rows; held = functions n rows len }

abbrev pub diagram_meaning : Diagram → Meaning
diagram_meaning d = meaning_of d.inputs d.len d.rows.now

-- where the row with this node stands
abbrev pub Standing : Diagram → Node → Option ℕ → Type 0
Standing d m r = Placed d.len d.rows.now m r

-- A row with this node stands behind the others, and nothing else has changed.
pub record AppendedOf (n len : ℕ) (rows : List Row) (m : Node) (n' len' : ℕ) (rows' : List Row) : Type 0 where
  pub inputs_kept : n' ≡ n
  pub one_more : len' ≡ len + 1
  pub size_kept : length rows' ≡ length rows
  pub rows_kept : (k : ℕ) → k < len → row rows' k ≡ row rows k
  pub row_new : (row rows' len).node ≡ m

abbrev pub Appended : Diagram → Node → Diagram → Type 0
Appended d m d' = AppendedOf d.inputs d.len d.rows.now m d'.inputs d'.len d'.rows.now

-- Only the first rows are left, and nothing else has changed.
pub record CutOf (n : ℕ) (rows : List Row) (to n' len' : ℕ) (rows' : List Row) : Type 0 where
  pub inputs_kept : n' ≡ n
  pub len_is : len' ≡ to
  pub rows_kept : rows' ≡ rows

abbrev pub Cut : Diagram → ℕ → Diagram → Type 0
Cut d to d' = CutOf d.inputs d.rows.now to d'.inputs d'.len d'.rows.now

-- The calls of a store take handles as plain numbers, so each function that goes by one asks for this.
abbrev pub Held : Diagram → ℕ → Type 0
Held d h = h < d.len + 2

-- A handle that is held is admitted, and another is refused with 15.
abbrev pub Admits : Diagram → ℕ → Result Unit StoreFault → Type 0
Admits d h (Ok _) = Held d h × (h < length (diagram_meaning d).held)
Admits d h (Err Inputs) = ⊥
Admits d h (Err Places) = ⊥
Admits d h (Err Bounds) = h < length (diagram_meaning d).held → ⊥

-- the function of a handle
abbrev pub function_of : Diagram → ℕ → Function
function_of d h = at (functions d.inputs d.rows.now d.len) h

-- its first variable
abbrev pub top_of : Diagram → ℕ → ℕ
top_of d h = top d.inputs d.rows.now h

-- v is a variable, and low and high are held and have no variable up to it.
pub record LaterOf (n len : ℕ) (rows : List Row) (v low high : ℕ) : Type 0 where
  pub known : v ≤ n
  pub low_held : low < len + 2
  pub high_held : high < len + 2
  pub low_later : v < top n rows low
  pub high_later : v < top n rows high

abbrev pub Later : Diagram → ℕ → ℕ → ℕ → Type 0
Later d v low high = LaterOf d.inputs d.len d.rows.now v low high

-- low and high are what is left of h where variable v is 0 and where it is 1
abbrev pub Parts : Diagram → ℕ → ℕ → ℕ × ℕ → Type 0
Parts d h v r = Later d v r.0 r.1 × Same d.inputs (function_of d h) (node d.inputs v (function_of d r.0) (function_of d r.1))

-- Rows may have been put behind the others, and nothing else has changed.
pub record ExtendsOf (n len : ℕ) (rows : List Row) (n' len' : ℕ) (rows' : List Row) : Type 0 where
  pub inputs_kept : n' ≡ n
  pub longer : len ≤ len'
  pub size_kept : length rows' ≡ length rows
  pub rows_kept : (k : ℕ) → k < len → row rows' k ≡ row rows k

abbrev pub Extends : Diagram → Diagram → Type 0
Extends d d' = ExtendsOf d.inputs d.len d.rows.now d'.inputs d'.len d'.rows.now

-- f was yielded, with no variable before v; or it is refused since it does not fit.
abbrev pub BuildsOf : ℕ → ℕ → List Row → Function → ℕ → Result ℕ StoreFault → ℕ → List Row → Type 0
BuildsOf n len rows f v (Ok h) len' rows' = Gained subfunctions (meaning_of n len rows) (f ∷ []) (meaning_of n len' rows') × Stands (meaning_of n len' rows') h f × (v ≤ top n rows' h)
BuildsOf n len rows f v (Err Inputs) len' rows' = ⊥
BuildsOf n len rows f v (Err Places) len' rows' = Overfull subfunctions (meaning_of n len rows) (f ∷ [])
BuildsOf n len rows f v (Err Bounds) len' rows' = ⊥

abbrev pub Builds : Diagram → Function → ℕ → Result ℕ StoreFault → Diagram → Type 0
Builds d f v r d' = BuildsOf d.inputs d.len d.rows.now f v r d'.len d'.rows.now

-- A refusal leaves no row behind.
abbrev pub RefusedInPlace : Diagram → Result ℕ StoreFault → Diagram → Type 0
RefusedInPlace d (Ok h) d' = Unit {0}
RefusedInPlace d (Err e) d' = d'.len ≡ d.len

-- A join that needs no row: whatever bits the handles have, 0 being false and 1 true, the answer has their combination.
abbrev pub Settled : Operation → ℕ → ℕ → Option ℕ → Type 0
Settled op f g (Some h) =
    ((h < 2) ⊎ ((h ≡ f) ⊎ (h ≡ g))) × ((bits : ℕ → Bool) → bits 0 ≡ false → bits 1 ≡ true → bits h ≡ combine op (bits f) (bits g))
Settled op f g None = f < 2 → g < 2 → ⊥
