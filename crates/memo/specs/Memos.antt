-- What a memo remembers.
use Rattle.std.specs.Prelude.{◌≡◌, ℕ, ◌<◌, ◌≤◌, true, cond, List, length, take, replicate, Some, None, Ok, Err, Option, Result, nat_lt, slice_index_or, slice_set}
use Rattle.stores.specs.declared.fault.StoreFault.{StoreFault}
use Rattle.stores.specs.Functions.{Function, Same}
use Rattle.stores.specs.Meaning.{Meaning, Rule, Lawful, at, has}
use Rattle.stores.specs.Calls.{asked, Fits, Asks}
use Rattle.stores.specs.declared.call.Call.{Call}
use Rattle.memo.specs.declared.entry.Entry.{Entry}
use Rattle.memo.specs.Calls.{place_of}

-- An entry is right: among the functions that were held at the end of its call, its answer is the function asked for,
-- and all that is kept for that function stands there too.
pub record Right (rule : Rule) (m : Meaning) (e : Entry) : Type 0 where
  pub within : e.length ≤ length m.held
  pub fits : Fits m e.length e.call
  pub held : e.answer < e.length
  pub answers : Same m.inputs (at m.held e.answer) (asked m e.call)
  pub keeps : (g : Function) → has m.inputs g (rule m.inputs (asked m e.call)) ≡ true → has m.inputs g (take e.length m.held) ≡ true

-- what is at a place
abbrev pub entry_at : List (Option Entry) → ℕ → Option Entry
entry_at es i = slice_index_or es i None

-- The entries over a store that means m are right, and there are 64 places for them.
pub record SoundMemo (rule : Rule) (m : Meaning) (es : List (Option Entry)) : Type 0 where
  pub many : length es ≡ 64
  pub lawful : Lawful rule m
  pub right : (i : ℕ) (e : Entry) → entry_at es i ≡ Some e → Right rule m e

-- the call is remembered, by this entry
abbrev pub Remembered : List (Option Entry) → Call → Entry → Type 0
Remembered es call e = (entry_at es (place_of call) ≡ Some e) × (e.call ≡ call)

abbrev pub Forgotten : List (Option Entry) → Call → Type 0
Forgotten es call = (e : Entry) → Remembered es call e → ⊥

abbrev pub Recalled : List (Option Entry) → Call → Option ℕ → Type 0
Recalled es call (Some h) = (e : Entry) × Remembered es call e × (h ≡ e.answer)
Recalled es call None = Forgotten es call

-- What a call that yields a function makes of a memo with the entries es over the store b, which means m.
pub record Memoized {B : Type 0} (rule : Rule) (m : Meaning) (call : Call) (b : B) (es : List (Option Entry)) (r : Result ℕ StoreFault) (m' : Meaning) (b' : B) (es' : List (Option Entry)) : Type 0 where
  -- A remembered call is answered by its entry, and nothing changes.
  pub recalled : (e : Entry) → Remembered es call e → (r ≡ Ok e.answer) × (b' ≡ b) × (es' ≡ es)
  -- Whatever the store below may answer to it is that answer.
  pub as_below : (e : Entry) → Remembered es call e → (s : Result ℕ StoreFault) (n : Meaning) → Asks rule m call s n → (s ≡ r) × (n ≡ m)
  -- Any other call is remembered where it is granted, and only what its place had gives way.
  pub newest : Forgotten es call → (h : ℕ) → r ≡ Ok h → es' ≡ slice_set es (place_of call) (Some (record { call = call; answer = h; length = length m'.held }))
  -- A refused call is not remembered, and nothing is forgotten.
  pub refused : (f : StoreFault) → r ≡ Err f → es' ≡ es

-- an entry after the list was cut to its first k functions
abbrev pub left_of : ℕ → Option Entry → Option Entry
left_of k None = None
left_of k (Some e) = cond (nat_lt k e.length) None (Some e)

-- Each call that ended with a longer list than k is forgotten, and no other.
pub record Forgets (k : ℕ) (es es' : List (Option Entry)) : Type 0 where
  pub many : length es' ≡ length es
  pub each : (i : ℕ) → entry_at es' i ≡ left_of k (entry_at es i)

-- what a release leaves
abbrev pub Released : ℕ → List (Option Entry) → Result Unit StoreFault → List (Option Entry) → Type 0
Released k es (Ok _) es' = Forgets k es es'
Released k es (Err f) es' = es' ≡ es

-- what a start leaves
abbrev pub Started : List (Option Entry) → Result Unit StoreFault → List (Option Entry) → Type 0
Started es (Ok _) es' = es' ≡ replicate 64 None
Started es (Err f) es' = es' ≡ es
