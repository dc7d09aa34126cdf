-- What those who build on a store may use, whatever its keeping rule.
use Rattle.std.specs.Prelude.{◌≡◌, List, ◌++◌}
use Rattle.stores.specs.Functions.{Function}
use Rattle.stores.specs.Meaning.{Meaning, Rule, Gained, Overfull, has}

-- The two lists have the same functions, in whatever order.
abbrev pub Alike : Meaning → List Function → List Function → Type 0
Alike m fs gs = (f : Function) → has m.inputs f fs ≡ has m.inputs f gs

pub record Laws (rule : Rule) : Type 0 where
  -- Gains compose.
  pub then_gained : (m m' m'' : Meaning) (fs gs : List Function) → Gained rule m fs m' → Gained rule m' gs m'' → Gained rule m (fs ++ gs) m''
  -- What does not fit part way does not fit as a whole.
  pub then_overfull : (m m' : Meaning) (fs gs : List Function) → Gained rule m fs m' → Overfull rule m' gs → Overfull rule m (fs ++ gs)
  pub overfull_before : (m : Meaning) (fs gs : List Function) → Overfull rule m fs → Overfull rule m (fs ++ gs)
  -- What fits and what does not exclude each other.
  pub one_or_other : (m m' : Meaning) (fs : List Function) → Gained rule m fs m' → Overfull rule m fs → ⊥
  -- Asked in another order, the same functions are held, and the same is refused.
  pub any_order : (m m' m'' : Meaning) (fs gs : List Function) → Alike m fs gs → Gained rule m fs m' → Gained rule m gs m'' → Alike m m'.held m''.held
  pub any_order_refused : (m : Meaning) (fs gs : List Function) → Alike m fs gs → Overfull rule m fs → Overfull rule m gs
