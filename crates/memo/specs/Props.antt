-- That the entries are right can be shown in one way at most, as is asked of what a memo carries.
use Rattle.std.specs.Prelude.{◌≡◌, ℕ, ◌≤◌, true, List, ◌∷◌, length, drop, Option}
use Rattle.std.proofs.Common.{sym, ap, ◌∙◌}
use Rattle.std.proofs.Props.{props}
use mathlib.Core.HLevel.{Σ_prop_path}
use Rattle.stores.specs.Functions.{Function, never, always}
use Rattle.stores.specs.Meaning.{Meaning, Rule, Good, different}
use Rattle.stores.specs.Calls.{Fits}
use Rattle.stores.specs.declared.call.Call.{Call}
use Rattle.stores.specs.declared.call.Call.TheVariants.{Variable, Join, Flip, Fix}
use Rattle.memo.specs.declared.entry.Entry.{Entry}
use Rattle.memo.specs.Memos.{SoundMemo}

-- what a list has after false and true
abbrev Others : Meaning → Type 0
Others m = (fs : List Function) × ((m.held ≡ never ∷ always ∷ fs) × (length fs ≤ m.places))

others_prop : (m : Meaning) → IsProp (Others m)
others_prop m x y =
    let rest : (fs : List Function) → IsProp ((m.held ≡ never ∷ always ∷ fs) × (length fs ≤ m.places)) = hlevel props in
    Σ_prop_path rest (ap (drop 2) (sym x.1.0 ∙ y.1.0))

Good-prop : (m : Meaning) → IsProp (Good m)
Good-prop m x y =
    let p : ◌≡◌ {A = Others m} (x.others, (x.begins, x.fits)) (y.others, (y.begins, y.fits)) = others_prop m _ _ in
    let apart : IsProp (different m.inputs m.held ≡ true) = hlevel props in
    let few : IsProp (m.inputs ≤ m.most) = hlevel props in
    λ i. record {
      others = (p i).0;
      begins = (p i).1.0;
      apart = apart x.apart y.apart i;
      fits = (p i).1.1;
      few = few x.few y.few i;
    }

Fits-prop : (m : Meaning) (k : ℕ) (c : Call) → IsProp (Fits m k c)
Fits-prop m k (Join op f g) = hlevel props
Fits-prop m k (Flip f) = hlevel props
Fits-prop m k (Fix f b) = hlevel props
Fits-prop m k (Variable v) = hlevel props

pub SoundMemo-prop : (rule : Rule) (m : Meaning) (es : List (Option Entry)) → IsProp (SoundMemo rule m es)
SoundMemo-prop rule m es = hlevel (props, Good-prop, Fits-prop)
