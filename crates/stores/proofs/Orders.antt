-- The order in which functions are asked for does not matter.
use Rattle.std.proofs.Common.{◌≡◌, ℕ, zero, suc, ◌<◌, true, false, List, [], ◌∷◌, ◌++◌, length, sym, refl, ◌∙◌, inl, inr, arith}
use Rattle.std.proofs.lemmas.Bool.{both_ways, or_cases, or_left, or_right}
use Rattle.stores.specs.Functions.{Function}
use Rattle.stores.specs.Laws.{Alike, Laws}
use Rattle.stores.specs.Meaning.{Meaning, Rule, Keeps, has, kept, at}
use Rattle.stores.proofs.Sames.{Same_refl, has_append, has_at, at_has, both_same}
use Rattle.stores.proofs.Laws.{gained_then, overfull_then, overfull_more, gained_fits, overfull_as}

-- what is kept is kept for one of the functions
kept_for : (rule : Rule) (n : ℕ) (h : Function) (fs : List Function) → has n h (kept rule n fs) ≡ true → (k : ℕ) × (k < length fs) × (has n h (rule n (at fs k)) ≡ true)
unfolding kept has
kept_for rule n h [] e = absurd (both_ways false refl e)
kept_for rule n h (f ∷ fs) e =
    elim (or_cases (has n h (rule n f)) (has n h (kept rule n fs)) (sym (has_append n h (rule n f) (kept rule n fs)) ∙ e)) [
      | inl x ↦ (0, omega arith, x)
      | inr y ↦ let p = kept_for rule n h fs y in (suc p.0, omega (arith, p.1), p.2)
    ]

kept_with : (rule : Rule) (n : ℕ) (h : Function) (fs : List Function) (k : ℕ) → k < length fs → has n h (rule n (at fs k)) ≡ true → has n h (kept rule n fs) ≡ true
unfolding kept
kept_with rule n h [] k l e = let z : ⊥ = omega arith in absurd z
kept_with rule n h (f ∷ fs) zero l e = has_append n h (rule n f) (kept rule n fs) ∙ or_left _ _ e
kept_with rule n h (f ∷ fs) (suc k) l e = has_append n h (rule n f) (kept rule n fs) ∙ or_right (has n h (rule n f)) _ (kept_with rule n h fs k (omega arith) e)

-- the same functions keep the same
kept_alike : (rule : Rule) (m : Meaning) (fs gs : List Function) → Keeps rule m.inputs → Alike m fs gs → (h : Function) → has m.inputs h (kept rule m.inputs fs) ≡ true → has m.inputs h (kept rule m.inputs gs) ≡ true
kept_alike rule m fs gs k e h t =
    let n = m.inputs in
    let (i, l, x) = kept_for rule n h fs t in
    let (j, l', s) = at_has n gs (at fs i) (sym (e (at fs i)) ∙ has_at n fs i (at fs i) l (Same_refl n (at fs i))) in
    kept_with rule n h gs j l' (k.by_points (at gs j) (at fs i) h s ∙ x)

-- what is held with them is the same
held_alike : (rule : Rule) (m : Meaning) (fs gs : List Function) → Keeps rule m.inputs → Alike m fs gs → (h : Function) → has m.inputs h (m.held ++ kept rule m.inputs fs) ≡ true → has m.inputs h (m.held ++ kept rule m.inputs gs) ≡ true
held_alike rule m fs gs k e h t =
    let n = m.inputs in
    has_append n h m.held (kept rule n gs)
    ∙ elim (or_cases (has n h m.held) (has n h (kept rule n fs)) (sym (has_append n h m.held (kept rule n fs)) ∙ t)) [
      | inl x ↦ or_left _ _ x
      | inr y ↦ or_right (has n h m.held) _ (kept_alike rule m fs gs k e h y)
    ]

pub laws : (rule : Rule) → ((n : ℕ) → Keeps rule n) → Laws rule
laws rule keeps =
    record {
      then_gained = gained_then rule;
      then_overfull = overfull_then rule;
      overfull_before = overfull_more rule;
      one_or_other = gained_fits rule;
      any_order = λ m m' m'' fs gs e a b f.
          a.content f ∙ (both_same _ _ (held_alike rule m fs gs (keeps m.inputs) e f) (held_alike rule m gs fs (keeps m.inputs) (λ g. sym (e g)) f) ∙ sym (b.content f));
      any_order_refused = λ m fs gs e o. overfull_as rule m fs gs (held_alike rule m fs gs (keeps m.inputs) e) o;
    }
