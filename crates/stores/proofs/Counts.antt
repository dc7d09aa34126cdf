-- How many different functions of a list are not constant: a list that has all that another has counts as many at least.
use Rattle.std.proofs.Common.{◌≡◌, ℕ, suc, ◌<◌, ◌≤◌, true, false, cond, not, ◌||◌, List, [], ◌∷◌, ◌++◌, length, sym, refl, ap, ◌∙◌, inl, inr, arith}
use mathlib.Core.Bool.{or-false, or_comm}
use Rattle.std.proofs.lemmas.Bool.{cases_Bool, both_ways, or_cases, or_left, or_right, or_from, or_parts, and_parts, not-true}
use Rattle.stores.specs.Functions.{Function, never, always, same, constant}
use Rattle.stores.specs.Meaning.{has, different, count, at}
use Rattle.stores.proofs.Sames.{same_tells, same_refl, same_sym, same_left, Same_sym, has_same, has_append, constant_same, has_at}

without : ℕ → Function → List Function → List Function
without n f [] = []
without n f (g ∷ gs) = cond (same n f g) (without n f gs) (g ∷ without n f gs)

without_none : (n : ℕ) (f : Function) (gs : List Function) → has n f gs ≡ false → without n f gs ≡ gs
unfolding without has
without_none n f [] e = refl
without_none n f (g ∷ gs) e =
    let (a, b) = or_parts (same n f g) (has n f gs) e in rw (a, without_none n f gs b)

-- what is left without f has all that differs from f
has_without : (n : ℕ) (f h : Function) (gs : List Function) → same n f h ≡ false → has n h (without n f gs) ≡ has n h gs
unfolding without has
has_without n f h [] e = refl
has_without n f h (g ∷ gs) e =
    elim (cases_Bool (same n f g)) [
      | inl t ↦ let s : same n h g ≡ false = same_sym n h g ∙ (same_left n g f h (Same_sym n f g ((same_tells n f g).0 t)) ∙ e) in
          rw (t, s) (has_without n f h gs e)
      | inr t ↦ rw (t, has_without n f h gs e)
    ]

count_without : (n : ℕ) (f : Function) (gs : List Function) → constant n f ≡ false → has n f gs ≡ true → count n gs ≡ suc (count n (without n f gs))
unfolding without has count
count_without n f [] c e = absurd (both_ways false refl e)
count_without n f (g ∷ gs) c e =
    elim (cases_Bool (same n f g)) [
      | inl t ↦ let s = (same_tells n f g).0 t in
          let cg : constant n g ≡ false = sym (constant_same n f g s) ∙ c in
          let hg : has n g gs ≡ has n f gs = sym (has_same n f g gs s) in
          elim (cases_Bool (has n f gs)) [
            | inl i ↦ rw (t, cg, hg, i) (count_without n f gs c i)
            | inr o ↦ rw (t, cg, hg, o, without_none n f gs o)
          ]
      | inr t ↦ let i : has n f gs ≡ true = elim (or_cases (same n f g) (has n f gs) e) [ inl x ↦ absurd (both_ways _ t x) | inr y ↦ y ] in
          let hg : has n g (without n f gs) ≡ has n g gs = has_without n f g gs t in
          rw (t, hg) (elim (cases_Bool (constant n g || has n g gs)) [
            | inl y ↦ rw y (count_without n f gs c i)
            | inr z ↦ rw z (ap suc (count_without n f gs c i))
          ])
    ]

-- a list that has all that another has counts as many at least
pub count_le : (n : ℕ) (fs gs : List Function) → ((h : Function) → has n h fs ≡ true → has n h gs ≡ true) → count n fs ≤ count n gs
unfolding has count
count_le n [] gs all = omega arith
count_le n (f ∷ fs) gs all =
    elim (cases_Bool (constant n f || has n f fs)) [
      | inl y ↦ rw y (count_le n fs gs (λ h e. all h (or_right (same n h f) _ e)))
      | inr z ↦ let (c, o) = or_parts (constant n f) (has n f fs) z in
          let i : has n f gs ≡ true = all f (or_left _ _ (same_refl n f)) in
          let w = count_without n f gs c i in
          let l = count_le n fs (without n f gs) (λ h e.
          elim (cases_Bool (same n f h)) [
            | inl s ↦ absurd (both_ways _ o (has_same n f h fs ((same_tells n f h).0 s) ∙ e))
            | inr d ↦ has_without n f h gs d ∙ all h (or_right (same n h f) _ e)
          ]) in
          rw z (omega arith)
    ]

pub count_same : (n : ℕ) (fs gs : List Function) → ((h : Function) → has n h fs ≡ has n h gs) → count n fs ≡ count n gs
count_same n fs gs all =
    let a = count_le n fs gs (λ h e. sym (all h) ∙ e) in
    let b = count_le n gs fs (λ h e. all h ∙ e) in
    omega arith

-- of different functions that begin with the two constants, the others count
pub count_none : (n : ℕ) (f : Function) (gs : List Function) → constant n f ≡ true → count n (f ∷ gs) ≡ count n gs
unfolding count
count_none n f gs c = rw c

pub count_nil : (n : ℕ) → count n [] ≡ 0
unfolding count
count_nil n = refl

pub count_new : (n : ℕ) (f : Function) (gs : List Function) → constant n f ≡ false → has n f gs ≡ false → count n (f ∷ gs) ≡ suc (count n gs)
unfolding count
count_new n f gs c h = rw (c, h)

-- one that is there already counts no more
pub count_old : (n : ℕ) (f : Function) (gs : List Function) → has n f gs ≡ true → count n (f ∷ gs) ≡ count n gs
unfolding count
count_old n f gs h = elim (cases_Bool (constant n f)) [ inl c ↦ rw c | inr c ↦ rw (c, h) ]

-- one more at the end counts as one more at the beginning
pub has_push : (n : ℕ) (f h : Function) (gs : List Function) → has n h (gs ++ f ∷ []) ≡ has n h (f ∷ gs)
unfolding has
has_push n f h gs = has_append n h gs (f ∷ []) ∙ (ap (λ x. has n h gs || x) (or-false (same n h f)) ∙ or_comm (has n h gs) (same n h f))

pub count_push : (n : ℕ) (f : Function) (gs : List Function) → count n (gs ++ f ∷ []) ≡ count n (f ∷ gs)
count_push n f gs = count_same n (gs ++ f ∷ []) (f ∷ gs) (λ h. has_push n f h gs)

-- different functions of which none is constant all count
pub count_all : (n : ℕ) (gs : List Function) → different n gs ≡ true → ((k : ℕ) → k < length gs → constant n (at gs k) ≡ false) → count n gs ≡ length gs
unfolding different
count_all n [] d c = count_nil n
count_all n (g ∷ gs) d c =
    let (a, b) = and_parts (not (has n g gs)) (different n gs) d in
    count_new n g gs (c 0 (omega arith)) (not-true _ a) ∙ ap suc (count_all n gs b (λ k l. c (suc k) (omega arith)))

pub constant_never : (n : ℕ) → constant n never ≡ true
unfolding constant
constant_never n = or_left _ _ (same_refl n never)

pub constant_always : (n : ℕ) → constant n always ≡ true
unfolding constant
constant_always n = or_right (same n always never) _ (same_refl n always)

-- beside the two constants no other function is constant
pub others_vary : (n : ℕ) (fs : List Function) → different n (never ∷ always ∷ fs) ≡ true → (k : ℕ) → k < length fs → constant n (at fs k) ≡ false
unfolding different constant has
others_vary n fs d k l =
    let (a, d₁) = and_parts (not (has n never (always ∷ fs))) (different n (always ∷ fs)) d in
    let (b, d₂) = and_parts (not (has n always fs)) (different n fs) d₁ in
    let a' = (or_parts (same n never always) (has n never fs) (not-true _ a)).1 in
    or_from (same n (at fs k) never) (same n (at fs k) always)
    (elim (cases_Bool (same n (at fs k) never)) [ inl t ↦ absurd (both_ways _ a' (has_at n fs k never l ((same_tells n (at fs k) never).0 t))) | inr o ↦ o ])
    (elim (cases_Bool (same n (at fs k) always)) [ inl t ↦ absurd (both_ways _ (not-true _ b) (has_at n fs k always l ((same_tells n (at fs k) always).0 t))) | inr o ↦ o ])

pub count_held : (n : ℕ) (fs : List Function) → different n (never ∷ always ∷ fs) ≡ true → count n (never ∷ always ∷ fs) ≡ length fs
unfolding different
count_held n fs d =
    let (a, d₁) = and_parts (not (has n never (always ∷ fs))) (different n (always ∷ fs)) d in
    let (b, d₂) = and_parts (not (has n always fs)) (different n fs) d₁ in
    count_none n never (always ∷ fs) (constant_never n) ∙ (count_none n always fs (constant_always n) ∙ count_all n fs d₂ (others_vary n fs d))
