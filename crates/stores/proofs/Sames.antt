-- Laws of the tests `same` and `has`.
use Rattle.std.proofs.Common.{◌≡◌, ℕ, zero, suc, ◌+◌, ◌<◌, Bool, true, false, not, ◌||◌, List, [], ◌∷◌, ◌++◌, length, Decides, sym, refl, ap, ◌∙◌, inl, inr, arith, pow_pos}
use mathlib.Core.Bool.{or_assoc}
use Rattle.std.proofs.lemmas.Bool.Decides.{Decides-below_and, same_from_decides}
use Rattle.std.proofs.lemmas.Bool.{cases_Bool, both_ways, or_cases, or_left, or_right, or_from, or_parts, and_parts, and_from, not-true, not_from_false}
use Rattle.stores.specs.Functions.{Function, never, always, differ, points, Same, agrees, same, constant}
use Rattle.stores.specs.Meaning.{has, different, at}

alike : (x y : Bool) → Decides (not (differ x y)) (x ≡ y)
alike true true = (λ _. refl, λ _. refl)
alike true false = (λ e. sym e, λ e. sym e)
alike false true = (λ e. e, λ e. e)
alike false false = (λ _. refl, λ _. refl)

pub agrees_tells : (k : ℕ) (f g : Function) → Decides (agrees k f g) ((p : ℕ) → p < k → f p ≡ g p)
unfolding agrees
agrees_tells k f g =
    Decides-below_and (λ p. not (differ (f p) (g p))) (λ p. f p ≡ g p) (λ k. agrees k f g) (λ p. alike (f p) (g p)) refl (λ _. refl) k

-- the test `same` tells whether two functions agree
pub same_tells : (n : ℕ) (f g : Function) → Decides (same n f g) (Same n f g)
unfolding same
same_tells n f g = agrees_tells (points n) f g

pub Same_refl : (n : ℕ) (f : Function) → Same n f f
Same_refl n f p h = refl

pub Same_sym : (n : ℕ) (f g : Function) → Same n f g → Same n g f
Same_sym n f g s p h = sym (s p h)

pub Same_trans : (n : ℕ) (f g h : Function) → Same n f g → Same n g h → Same n f h
Same_trans n f g h s t p l = s p l ∙ t p l

-- two tests are equal where each gives the other
pub both_same : (x y : Bool) → (x ≡ true → y ≡ true) → (y ≡ true → x ≡ true) → x ≡ y
both_same x y a b = same_from_decides x y (a, b) (λ e. e, λ e. e)

pub same_refl : (n : ℕ) (f : Function) → same n f f ≡ true
same_refl n f = (same_tells n f f).1 (Same_refl n f)

pub same_sym : (n : ℕ) (f g : Function) → same n f g ≡ same n g f
same_sym n f g =
    both_same _ _ (λ e. (same_tells n g f).1 (Same_sym n f g ((same_tells n f g).0 e))) (λ e. (same_tells n f g).1 (Same_sym n g f ((same_tells n g f).0 e)))

pub same_left : (n : ℕ) (f f' g : Function) → Same n f f' → same n f g ≡ same n f' g
same_left n f f' g s =
    both_same _ _
    (λ e. (same_tells n f' g).1 (Same_trans n f' f g (Same_sym n f f' s) ((same_tells n f g).0 e)))
    (λ e. (same_tells n f g).1 (Same_trans n f f' g s ((same_tells n f' g).0 e)))

pub has_same : (n : ℕ) (f f' : Function) (gs : List Function) → Same n f f' → has n f gs ≡ has n f' gs
unfolding has
has_same n f f' [] s = refl
has_same n f f' (g ∷ gs) s = rw (same_left n f f' g s, has_same n f f' gs s)

pub constant_same : (n : ℕ) (f f' : Function) → Same n f f' → constant n f ≡ constant n f'
unfolding constant
constant_same n f f' s = rw (same_left n f f' never s, same_left n f f' always s)

pub has_append : (n : ℕ) (f : Function) (gs hs : List Function) → has n f (gs ++ hs) ≡ (has n f gs || has n f hs)
unfolding has
has_append n f [] hs = refl
has_append n f (g ∷ gs) hs = rw (has_append n f gs hs) (sym (or_assoc (same n f g) (has n f gs) (has n f hs)))

-- a function at a place of a list is in it
pub has_at : (n : ℕ) (fs : List Function) (k : ℕ) (f : Function) → k < length fs → Same n (at fs k) f → has n f fs ≡ true
unfolding has
has_at n [] k f l s = let z : ⊥ = omega arith in absurd z
has_at n (g ∷ gs) zero f l s = or_left (same n f g) _ ((same_tells n f g).1 (Same_sym n g f s))
has_at n (g ∷ gs) (suc k) f l s = or_right (same n f g) _ (has_at n gs k f (omega arith) s)

-- and a function that is in it is at some place
pub at_has : (n : ℕ) (fs : List Function) (f : Function) → has n f fs ≡ true → (k : ℕ) × (k < length fs) × Same n (at fs k) f
unfolding has
at_has n [] f e = absurd (both_ways false refl e)
at_has n (g ∷ gs) f e =
    elim (or_cases (same n f g) (has n f gs) e) [
      | inl s ↦ (0, omega arith, Same_sym n f g ((same_tells n f g).0 s))
      | inr t ↦ let (k, l, s) = at_has n gs f t in (suc k, omega arith, s)
    ]

-- a list of different functions with one more
pub different_push : (n : ℕ) (fs : List Function) (f : Function) → different n fs ≡ true → has n f fs ≡ false → different n (fs ++ f ∷ []) ≡ true
unfolding different has
different_push n [] f d h = refl
different_push n (g ∷ gs) f d h =
    let (d₀, d₁) = and_parts (not (has n g gs)) (different n gs) d in
    let (h₀, h₁) = or_parts (same n f g) (has n f gs) h in
    and_from (not (has n g (gs ++ f ∷ []))) (different n (gs ++ f ∷ []))
    (not_from_false _ (has_append n g gs (f ∷ []) ∙ or_from _ _ (not-true _ d₀) (or_from _ _ (same_sym n g f ∙ h₀) refl)))
    (different_push n gs f d₁ h₁)

-- different functions stand at one place each
pub place_of : (n : ℕ) (fs : List Function) (i j : ℕ) → different n fs ≡ true → i < length fs → j < length fs → Same n (at fs i) (at fs j) → i ≡ j
unfolding different
place_of n [] i j d l m s = omega arith
place_of n (g ∷ gs) zero zero d l m s = refl
place_of n (g ∷ gs) zero (suc j) d l m s =
    let (d₀, d₁) = and_parts (not (has n g gs)) (different n gs) d in
    absurd (both_ways (has n g gs) (not-true _ d₀) (has_at n gs j g (omega arith) (Same_sym n g (at gs j) s)))
place_of n (g ∷ gs) (suc i) zero d l m s =
    let (d₀, d₁) = and_parts (not (has n g gs)) (different n gs) d in
    absurd (both_ways (has n g gs) (not-true _ d₀) (has_at n gs i g (omega arith) s))
place_of n (g ∷ gs) (suc i) (suc j) d l m s =
    let (d₀, d₁) = and_parts (not (has n g gs)) (different n gs) d in
    ap suc (place_of n gs i j d₁ (omega arith) (omega arith) s)

-- a first part of a list of different functions
pub different_front : (n : ℕ) (fs gs : List Function) → different n (fs ++ gs) ≡ true → different n fs ≡ true
unfolding different
different_front n [] gs d = refl
different_front n (f ∷ fs) gs d =
    let (a, b) = and_parts (not (has n f (fs ++ gs))) (different n (fs ++ gs)) d in
    and_from (not (has n f fs)) (different n fs)
    (not_from_false _ (or_parts (has n f fs) (has n f gs) (sym (has_append n f fs gs) ∙ not-true _ a)).0)
    (different_front n fs gs b)

-- false and true differ
pub constants_differ : (n : ℕ) → different n (never ∷ always ∷ []) ≡ true
unfolding different has
constants_differ n =
    let o : same n never always ≡ false = elim (cases_Bool (same n never always)) [ inr e ↦ e | inl e ↦ absurd (both_ways false refl ((same_tells n never always).0 e 0 (pow_pos (n + 1)))) ] in
    rw o
