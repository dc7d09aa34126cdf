-- The bits of words.
use Rattle.std.proofs.Common.{◌≡◌, ℕ, zero, suc, ◌+◌, ◌-◌, ◌*◌, ◌/◌, ◌%◌, ◌^◌, ◌<◌, ◌≤◌, Bool, true, false, cond, not, ◌&&◌, ◌||◌, eqb, min, max, sym, refl, ap, ◌∙◌, inl, inr, mod-lt, mod-eq_of_lt, zero-add, arith, lit≤, pow_pos, pow-add, shl_exact, shr-shr, shr_lt}
use native.Mathlib.Nat.{add-mod_left}
use Rattle.std.proofs.lemmas.Nat.{one_shl}
use Rattle.std.proofs.lemmas.Nat.Bits.{bit_at_and, bit_at_or, bit_at_xor, bit_at-zero, bit_at_ones, bit_at-lt, same_from_bits_below, bit_at_cat_low, bit_at_cat_high}
use lib.Bits.{or_shifted, bit_and, bit_or, bit_xor, and_lt, or_lt, xor_lt}
use lib.Arith.{digits_lt}
use Rattle.std.proofs.lemmas.Bool.Decides.{nat_tests}
use Rattle.std.proofs.lemmas.Bool.{cases_lt}
use Rattle.stores.specs.Functions.{Function, bit, points, Same, differ, agrees, never, always, complement, fixed, point}
use Rattle.stores.specs.Words.{of_word}
use Rattle.stores.proofs.Sames.{agrees_tells}

-- what holds of 0 to 5
pub upto_five : (P : ℕ → Type 0) → P 0 → P 1 → P 2 → P 3 → P 4 → P 5 → (n : ℕ) → n ≤ 5 → P n
upto_five P a b c d e f zero h = a
upto_five P a b c d e f (suc zero) h = b
upto_five P a b c d e f (suc (suc zero)) h = c
upto_five P a b c d e f (suc (suc (suc zero))) h = d
upto_five P a b c d e f (suc (suc (suc (suc zero)))) h = e
upto_five P a b c d e f (suc (suc (suc (suc (suc zero))))) h = f
upto_five P a b c d e f (suc (suc (suc (suc (suc (suc n)))))) h = let z : ⊥ = omega arith in absurd z

pub points_le : (n : ℕ) → n ≤ 5 → points n ≤ 64
points_le n h = upto_five (λ n. points n ≤ 64) (lit≤ tt) (lit≤ tt) (lit≤ tt) (lit≤ tt) (lit≤ tt) (lit≤ tt) n h

same_bit : (x y : ℕ) → x < 2 → y < 2 → eqb x 1 ≡ eqb y 1 → x ≡ y
same_bit x y l m e = grind (arith, nat_tests)

-- a number below 2 ^ k is known by its bits below k
pub bit_ext : (k a b : ℕ) → a < 2 ^ k → b < 2 ^ k → ((p : ℕ) → p < k → bit a p ≡ bit b p) → a ≡ b
bit_ext k a b l m same = same_from_bits_below k a b l m (λ p q. same_bit _ _ (bit_at-lt a p) (bit_at-lt b p) (same p q))

and_small : (x y : ℕ) → x < 2 → y < 2 → eqb (min x y) 1 ≡ (eqb x 1 && eqb y 1)
and_small x y l m = grind (arith, nat_tests)

pub bit-and : (a b p : ℕ) → bit (bit_and a b) p ≡ (bit a p && bit b p)
bit-and a b p = rw (bit_at_and a b p) (and_small _ _ (bit_at-lt a p) (bit_at-lt b p))

or_small : (x y : ℕ) → x < 2 → y < 2 → eqb (max x y) 1 ≡ (eqb x 1 || eqb y 1)
or_small x y l m = grind (arith, nat_tests)

pub bit-or : (a b p : ℕ) → bit (bit_or a b) p ≡ (bit a p || bit b p)
bit-or a b p = rw (bit_at_or a b p) (or_small _ _ (bit_at-lt a p) (bit_at-lt b p))

xor_small : (x y : ℕ) → x < 2 → y < 2 → eqb ((x + y) % 2) 1 ≡ differ (eqb x 1) (eqb y 1)
xor_small x y l m = grind (arith, nat_tests)

pub bit-xor : (a b p : ℕ) → bit (bit_xor a b) p ≡ differ (bit a p) (bit b p)
bit-xor a b p = rw (bit_at_xor a b p) (xor_small _ _ (bit_at-lt a p) (bit_at-lt b p))

-- what the operations make of bits
pub ruleset bits_joined = (bit-and, bit-or, bit-xor, and_lt, or_lt, xor_lt)

pub bit_zero : (p : ℕ) → bit 0 p ≡ false
bit_zero p = rw (bit_at-zero p)

pub bit_ones : (k p : ℕ) → p < k → bit (2 ^ k - 1) p ≡ true
bit_ones k p l = rw (bit_at_ones k p l)

-- the bits of a number's lower part, and of its upper part
pub bit_low : (x h q : ℕ) → q < h → bit (x % 2 ^ h) q ≡ bit x q
bit_low x h q l =
    let e : x / 2 ^ h * 2 ^ h + x % 2 ^ h ≡ x = omega (arith, pow_pos h) in
    ap (λ y. eqb y 1) (sym (bit_at_cat_low (x / 2 ^ h) h (x % 2 ^ h) q l)) ∙ ap (λ y. bit y q) e

pub bit_high : (x h q : ℕ) → bit (x / 2 ^ h) q ≡ bit x (h + q)
bit_high x h q = rw (shr-shr x h q)

-- functions of words
pub word_never : (n : ℕ) → Same n (of_word 0) never
word_never n p l = bit_zero p

pub word_always : (n : ℕ) → Same n (of_word (2 ^ points n - 1)) always
word_always n p l = bit_ones (points n) p l

pub word_flip : (n w : ℕ) → Same n (of_word (bit_xor w (2 ^ points n - 1))) (complement (of_word w))
unfolding complement
word_flip n w p l = bit-xor w (2 ^ points n - 1) p ∙ (ap (λ x. differ (bit w p) x) (bit_ones (points n) p l) ∙ flips (bit w p))
  where
    flips : (x : Bool) → differ x true ≡ not x
    flips true = refl
    flips false = refl

pow_double : (n : ℕ) → 2 ^ (n + 1) ≡ 2 ^ n + 2 ^ n
pow_double n = pow-add 2 n 1 ∙ omega arith

-- a half of a word, written twice
word_twice : (n part p : ℕ) → part < 2 ^ 2 ^ n → p < points n → bit (part * 2 ^ 2 ^ n + part) p ≡ bit part (p % 2 ^ n)
word_twice n part p f l =
    let h = 2 ^ n in
    let d = pow_double n in
    elim (cases_lt p h) [
      | inl below ↦ ap (λ x. eqb x 1) (bit_at_cat_low part h part p below) ∙ ap (bit part) (sym (mod-eq_of_lt below))
      | inr above ↦ let s : p ≡ h + (p - h) = omega arith in
          ap (λ x. eqb x 1) (bit_at_cat_high part h part p f above) ∙ ap (bit part) (sym (ap (λ x. x % h) s ∙ (add-mod_left h (p - h) ∙ mod-eq_of_lt (let q : p - h < h = omega arith in q))))
    ]

pub word_fix : (n w : ℕ) (b : Bool) (part : ℕ) → w < 2 ^ points n → part ≡ cond b (w / 2 ^ 2 ^ n) (w % 2 ^ 2 ^ n) → Same n (of_word (part * 2 ^ 2 ^ n + part)) (fixed n (of_word w) b)
unfolding fixed
word_fix n w true part f e p l =
    let h = 2 ^ n in
    let d : 2 ^ points n ≡ 2 ^ (h + h) = ap (λ x. 2 ^ x) (pow_double n) in
    let u : part < 2 ^ h = rw e (shr_lt h h (rw d at f)) in
    word_twice n part p u l ∙ (ap (λ x. bit x (p % h)) e ∙ bit_high w h (p % h))
word_fix n w false part f e p l =
    let h = 2 ^ n in
    let u : part < 2 ^ h = rw e (mod-lt w (pow_pos h)) in
    word_twice n part p u l ∙ (ap (λ x. bit x (p % h)) e ∙ (bit_low w h (p % h) (mod-lt p (pow_pos n)) ∙ ap (bit w) (sym (zero-add (p % h)))))

pub twice_fits : (n w : ℕ) (b : Bool) (part : ℕ) → w < 2 ^ points n → part ≡ cond b (w / 2 ^ 2 ^ n) (w % 2 ^ 2 ^ n) → part < 2 ^ 2 ^ n
twice_fits n w true part f e =
    let h = 2 ^ n in
    let d : 2 ^ points n ≡ 2 ^ (h + h) = ap (λ x. 2 ^ x) (pow_double n) in
    rw e (shr_lt h h (rw d at f))
twice_fits n w false part f e = let h = 2 ^ n in rw e (mod-lt w (pow_pos h))

pub twice_below : (n part : ℕ) → part < 2 ^ 2 ^ n → part * 2 ^ 2 ^ n + part < 2 ^ points n
twice_below n part f =
    let h = 2 ^ n in
    let d : 2 ^ points n ≡ 2 ^ h * 2 ^ h = ap (λ x. 2 ^ x) (pow_double n) ∙ pow-add 2 h h in
    rw d (digits_lt f f)

-- functions that agree at a point agree once e is fixed
pub fixed_same : (n : ℕ) (f g : Function) (b : Bool) → Same n f g → Same n (fixed n f b) (fixed n g b)
unfolding fixed
fixed_same n f g b s p l = s (point n b (p % 2 ^ n)) (within b)
  where
    within : (b : Bool) → point n b (p % 2 ^ n) < points n
    within true = omega (arith, mod-lt p (pow_pos n), pow_double n)
    within false = omega (arith, mod-lt p (pow_pos n), pow_double n)

pub complement_same : (n : ℕ) (f g : Function) → Same n f g → Same n (complement f) (complement g)
unfolding complement
complement_same n f g s p l = ap not (s p l)

pub point_below : (n : ℕ) (e : Bool) (a : ℕ) → a < 2 ^ n → point n e a < points n
point_below n true a l = omega (arith, pow_double n)
point_below n false a l = omega (arith, pow_double n)

-- the words of the variables
pub striped : (w k j : ℕ) → agrees 64 (of_word w) (λ p. bit p j) ≡ true → k ≡ j → (p : ℕ) → p < 64 → bit w p ≡ bit p k
striped w k j t e p l = (agrees_tells 64 (of_word w) (λ p. bit p j)).0 t p l ∙ ap (bit p) (sym e)

-- the shifts of `repeated`
pub half_is : (n : ℕ) → n ≤ 5 → (1 * 2 ^ n) % 4294967296 ≡ 2 ^ n
half_is n l = one_shl n 32 (omega arith)

pub half_below : (n : ℕ) → n ≤ 5 → (1 * 2 ^ n) % 4294967296 < 64
half_below n l = rw (half_is n l) (upto_five (λ n. 2 ^ n < 64) (lit≤ tt) (lit≤ tt) (lit≤ tt) (lit≤ tt) (lit≤ tt) (lit≤ tt) n l)

pub whole_is : (n : ℕ) → n ≤ 5 → (1 * 2 ^ ((1 * 2 ^ n) % 4294967296)) % 18446744073709551616 ≡ 2 ^ 2 ^ n
whole_is n l = one_shl ((1 * 2 ^ n) % 4294967296) 64 (half_below n l) ∙ ap (λ x. 2 ^ x) (half_is n l)

pub repeated_is : (n part : ℕ) → n ≤ 5 → part < 2 ^ 2 ^ n → bit_or ((part * 2 ^ ((1 * 2 ^ n) % 4294967296)) % 18446744073709551616) part ≡ part * 2 ^ 2 ^ n + part
repeated_is n part l f =
    let h = 2 ^ n in
    let d : h + h ≤ 64 = omega (arith, pow_double n, points_le n l) in
    rw (half_is n l, shl_exact h h 64 f d, or_shifted part h part f)
