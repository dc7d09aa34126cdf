-- The bits of a point of which one is set.
use Rattle.std.proofs.Common.{◌≡◌, ℕ, ◌+◌, ◌-◌, ◌*◌, ◌/◌, ◌%◌, ◌^◌, ◌<◌, ◌≤◌, Bool, true, false, cond, eqb, ◌≢◌, sym, ap, ◌∙◌, subst, inl, inr, mod-lt, mul_assoc, mul_comm, add-mul, arith, pow_pos, pow-add, shr_lt}
use lib.Arith.{digits_lt}
use lib.Pow.{high, low}
use Rattle.std.proofs.lemmas.Bool.{cases_lt, eq-eqb, ne_eqb}
use Rattle.stores.specs.Functions.{points, bit}
use Rattle.stores.proofs.WordBits.{bit_low, bit_high}
use Rattle.diagram.specs.Subfunctions.{with_bit}

rest_below : (d p : ℕ) (b : Bool) → cond b (2 ^ d) 0 + p % 2 ^ d < 2 ^ (d + 1)
rest_below d p true = omega (arith, mod-lt p (pow_pos d), pow-add 2 d 1)
rest_below d p false = omega (arith, mod-lt p (pow_pos d), pow-add 2 d 1)

-- a point stays one when a bit is set
pub within : (n d : ℕ) (b : Bool) (p : ℕ) → d ≤ n → p < points n → with_bit d b p < points n
unfolding with_bit
within n d b p l q =
    let s : n + 1 ≡ (n - d) + (d + 1) = omega arith in
    let e : points n ≡ 2 ^ (n - d) * 2 ^ (d + 1) = ap (λ x. 2 ^ x) s ∙ pow-add 2 (n - d) (d + 1) in
    let q' : p < 2 ^ ((n - d) + (d + 1)) = subst (λ x. p < 2 ^ x) s q in
    subst (λ x. p / 2 ^ (d + 1) * 2 ^ (d + 1) + (cond b (2 ^ d) 0 + p % 2 ^ d) < x) (sym e) (digits_lt (shr_lt (n - d) (d + 1) q') (rest_below d p b))

doubled : (x t : ℕ) → x * (t * 2) ≡ x * 2 * t
doubled x t = ap (λ y. x * y) (mul_comm t 2) ∙ sym (mul_assoc x 2 t)

spread_one : (x t y : ℕ) → x * (t * 2) + (t + y) ≡ (x * 2 + 1) * t + y
spread_one x t y = omega (arith, doubled x t, add-mul (x * 2) 1 t)

spread_none : (x t y : ℕ) → x * (t * 2) + (0 + y) ≡ (x * 2 + 0) * t + y
spread_none x t y = omega (arith, doubled x t, add-mul (x * 2) 0 t)

module _ (d p : ℕ) where
  r : ℕ
  r = p % 2 ^ d

  q : ℕ
  q = p / 2 ^ (d + 1)

  spread : (b : Bool) → with_bit d b p ≡ (q * 2 + cond b 1 0) * 2 ^ d + r
  unfolding with_bit q r
  spread true = rw (pow-add 2 d 1) (spread_one (p / (2 ^ d * 2)) (2 ^ d) (p % 2 ^ d))
  spread false = rw (pow-add 2 d 1) (spread_none (p / (2 ^ d * 2)) (2 ^ d) (p % 2 ^ d))

  r_below : r < 2 ^ d
  unfolding r
  r_below = mod-lt p (pow_pos d)

  odd : (b : Bool) → eqb ((q * 2 + cond b 1 0) % 2) 1 ≡ b
  odd true = eq-eqb _ _ (omega arith)
  odd false = ne_eqb _ _ (λ e. omega arith)

  pub bit_with : (b : Bool) → bit (with_bit d b p) d ≡ b
  bit_with b = ap (λ x. eqb (x / 2 ^ d % 2) 1) (spread b) ∙ (ap (λ x. eqb (x % 2) 1) (high (q * 2 + cond b 1 0) d r_below) ∙ odd b)

  bit_with_lower : (b : Bool) (k : ℕ) → k < d → bit (with_bit d b p) k ≡ bit p k
  unfolding r
  bit_with_lower b k l =
      sym (bit_low (with_bit d b p) d k l) ∙ (ap (λ x. bit (x % 2 ^ d) k) (spread b) ∙ (ap (λ x. bit x k) (low (q * 2 + cond b 1 0) d r_below) ∙ bit_low p d k l))

  bit_with_higher : (b : Bool) (k : ℕ) → d < k → bit (with_bit d b p) k ≡ bit p k
  unfolding with_bit
  bit_with_higher b k l =
      let s : k ≡ (d + 1) + (k - (d + 1)) = omega arith in
      let x = with_bit d b p in
      ap (bit x) s ∙ (sym (bit_high x (d + 1) (k - (d + 1))) ∙ (ap (λ y. bit y (k - (d + 1))) (high (p / 2 ^ (d + 1)) (d + 1) (rest_below d p b)) ∙ (bit_high p (d + 1) (k - (d + 1)) ∙ ap (bit p) (sym s))))

  pub bit_with_other : (b : Bool) (k : ℕ) → k ≢ d → bit (with_bit d b p) k ≡ bit p k
  bit_with_other b k ne = elim (cases_lt k d) [ inl l ↦ bit_with_lower b k l | inr m ↦ bit_with_higher b k (let z : d < k = omega arith in z) ]
