-- What the methods of the word store answer.
use Rattle.std.proofs.Common.{◌≡◌, ℕ, suc, ◌+◌, ◌-◌, ◌^◌, ◌<◌, ◌≤◌, Bool, true, ◌&&◌, List, [], ◌∷◌, ◌++◌, take, drop, Result, sym, ap, ◌∙◌, subst, arith, take-append-drop}
use mathlib.Core.Bool.{and-true}
use lib.Bits.{bit_and, bit_xor}
use Rattle.stores.specs.declared.fault.StoreFault.{StoreFault}
use Rattle.stores.specs.declared.operation.Operation.{Operation}
use Rattle.stores.specs.Functions.{Same, bit, points, combine, variable, complement, joined, fixed}
use Rattle.stores.specs.Meaning.{Meaning, Stands, at, Yields, Takes, Joins, Flips, Fixes, cut, different}
use Rattle.stores.specs.Words.{of_word, listed, meaning_of, alone, SoundOf}
use Rattle.stores.proofs.Sames.{Same_sym, Same_trans, different_front}
use Rattle.stores.proofs.Laws.{joined_same, yields_as}
use Rattle.stores.proofs.Alone.{alone_keeps}
use Rattle.stores.proofs.WordBits.{word_flip, fixed_same, complement_same, bit-and, bit_ones, points_le}
use Rattle.stores.proofs.Listed.{cut_listed}

module _ (n len : ℕ) (ws : List ℕ) (s : SoundOf n len ws) where
  pub answers_fix : (f x w : ℕ) (b : Bool) (r : Result ℕ StoreFault) (m' : Meaning) → Stands (meaning_of n len ws) f (of_word x) → Same n (of_word w) (fixed n (of_word x) b) → Yields alone (meaning_of n len ws) (Unit {0}) (of_word w ∷ []) (of_word w) r m' → Fixes alone (meaning_of n len ws) f b r m'
  answers_fix f x w b r m' t u y =
      yields_as alone (meaning_of n len ws) m' _ (of_word w) (fixed n (at (listed len ws) f) b) r (alone_keeps n) t.within
      (Same_trans n (of_word w) (fixed n (of_word x) b) (fixed n (at (listed len ws) f) b) u (fixed_same n (of_word x) (at (listed len ws) f) b (Same_sym n (at (listed len ws) f) (of_word x) t.means))) y

  pub answers_flip : (f x full : ℕ) (r : Result ℕ StoreFault) (m' : Meaning) → full ≡ 2 ^ points n - 1 → Stands (meaning_of n len ws) f (of_word x) → Yields alone (meaning_of n len ws) (Unit {0}) (of_word (bit_xor x full) ∷ []) (of_word (bit_xor x full)) r m' → Flips alone (meaning_of n len ws) f r m'
  answers_flip f x full r m' e t y =
      yields_as alone (meaning_of n len ws) m' _ (of_word (bit_xor x full)) (complement (at (listed len ws) f)) r (alone_keeps n) t.within
      (λ p q. ap (λ z. bit (bit_xor x z) p) e ∙ (word_flip n x p q ∙ complement_same n (of_word x) (at (listed len ws) f) (Same_sym n (at (listed len ws) f) (of_word x) t.means) p q)) y

  pub answers_join : (op : Operation) (f g x z w : ℕ) (r : Result ℕ StoreFault) (m' : Meaning) → Stands (meaning_of n len ws) f (of_word x) → Stands (meaning_of n len ws) g (of_word z) → ((p : ℕ) → bit w p ≡ combine op (bit x p) (bit z p)) → Yields alone (meaning_of n len ws) (Unit {0}) (of_word w ∷ []) (of_word w) r m' → Joins alone (meaning_of n len ws) op f g r m'
  unfolding joined
  answers_join op f g x z w r m' t u b y =
      yields_as alone (meaning_of n len ws) m' _ (of_word w) (joined op (at (listed len ws) f) (at (listed len ws) g)) r (alone_keeps n) (t.within, u.within)
      (λ p q. b p ∙ sym (joined_same n op (at (listed len ws) f) (of_word x) (at (listed len ws) g) (of_word z) t.means u.means p q)) y

  pub answers_variable : (v x full : ℕ) (r : Result ℕ StoreFault) (m' : Meaning) → v ≤ n → full ≡ 2 ^ points n - 1 → ((p : ℕ) → p < 64 → bit x p ≡ bit p (n - v)) → Yields alone (meaning_of n len ws) (Unit {0}) (of_word (bit_and x full) ∷ []) (of_word (bit_and x full)) r m' → Takes alone (meaning_of n len ws) v r m'
  unfolding variable
  answers_variable v x full r m' l e t y =
      yields_as alone (meaning_of n len ws) m' _ (of_word (bit_and x full)) (variable n v) r (alone_keeps n) l
      (λ p q. bit-and x full p ∙ (ap (λ z. bit x p && bit z p) e ∙ (ap (λ z. bit x p && z) (bit_ones (points n) p q) ∙ (and-true (bit x p) ∙ t p (omega (arith, points_le n s.few)))))) y

  pub release_sound : (m : ℕ) → m ≤ len → SoundOf n m ws
  release_sound m l =
      let k = s.within in
      record {
        within = omega arith;
        bounded = s.bounded;
        few = s.few;
        small = λ j q. s.small j (omega arith);
        apart =
            let rest = drop (suc (suc m)) (listed len ws) in
            let e : listed m ws ++ rest ≡ listed len ws = ap (λ x. x ++ rest) (sym (cut_listed len ws m l)) ∙ take-append-drop (suc (suc m)) (listed len ws) in
            different_front n (listed m ws) rest (subst (λ x. different n x ≡ true) (sym e) s.apart);
      }

  pub release_meaning : (m : ℕ) → 2 ≤ m → m ≤ len + 2 → meaning_of n (m - 2) ws ≡ cut (meaning_of n len ws) m
  release_meaning m a b =
      let i : m ≡ suc (suc (m - 2)) = omega arith in
      let e : take m (listed len ws) ≡ listed (m - 2) ws = ap (λ x. take x (listed len ws)) i ∙ cut_listed len ws (m - 2) (omega arith) in
      cc
