-- What the methods of a word store show.
use Rattle.std.proofs.Common.{◌≡◌, ℕ, suc, ◌+◌, ◌-◌, ◌^◌, ◌<◌, ◌≤◌, false, ◌≢◌, List, [], ◌∷◌, ◌++◌, length, get_or, take, set, Ok, Err, Some, None, Option, Bor, eqb, sym, refl, ap, ◌∙◌, subst, inl, inr, arith, length-set, length-take, get_or-set_other, get_or-set_same}
use Rattle.std.proofs.lemmas.Bool.{cases_lt, both_ways, eqb-true, eq-eqb}
use Rattle.std.proofs.lemmas.List.{length-map, get_or-take}
use Rattle.std.proofs.lemmas.List.Quantifiers.{position-Some}
use Rattle.std.proofs.lemmas.List.Sums.{fails_before_first}
use Rattle.std.proofs.lemmas.Bool.Decides.{nat_tests}
use Rattle.std.specs.List.{HoldsAt, position, position_or_len}
use Rattle.std.specs.Option.{MatchOption, ok_or, option_copied, option_map}
use Rattle.stores.specs.declared.fault.StoreFault.TheVariants.{Places, Bounds}
use Rattle.stores.specs.Functions.{Same, bit, points}
use Rattle.stores.specs.Meaning.{Stands, Gained, has, at, Yields}
use Rattle.stores.specs.Words.{of_word, listed, meaning_of, alone, SoundOf, Found, Reads}
use Rattle.stores.proofs.Sames.{has_at, different_push, constants_differ}
use Rattle.stores.proofs.WordBits.{word_never, word_always}
use Rattle.stores.proofs.Alone.{alone_keeps, gained_held, gained_alone}
use Rattle.stores.proofs.Laws.{overfull_new}
use Rattle.stores.proofs.Listed.{length_listed, at_listed, good_words, pushed, not_listed}

pub means_zero : (n len : ℕ) (ws : List ℕ) (h : ℕ) → h ≡ 0 → Same n (at (listed len ws) h) (of_word 0)
means_zero n len ws h e p l = rw e (sym (word_never n p l))

pub means_one : (n len : ℕ) (ws : List ℕ) (h w : ℕ) → h ≡ 1 → w ≡ 2 ^ points n - 1 → Same n (at (listed len ws) h) (of_word w)
means_one n len ws h w e f p l = rw (e, f) (sym (word_always n p l))

pub stands_one : (n len : ℕ) (ws : List ℕ) (w : ℕ) → SoundOf n len ws → w ≡ 2 ^ points n - 1 → Stands (meaning_of n len ws) 1 (of_word w)
stands_one n len ws w s e =
    let l = s.within in
    record { within = omega (arith, length_listed len ws l); means = means_one n len ws 1 w refl e }

pub stands_word : (n len : ℕ) (ws : List ℕ) (k w : ℕ) → SoundOf n len ws → k < len → get_or ws k 0 ≡ w → Stands (meaning_of n len ws) (k + 2) (of_word w)
stands_word n len ws k w s m e =
    let l : len ≤ length ws = s.within in
    let i : k + 2 ≡ suc (suc k) = omega arith in
    record {
      within = omega (arith, length_listed len ws l);
      means = λ p q. ap (λ x. at (listed len ws) x p) i ∙ (ap (λ x. x p) (at_listed len ws k l m) ∙ ap (λ x. bit x p) e);
    }

-- a word behind those of the two constants
pub reads_word : (n len : ℕ) (ws : List ℕ) (h : ℕ) (o : Option (Bor ℕ)) → SoundOf n len ws → 2 ≤ h → MatchOption o (length (take len ws) ≤ h - 2) (λ x. (h - 2 < length (take len ws)) × HoldsAt (λ y. x.now ≡ y) (take len ws) (h - 2)) → Reads (meaning_of n len ws) h (ok_or (option_copied o) Bounds)
reads_word n len ws h (Some x) s two i =
    let b : h - 2 < len = omega (arith, i.0, length-take len ws) in
    let e : get_or ws (h - 2) 0 ≡ x.now = sym (get_or-take len ws (h - 2) 0 b) ∙ sym (i.1 0) in
    let j : (h - 2) + 2 ≡ h = omega arith in
    (rw e at (s.small (h - 2) b), rw j at (stands_word n len ws (h - 2) x.now s b e))
reads_word n len ws h None s two i = λ l. omega (arith, s.within, length_listed len ws s.within, length-take len ws)

-- the first of the words that is w, where w is not the word of a constant
pub found_word : (n len : ℕ) (ws : List ℕ) (w : ℕ) → SoundOf n len ws → w < 2 ^ points n → (w ≡ 0 → ⊥) → (w ≡ 2 ^ points n - 1 → ⊥) → (o : Option ℕ) → position (λ x. eqb x w) (take len ws) ≡ o → Found (meaning_of n len ws) (of_word w) (option_map (λ i. i + 2) o)
found_word n len ws w s f z o (Some i) e =
    let l = s.within in
    let (m, t, _) = position-Some (λ x. eqb x w) (take len ws) i 0 e in
    let b : i < len = omega (arith, length-take len ws) in
    stands_word n len ws i w s b (sym (get_or-take len ws i 0 b) ∙ eqb-true _ _ t)
found_word n len ws w s f z o None e =
    not_listed n len ws w s.within s.small f z o (λ k b u.
    both_ways (eqb (get_or ws k 0) w) (sym (ap (λ x. eqb x w) (get_or-take len ws k 0 b)) ∙ fails_before_first (λ x. eqb x w) (take len ws) k 0 (omega (arith, past, s.within, length-take len ws))) (eq-eqb _ _ u))
  where
    past : length (take len ws) ≤ position_or_len (λ x. eqb x w) (take len ws)
    past = grind (arith, nat_tests)

others_length : (n len : ℕ) (ws : List ℕ) (s : SoundOf n len ws) → length (good_words n len ws s).others ≡ len
unfolding good_words
others_length n len ws s = let l = s.within in omega (arith, length-map (take len ws) of_word, length-take len ws)

module _ (n len : ℕ) (ws : List ℕ) (w : ℕ) (s : SoundOf n len ws) where
  pub keep_held : (h : ℕ) → Stands (meaning_of n len ws) h (of_word w) → Yields alone (meaning_of n len ws) (Unit {0}) (of_word w ∷ []) (of_word w) (Ok h) (meaning_of n len ws)
  keep_held h st =
      (tt, gained_held (meaning_of n len ws) (of_word w) (good_words n len ws s) (has_at n (listed len ws) h (of_word w) st.within st.means), st)

  pub keep_full : has n (of_word w) (listed len ws) ≡ false → length ws ≤ len → Yields alone (meaning_of n len ws) (Unit {0}) (of_word w ∷ []) (of_word w) (Err Places) (meaning_of n len ws)
  keep_full e l = (tt, overfull_new alone (meaning_of n len ws) (of_word w) (good_words n len ws s) (alone_keeps n) e (omega (arith, others_length n len ws s)), refl)

  -- the word written behind the others
  module _ (f : w < 2 ^ points n) (e : has n (of_word w) (listed len ws) ≡ false) (l : len < length ws) where
    pub keep_sound : SoundOf n (len + 1) (set ws len w)
    keep_sound = record {
      within = simp length-set (omega arith);
      bounded = let b = s.bounded in simp length-set (omega arith);
      few = s.few;
      small = λ k m. elim (cases_lt k len) [
        | inl below ↦ let ne : k ≢ len = omega arith in rw get_or-set_other (s.small k below)
        | inr above ↦ let at_end : k ≡ len = omega arith in rw (at_end, get_or-set_same) f
      ];
      apart = rw (pushed len ws w l) (different_push n (listed len ws) (of_word w) s.apart e);
    }

    meaning_new : meaning_of n (len + 1) (set ws len w) ≡ record { inputs = n; most = 5; places = length ws; held = listed len ws ++ of_word w ∷ [] }
    meaning_new = cc (length-set ws len w, pushed len ws w l)

    pub keep_new : Yields alone (meaning_of n len ws) (Unit {0}) (of_word w ∷ []) (of_word w) (Ok (len + 1 + 1)) (meaning_of n (len + 1) (set ws len w))
    keep_new = (
      tt,
      subst (λ x. Gained alone (meaning_of n len ws) (of_word w ∷ []) x) (sym meaning_new) (gained_alone (meaning_of n len ws) (of_word w) (good_words n len ws s) e (omega (arith, others_length n len ws s))),
      (let ix : len + 2 ≡ len + 1 + 1 = omega arith in
          let st : get_or (set ws len w) len 0 ≡ w = rw get_or-set_same in
          subst (λ x. Stands (meaning_of n (len + 1) (set ws len w)) x (of_word w)) ix (stands_word n (len + 1) (set ws len w) len w keep_sound (omega arith) st)),
    )

-- a store before its first start, or after a start
pub new_sound : (n : ℕ) (ws : List ℕ) → n ≤ 5 → length ws ≤ 4096 → SoundOf n 0 ws
new_sound n ws f b = record {
  within = omega arith;
  bounded = b;
  few = f;
  small = λ k m. let z : ⊥ = omega arith in absurd z;
  apart = constants_differ n;
}
