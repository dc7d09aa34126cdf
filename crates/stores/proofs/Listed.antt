-- The list of a word store.
use Rattle.std.proofs.Common.{◌≡◌, ℕ, zero, suc, ◌+◌, ◌-◌, ◌^◌, ◌<◌, ◌≤◌, false, List, [], ◌∷◌, ◌++◌, map, length, get_or, take, set, sym, refl, ap, ◌∙◌, inl, inr, arith, length-take, pow_pos}
use Rattle.std.proofs.lemmas.Bool.{cases_Bool}
use Rattle.std.proofs.lemmas.List.{length-map, get_or-map, get_or-take, take_more_set, map_push, take-map, take-take}
use Rattle.stores.specs.Functions.{never, always, Same, points}
use Rattle.stores.specs.Meaning.{Good, has, at}
use Rattle.stores.specs.Words.{of_word, listed, meaning_of, SoundOf}
use Rattle.stores.proofs.Sames.{at_has}
use Rattle.stores.proofs.WordBits.{bit_ext, word_never, word_always}
use lib.Pow.{ones_lt}

pub length_listed : (len : ℕ) (ws : List ℕ) → len ≤ length ws → length (listed len ws) ≡ len + 2
length_listed len ws l = omega (arith, length-map (take len ws) of_word, length-take len ws)

pub at_listed : (len : ℕ) (ws : List ℕ) (k : ℕ) → len ≤ length ws → k < len → at (listed len ws) (suc (suc k)) ≡ of_word (get_or ws k 0)
at_listed len ws k l m =
    let t : k < length (take len ws) = omega (arith, length-take len ws) in
    get_or-map of_word (take len ws) k 0 never t ∙ ap of_word (get_or-take len ws k 0 m)

unfoldable pub good_words : (n len : ℕ) (ws : List ℕ) → SoundOf n len ws → Good (meaning_of n len ws)
good_words n len ws s =
    record { others = map of_word (take len ws); begins = refl; apart = s.apart; few = s.few; fits = let l = s.within in omega (arith, length-map (take len ws) of_word, length-take len ws) }

-- a word that is neither constant nor among the words is not held
pub not_listed : (n len : ℕ) (ws : List ℕ) (w : ℕ) → len ≤ length ws → ((k : ℕ) → k < len → get_or ws k 0 < 2 ^ points n) → w < 2 ^ points n → (w ≡ 0 → ⊥) → (w ≡ 2 ^ points n - 1 → ⊥) → ((k : ℕ) → k < len → get_or ws k 0 ≡ w → ⊥) → has n (of_word w) (listed len ws) ≡ false
not_listed n len ws w l small f z o none =
    elim (cases_Bool (has n (of_word w) (listed len ws))) [
      | inr e ↦ e
      | inl e ↦ let (k, m, s) = at_has n (listed len ws) (of_word w) e in absurd (go k (rw (length_listed len ws l) at m) s)
    ]
  where
    go : (k : ℕ) → k < len + 2 → Same n (at (listed len ws) k) (of_word w) → ⊥
    go zero m s = z (sym (bit_ext (points n) 0 w (pow_pos (points n)) f (λ p q. word_never n p q ∙ s p q)))
    go (suc zero) m s = o (sym (bit_ext (points n) (2 ^ points n - 1) w (ones_lt (points n)) f (λ p q. word_always n p q ∙ s p q)))
    go (suc (suc k)) m s =
        let m' : k < len = omega arith in
        let e = at_listed len ws k l m' in
        none k m' (bit_ext (points n) (get_or ws k 0) w (small k m') f (λ p q. sym (ap (λ x. x p) e) ∙ s p q))

pub pushed : (len : ℕ) (ws : List ℕ) (w : ℕ) → len < length ws → listed (len + 1) (set ws len w) ≡ listed len ws ++ of_word w ∷ []
pushed len ws w l = ap (λ x. never ∷ always ∷ map of_word x) (take_more_set ws len w l) ∙ ap (λ x. never ∷ always ∷ x) (map_push of_word (take len ws) w)

pub cut_listed : (len : ℕ) (ws : List ℕ) (m : ℕ) → m ≤ len → take (suc (suc m)) (listed len ws) ≡ listed m ws
cut_listed len ws m l = ap (λ x. never ∷ always ∷ x) (take-map of_word m (take len ws) ∙ ap (map of_word) (take-take m len ws l))
