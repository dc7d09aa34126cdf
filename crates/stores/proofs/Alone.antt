-- A store that keeps each function alone, and holds the words of functions.
use Rattle.std.proofs.Common.{◌≡◌, ℕ, ◌<◌, true, false, List, [], ◌∷◌, ◌++◌, length, sym, refl, ◌∙◌, inl, inr}
use mathlib.Core.Bool.{or-false}
use Rattle.std.proofs.lemmas.Bool.{cases_Bool, both_ways, or_left, or_right}
use Rattle.stores.specs.Functions.{Function, same, constant}
use Rattle.stores.specs.Meaning.{Meaning, Keeps, Good, Gained, has}
use Rattle.stores.specs.Words.{alone}
use Rattle.stores.proofs.Sames.{same_tells, same_refl, same_sym, same_left, has_same, has_append, constant_same}
use Rattle.stores.proofs.Laws.{held_already, gained_new}

has_one : (n : ℕ) (f g : Function) → has n g (f ∷ []) ≡ same n g f
unfolding has
has_one n f g = or-false (same n g f)

pub alone_keeps : (n : ℕ) → Keeps alone n
unfolding has
alone_keeps n = record {
  itself = λ f c. rw c (or_left (same n f f) false (same_refl n f));
  nothing = λ f g c. rw c;
  proper = λ f g e. elim (cases_Bool (constant n f)) [
    | inl c ↦ absurd (both_ways false refl (rw c at e))
    | inr c ↦ let s : same n g f ≡ true = sym (has_one n f g) ∙ (rw c at e) in constant_same n g f ((same_tells n g f).0 s) ∙ c
  ];
  by_points = λ f g h s. elim (cases_Bool (constant n f)) [
    | inl c ↦ rw (c, sym (constant_same n f g s) ∙ c)
    | inr c ↦ rw (c, sym (constant_same n f g s) ∙ c) (has_one n f h ∙ (same_sym n h f ∙ (same_left n f g h s ∙ (same_sym n g h ∙ sym (has_one n g h)))))
  ];
}

has_nil : (n : ℕ) (g : Function) → has n g [] ≡ false
unfolding has
has_nil n g = refl

-- of a function that is held all that is kept is held
alone_held : (m : Meaning) (f g : Function) → has m.inputs f m.held ≡ true → has m.inputs g (alone m.inputs f) ≡ true → has m.inputs g m.held ≡ true
alone_held m f g h k =
    let n = m.inputs in
    elim (cases_Bool (constant n f)) [
      | inl c ↦ absurd (both_ways (has n g []) (has_nil n g) (rw c at k))
      | inr c ↦ let s : same n g f ≡ true = sym (has_one n f g) ∙ (rw c at k) in has_same n g f m.held ((same_tells n g f).0 s) ∙ h
    ]

-- a function that is held is yielded by doing nothing
pub gained_held : (m : Meaning) (f : Function) → Good m → has m.inputs f m.held ≡ true → Gained alone m (f ∷ []) m
gained_held m f good e = held_already alone m f good (λ g k. alone_held m f g e k)

-- what is kept for a function is that function
alone_kept : (n : ℕ) (f g : Function) (fs : List Function) → has n g (alone n f) ≡ true → has n g (fs ++ f ∷ []) ≡ true
alone_kept n f g fs k =
    has_append n g fs (f ∷ []) ∙ or_right (has n g fs) _ (elim (cases_Bool (constant n f)) [
      | inl c ↦ absurd (both_ways (has n g []) (has_nil n g) (rw c at k))
      | inr c ↦ rw c at k
    ])

-- a new one is put at the end
pub gained_alone : (m : Meaning) (f : Function) → (good : Good m) → has m.inputs f m.held ≡ false → length good.others < m.places → Gained alone m (f ∷ []) (record { inputs = m.inputs; most = m.most; places = m.places; held = m.held ++ f ∷ [] })
gained_alone m f good e l = gained_new alone m f good (alone_keeps m.inputs) e l (λ g k. alone_kept m.inputs f g m.held k)
