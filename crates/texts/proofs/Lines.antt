-- Records as they are written.
use Rattle.std.proofs.Common.{◌≡◌, ℕ, suc, ◌+◌, ◌<◌, eqb, List, [], ◌∷◌, ◌++◌, length, take, drop, sym, refl, ap, ◌∙◌, inl, inr, append_assoc, append-nil, arith, length-drop}
use Rattle.std.proofs.Math.Seq.{take-add}
use Rattle.std.proofs.lemmas.Bool.{cases_Bool, eqb-true}
use Rattle.texts.specs.Fields.{marked_word, has_mark, past_mark}
use Rattle.texts.specs.Records.{before, feed, comma, record_at, fields, in_first}
use Rattle.texts.specs.Writing.{after_comma, parted, lines}

-- A record is its fields, parted by commas.
fields_some : (bs : List ℕ) → (f : List ℕ) × ((fs : List (List ℕ)) × (fields bs ≡ f ∷ fs))
unfolding fields
fields_some [] = ([], ([], refl))
fields_some (b ∷ bs) =
    let (f, (fs, e)) = fields_some bs in
    elim (cases_Bool (eqb b comma)) [
      | inl t ↦ ([], (fields bs, rw t))
      | inr n ↦ (b ∷ f, (fs, rw n (ap (in_first b) e)))
    ]

longer_first : (b : ℕ) (f : List ℕ) (fs : List (List ℕ)) → after_comma (b ∷ f) fs ≡ b ∷ after_comma f fs
longer_first b f [] = refl
longer_first b f (g ∷ gs) = refl

pub parted_fields : (bs : List ℕ) → parted (fields bs) ≡ bs
unfolding fields
parted_fields [] = refl
parted_fields (b ∷ bs) =
    let (f, (fs, e)) = fields_some bs in
    let whole : after_comma f fs ≡ bs = sym (ap parted e) ∙ parted_fields bs in
    elim (cases_Bool (eqb b comma)) [
      | inl t ↦ rw t (ap (λ x. parted ([] ∷ x)) e ∙ (ap (λ x. comma ∷ x) whole ∙ ap (λ x. x ∷ bs) (sym (eqb-true b comma t))))
      | inr n ↦ rw n (ap (λ x. parted (in_first b x)) e ∙ (longer_first b f fs ∙ ap (λ x. b ∷ x) whole))
    ]

-- A record with its line feed is the next part of its text.
before_feed : (c : ℕ) (bs : List ℕ) → length (before c bs) < length bs → take (length (before c bs) + 1) bs ≡ before c bs ++ c ∷ []
unfolding before
before_feed c [] l = let z : ⊥ = omega arith in absurd z
before_feed c (b ∷ bs) l =
    elim (cases_Bool (eqb b c)) [
      | inl t ↦ rw t (ap (λ x. x ∷ []) (eqb-true b c t))
      | inr n ↦ let l' : suc (length (before c bs)) < suc (length bs) = rw n at l in
          let i : suc (length (before c bs)) + 1 ≡ suc (length (before c bs) + 1) = omega arith in
          rw n (ap (λ k. take k (b ∷ bs)) i ∙ ap (λ x. b ∷ x) (before_feed c bs (omega arith)))
    ]

pub record_next : (bs : List ℕ) (place : ℕ) → place + length (record_at bs place) < length bs → take (place + length (record_at bs place) + 1) bs ≡ take place bs ++ (record_at bs place ++ feed ∷ [])
record_next bs place l =
    let i : place + length (record_at bs place) + 1 ≡ place + (length (record_at bs place) + 1) = omega arith in
    ap (λ x. take x bs) i ∙ (take-add place (length (record_at bs place) + 1) bs ∙ ap (λ x. take place bs ++ x) (before_feed feed (drop place bs) (omega (arith, length-drop place bs))))

pub lines_more : {X : Type 0} (f : X → List ℕ) (xs : List X) (x : X) → lines f (xs ++ x ∷ []) ≡ lines f xs ++ f x
unfolding lines
lines_more f [] x = append-nil (f x)
lines_more f (y ∷ ys) x = ap (λ z. f y ++ z) (lines_more f ys x) ∙ sym (append_assoc (f y) (lines f ys) (f x))

pub lines_none : {X : Type 0} (f : X → List ℕ) → lines f [] ≡ []
unfolding lines
lines_none f = refl

-- a field is its mark and what follows
pub mark_then_name : (f : List ℕ) → marked_word (has_mark f) (past_mark f) ≡ f
mark_then_name [] = refl
mark_then_name (b ∷ bs) = elim (cases_Bool (eqb b 33)) [ inl t ↦ rw t (ap (λ x. x ∷ bs) (sym (eqb-true b 33 t))) | inr n ↦ rw n ]
