-- Bytes before the first of a kind, and the fields of a record.
use Rattle.std.proofs.Common.{◌≡◌, ℕ, ◌+◌, ◌-◌, ◌<◌, ◌≤◌, Bool, true, false, cond, eqb, ltb, List, [], ◌∷◌, length, take, drop, Some, None, Option, MatchOption, sym, refl, ap, ◌∙◌, inl, inr, arith}
use Rattle.std.proofs.lemmas.List.{take_rest, length-drop}
use Rattle.std.proofs.lemmas.Bool.{cases_Bool, cond-true, cond-false, ltb-true, ltb-false}
use Rattle.std.specs.List.{position, position_or_len, slice_split, onto_first}
use Rattle.std.proofs.lemmas.List.Recursion.{is_position_or_len}
use Rattle.std.proofs.lemmas.List.Splits.{slice_split_first, length-slice_split}
use Rattle.texts.specs.Records.{before, comma, feed, record_at, fields, in_first}

-- how many bytes stand before the first that is c
before_length : (c : ℕ) (bs : List ℕ) → length (before c bs) ≡ position_or_len (λ b. eqb b c) bs
unfolding before
before_length c bs =
    is_position_or_len (λ xs. length (before c xs)) (λ b. eqb b c) refl
    (λ x xs. elim (eqb x c) as (λ t. length (cond t [] (x ∷ before c xs)) ≡ cond t 0 (1 + length (before c xs))) [ true ↦ refl | false ↦ omega arith ]) bs

-- front is what stands before a byte of bs, or all
pub record Cut (bs front : List ℕ) : Type 0 where
  pub within : length front ≤ length bs
  pub first : take (length front) bs ≡ front

cut : (c : ℕ) (bs : List ℕ) → Cut bs (before c bs)
unfolding before
cut c [] = record { within = omega arith; first = refl }
cut c (b ∷ bs) =
    let h = cut c bs in
    elim (eqb b c) as (λ t. Cut (b ∷ bs) (cond t [] (b ∷ before c bs))) [
      | true ↦ record { within = omega arith; first = refl }
      | false ↦ record { within = omega arith; first = ap (λ x. b ∷ x) h.first }
    ]

-- what a search for c finds
pub before_found : (c : ℕ) (bs : List ℕ) (r : Option ℕ) → r ≡ position (λ b. eqb b c) bs → MatchOption r (length (before c bs) ≡ length bs) (λ n. (n ≡ length (before c bs)) × (n < length bs))
before_found c bs r e =
    let k = cut c bs in
    let n = before_length c bs in
    elim (cases_Bool (ltb (position_or_len (λ b. eqb b c) bs) (length bs))) [
      | inl t ↦ let m = ltb-true (position_or_len (λ b. eqb b c) bs) (length bs) t in
          rw (e ∙ cond-true _ (Some (position_or_len (λ b. eqb b c) bs)) None t) (sym n, omega arith)
      | inr f ↦ let m = ltb-false (position_or_len (λ b. eqb b c) bs) (length bs) f in
          let w = k.within in
          rw (e ∙ cond-false _ (Some (position_or_len (λ b. eqb b c) bs)) None f) (omega arith)
    ]

-- the fields in the library's words
pub fields_split : (bs : List ℕ) → fields bs ≡ slice_split (λ b. eqb b comma) bs
unfolding fields
fields_split [] = refl
fields_split (b ∷ bs) =
    elim (eqb b comma) as (λ t. cond t ([] ∷ fields bs) (in_first b (fields bs)) ≡ cond t ([] ∷ slice_split (λ x. eqb x comma) bs) (onto_first b (slice_split (λ x. eqb x comma) bs))) [
      | true ↦ ap (λ fs. [] ∷ fs) (fields_split bs)
      | false ↦ ap (in_first b) (fields_split bs) ∙ same (slice_split (λ x. eqb x comma) bs)
    ]
  where
    same : (fs : List (List ℕ)) → in_first b fs ≡ onto_first b fs
    same [] = refl
    same (f ∷ fs) = refl

-- the fields of a record where a search for the first comma finds none, or n bytes before it
pub fields_whole : (bs : List ℕ) → length (before comma bs) ≡ length bs → fields bs ≡ bs ∷ []
unfolding fields before
fields_whole [] e = refl
fields_whole (b ∷ bs) e =
    (elim (eqb b comma) as (λ t. length (cond t [] (b ∷ before comma bs)) ≡ length (b ∷ bs) → cond t ([] ∷ fields bs) (in_first b (fields bs)) ≡ (b ∷ bs) ∷ []) [
      | true ↦ λ h. absurd (omega arith)
      | false ↦ λ h. ap (in_first b) (fields_whole bs (omega arith))
    ]) e

pub fields_at : (bs : List ℕ) (n : ℕ) → n ≡ length (before comma bs) → n < length bs → fields bs ≡ take n bs ∷ fields (take (length bs - (n + 1)) (drop (n + 1) bs))
fields_at bs n e h =
    let p : ℕ → Bool = λ b. eqb b comma in
    let at : n ≡ position_or_len p bs = e ∙ before_length comma bs in
    rw (take_rest bs (n + 1), fields_split bs, fields_split (drop (n + 1) bs), at) (slice_split_first p bs 0 (omega arith))

-- every record has a field
pub some_field : (bs : List ℕ) → 1 ≤ length (fields bs)
some_field bs = rw (fields_split bs, length-slice_split) (omega arith)

-- a record lies within its text
pub record_within : (bs : List ℕ) (place : ℕ) → place ≤ length bs → place + length (record_at bs place) ≤ length bs
record_within bs place h = let k = cut feed (drop place bs) in omega (arith, length-drop place bs)

-- A record that ends with a line feed, where a search for one finds it in the rest of a text.
pub record Fed (bs rest : List ℕ) (place n : ℕ) : Type 0 where
  pub long : n ≡ length (record_at bs place)
  pub part : take n rest ≡ record_at bs place
  pub on : place + n < length bs

pub fed : (bs rest : List ℕ) (place n : ℕ) → place ≤ length bs → rest ≡ drop place bs → (n ≡ length (before feed rest)) × (n < length rest) → Fed bs rest place n
fed bs rest place n w e (l, h) =
    let long : n ≡ length (record_at bs place) = l ∙ ap (λ x. length (before feed x)) e in
    record {
      long = long;
      part = ap (λ x. take n x) e ∙ (ap (λ m. take m (drop place bs)) long ∙ (cut feed (drop place bs)).first);
      on = omega (arith, ap length e, length-drop place bs);
    }
