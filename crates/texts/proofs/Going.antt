-- Going through a text, record by record.
use Rattle.std.proofs.Common.{◌≡◌, ℕ, ◌+◌, ◌-◌, ◌<◌, List, length, Some, None, Ok, Err, Result, sym, refl, ap, ◌∙◌, subst, add-one, arith, Bor}
use Rattle.texts.specs.declared.fault.Cause.{Cause}
use Rattle.texts.specs.declared.fault.Cause.TheVariants.{Shape}
use Rattle.texts.specs.declared.fault.Text.{Text}
use Rattle.texts.specs.declared.fault.TextFault.{TextFault}
use Rattle.texts.specs.declared.records.Records.{Records}
use Rattle.texts.specs.declared.records.Spot.{Spot}
use Rattle.texts.specs.Nexts.{spot_fault, spot_at, NextRecord}
use Rattle.texts.specs.Records.{record_at}
use Rattle.texts.specs.Walks.{record_place, fault_at, At, unended, ended, After, none, more, Stopped, stopped}

pub place_none : (bs : List ℕ) → record_place bs 0 ≡ 0
unfolding record_place
place_none bs = refl

pub place_more : (bs : List ℕ) (n : ℕ) → record_place bs (n + 1) ≡ record_place bs n + length (record_at bs (record_place bs n)) + 1
unfolding record_place
place_more bs n = ap (record_place bs) (add-one n)

-- where the record after this one begins
pub place_next : (bs : List ℕ) (n place long : ℕ) → place ≡ record_place bs n → long ≡ length (record_at bs place) → place + (long + 1) ≡ record_place bs (n + 1)
place_next bs n place long e f =
    let i : place + (long + 1) ≡ place + length (record_at bs place) + 1 = omega arith in
    i ∙ (ap (λ p. p + length (record_at bs p) + 1) e ∙ sym (place_more bs n))

pub spot_same : (s : Spot) (n p l : ℕ) → s.number ≡ n → s.place ≡ p → s.length ≡ l → s ≡ record { number = n; place = p; length = l }
spot_same s n p l e f g =
    let spot : ℕ → ℕ → ℕ → Spot = λ a b d. record { number = a; place = b; length = d } in
    ap (λ a. spot a s.place s.length) e ∙ (ap (λ b. spot n b s.length) f ∙ ap (λ d. spot n p d) g)

-- what is told of a record, by where it is
told_same : (bs : List ℕ) (text : Text) (c : Cause) (n place : ℕ) (p : Spot) → place ≡ record_place bs n → p ≡ spot_at bs n place → fault_at text bs n c ≡ spot_fault text p c
told_same bs text c n place p e f = sym (ap (λ x. spot_fault text x c) (f ∙ ap (spot_at bs n) e))

module _ {S : Type 0} (step : S → List ℕ → Result S Cause → Type 0) (bs : List ℕ) (start : S) where
  -- no record is taken yet
  pub going_none : (n : ℕ) (p : S) → n ≡ 0 → p ≡ start → After step bs start n p
  going_none n p e f = subst (λ k. After step bs start k p) (sym e) (subst (After step bs start 0) (sym f) none)

module _ {S : Type 0} (step : S → List ℕ → Result S Cause → Type 0) (bs : List ℕ) (start : S) (s : Records) (same : s.text.now ≡ bs) where
  here : s.place ≡ record_place bs s.earlier
  here = s.here ∙ ap (λ x. record_place x s.earlier) same

  -- the record that is given next
  module _ (t : Records) (r : Spot × Bor (List ℕ)) (next : NextRecord s (Some r) t) where
    part : r.1.now ≡ record_at bs (record_place bs s.earlier)
    part = next.3 ∙ (ap (λ x. record_at x s.place) same ∙ ap (record_at bs) here)

    on : record_place bs s.earlier + length (record_at bs (record_place bs s.earlier)) < length bs
    on = subst (λ p. p + length (record_at bs p) < length bs) here (subst (λ x. s.place + length (record_at x s.place) < length x) same next.4)

    inside : record_place bs s.earlier < length bs
    inside = let k = on in omega arith

    at : (p : S) (q : Result S Cause) → step p r.1.now q → At step bs (record_place bs s.earlier) p q
    at p q h = ended q on (subst (λ x. step p x q) part h)

    pub going_more : (p p' : S) → After step bs start s.earlier p → step p r.1.now (Ok p') → After step bs start t.earlier p'
    going_more p p' taken h = subst (λ n. After step bs start n p') (sym next.1) (more s.earlier p p' taken inside (at p (Ok p') h))

    pub going_stopped : (text : Text) (p : S) (c : Cause) (f : TextFault) → f ≡ spot_fault text r.0 c → After step bs start s.earlier p → step p r.1.now (Err c) → Stopped step text bs start f
    going_stopped text p c f e taken h =
        subst (Stopped step text bs start) (told_same bs text c s.earlier s.place r.0 here (next.2 ∙ ap (λ x. spot_at x s.earlier s.place) same) ∙ sym e) (stopped s.earlier p c taken inside (at p (Err c) h))

  -- no record is given any more
  module _ (t : Records) (r : Spot) (gone : NextRecord s None t) (number : r.number ≡ t.earlier + 1) (place : r.place ≡ t.place) (long : r.length ≡ length t.text.now - t.place) where
    left : record_place bs s.earlier + length (record_at bs (record_place bs s.earlier)) ≡ length bs
    left = subst (λ p. p + length (record_at bs p) ≡ length bs) here (subst (λ x. s.place + length (record_at x s.place) ≡ length x) same gone.1)

    rest : r.length ≡ length (record_at bs (record_place bs s.earlier))
    rest =
        let h = here in
        let l = left in
        let k = ap length same in
        let m = long ∙ ap (λ (x : Records). length x.text.now - x.place) gone.0 in
        omega arith

    pub going_end : (text : Text) (c : Cause) (f : TextFault) → f ≡ spot_fault text r c → fault_at text bs s.earlier c ≡ f
    going_end text c f e =
        let n = number ∙ ap (λ (x : Records). x.earlier + 1) gone.0 in
        let p = place ∙ (ap (λ (x : Records). x.place) gone.0 ∙ here) in
        let l = rest in
        told_same bs text c s.earlier (record_place bs s.earlier) r refl (spot_same r _ _ _ n p l) ∙ sym e

    -- what is left is a record without a line feed,
    pub going_unended : (text : Text) (p : S) (f : TextFault) → f ≡ spot_fault text r Shape → (r.length ≡ 0 → ⊥) → After step bs start s.earlier p → Stopped step text bs start f
    going_unended text p f e some taken =
        let l = left in
        let k = rest in
        subst (Stopped step text bs start) (going_end text Shape f e) (stopped s.earlier p Shape taken (omega arith) (unended left))

    -- or nothing
    pub going_all : r.length ≡ 0 → record_place bs s.earlier ≡ length bs
    going_all nothing = let l = left in let k = rest in omega arith
