-- Pins that are looked up one after the other.
use Rattle.std.proofs.Common.{◌≡◌, ℕ, ◌+◌, ◌<◌, eqb, map, List, [], ◌∷◌, ◌++◌, length, get_or, take, drop, Some, None, Ok, Err, Option, Result, sym, refl, ap, ◌∙◌, subst, arith, MatchResult}
use Rattle.std.proofs.lemmas.List.{length_push, take-append-drop, drop_more}
use Rattle.std.proofs.lemmas.Iterator.{YieldsList}
use Rattle.std.proofs.lemmas.Iterator.Consumers.{YieldsList-so_far, YieldsList-turn, YieldsList-end}
use Rattle.std.specs.Iterator.{Yields}
use Rattle.std.specs.List.{slice_split}
use Rattle.std.specs.Option.{option_map}
use Rattle.circuits.specs.Circuits.{Pins, pin_list}
use Rattle.circuits.specs.declared.pin.Pin.{Pin}
use Rattle.circuits.specs.Drafts.{Parts}
use Rattle.circuits.specs.Lines.{then}
use Rattle.texts.specs.declared.fault.Cause.{Cause}
use Rattle.texts.specs.declared.fault.Cause.TheVariants.{PinCount}
use Rattle.texts.specs.Adding.{pin_named, pins_named, PinsRead}
use Rattle.texts.specs.Records.{comma, fields}
use Rattle.texts.proofs.Splits.{fields_split}

-- The pins that fields write are those that the first of them write, and then the others.
joined : (x : Option Pin) (y z : Option (List Pin)) → then x (λ p. option_map (λ ps. p ∷ ps) (then y (λ ps. option_map (λ qs. ps ++ qs) z))) ≡ then (then x (λ p. option_map (λ ps. p ∷ ps) y)) (λ ps. option_map (λ qs. ps ++ qs) z)
joined None y z = refl
joined (Some p) None z = refl
joined (Some p) (Some ps) None = refl
joined (Some p) (Some ps) (Some qs) = refl

named_append : (d : Parts) (fs gs : List (List ℕ)) → pins_named d (fs ++ gs) ≡ then (pins_named d fs) (λ ps. option_map (λ qs. ps ++ qs) (pins_named d gs))
unfolding pins_named
named_append d [] gs = elim (pins_named d gs) as (λ y. y ≡ option_map (λ qs. [] ++ qs) y) [ None ↦ refl | Some qs ↦ refl ]
named_append d (f ∷ fs) gs = ap (λ y. then (pin_named d f) (λ p. option_map (λ ps. p ∷ ps) y)) (named_append d fs gs) ∙ joined (pin_named d f) (pins_named d fs) (pins_named d gs)

-- The stems of these fields are known. Their pins are read, or there are more than four.
pub record Read (d : Parts) (fs : List (List ℕ)) (r : Result Pins Cause) : Type 0 where
  pub seen : List Pin
  pub named : pins_named d fs ≡ Some seen
  pub told : PinsRead (Some seen) r

pub read_none : (d : Parts) (pins : Pins) → pin_list pins ≡ [] → Read d [] (Ok pins)
unfolding pins_named
read_none d pins e = record { seen = []; named = refl; told = ap Some (sym e) }

-- one pin more
named_more : (d : Parts) (fs : List (List ℕ)) (f : List ℕ) (ps : List Pin) (p : Pin) → pins_named d fs ≡ Some ps → Some p ≡ pin_named d f → pins_named d (fs ++ f ∷ []) ≡ Some (ps ++ p ∷ [])
unfolding pins_named
named_more d fs f ps p e h =
    named_append d fs (f ∷ []) ∙ (ap (λ x. then x (λ qs. option_map (λ rs. qs ++ rs) (pins_named d (f ∷ [])))) e ∙ ap (λ x. option_map (λ rs. ps ++ rs) (then x (λ q. option_map (λ qs. q ∷ qs) (Some [])))) (sym h))

-- a stem that is not known
named_unknown : (d : Parts) (fs gs : List (List ℕ)) (f : List ℕ) → None ≡ pin_named d f → pins_named d (fs ++ f ∷ gs) ≡ None
unfolding pins_named
named_unknown d fs gs f h =
    named_append d fs (f ∷ gs) ∙ (ap (λ x. then (pins_named d fs) (λ qs. option_map (λ rs. qs ++ rs) (then x (λ q. option_map (λ rs. q ∷ rs) (pins_named d gs))))) (sym h) ∙ gone (pins_named d fs))
  where
    gone : (x : Option (List Pin)) → then x (λ qs. option_map (λ rs. qs ++ rs) None) ≡ None
    gone None = refl
    gone (Some qs) = refl

pub read_more :
    (d : Parts) (fs : List (List ℕ)) (f : List ℕ) (p : Pin) (r r' : Result Pins Cause) → Some p ≡ pin_named d f →
    MatchResult r (λ x. MatchResult r' (λ y. pin_list y ≡ pin_list x ++ p ∷ []) (λ c. (length (pin_list x) ≡ 4) × (c ≡ PinCount))) (λ c. r' ≡ Err c) →
    Read d fs r → Read d (fs ++ f ∷ []) r'
read_more d fs f p r r' found step h =
    record { seen = h.seen ++ p ∷ []; named = named_more d fs f h.seen p h.named found; told = kept h.seen r r' step h.told }
  where
    kept :
        (ps : List Pin) (s s' : Result Pins Cause) → MatchResult s (λ x. MatchResult s' (λ y. pin_list y ≡ pin_list x ++ p ∷ []) (λ c. (length (pin_list x) ≡ 4) × (c ≡ PinCount))) (λ c. s' ≡ Err c) →
        PinsRead (Some ps) s → PinsRead (Some (ps ++ p ∷ [])) s'
    kept ps (Ok x) (Ok y) e t = ap (option_map (λ qs. qs ++ p ∷ [])) t ∙ ap Some (sym e)
    kept ps (Ok x) (Err c) e t = let same : ps ≡ pin_list x = cc in (omega (arith, length_push ps p, ap length same, e.0), e.1)
    kept ps (Err c) s' e t = subst (PinsRead (Some (ps ++ p ∷ []))) (sym e) (omega (arith, length_push ps p, t.0), t.1)

-- fields, of which the first are these and then comes this one
fields_at : (all fs : List (List ℕ)) (f : List ℕ) (n : ℕ) → fs ≡ take n all → (n < length all) × (f ≡ get_or all n f) → all ≡ fs ++ f ∷ drop (n + 1) all
fields_at all fs f n e (h, g) =
    sym (take-append-drop n all) ∙ (ap (λ x. x ++ drop n all) (sym e) ∙ ap (λ x. fs ++ x) (drop_more all n f h ∙ ap (λ x. x ∷ drop (n + 1) all) (sym g)))

-- The fields of a record are given one after the other, and these are given so far.
module _ {S A : Type 0} {steps : S → Option A → S → Type 0} {v : A → List ℕ} {s : S} (d : Parts) (bs : List ℕ) (given : YieldsList steps v s (slice_split (λ b. eqb b comma) bs)) (xs : List A) (t : S) (so_far : Yields steps s xs t) (r : Option A) (u : S) (next : steps t r u) where
  -- the stem of the next is not known
  pub read_unknown : (x : A) → r ≡ Some x → None ≡ pin_named d (v x) → pins_named d (fields bs) ≡ None
  read_unknown x is gone =
      let all = slice_split (λ b. eqb b comma) bs in
      let at = fields_at all (map v xs) (v x) (length xs) (YieldsList-so_far given xs t so_far) (YieldsList-turn given xs t so_far r u x is next) in
      ap (pins_named d) (fields_split bs ∙ at) ∙ named_unknown d (map v xs) (drop (length xs + 1) all) (v x) gone

  -- there is no next
  pub read_all : (read : Result Pins Cause) → r ≡ None → Read d (map v xs) read → PinsRead (pins_named d (fields bs)) read
  read_all read is h =
      let all = fields_split bs ∙ sym (YieldsList-end given xs t so_far r u is next).0 in
      subst (λ x. PinsRead x read) (sym (ap (pins_named d) all ∙ h.named)) h.told
