-- What the refusals are that are made by `ok_or` and `map_err`.
use Rattle.std.proofs.Common.{◌≡◌, ℕ, Some, None, Ok, Err, Option, Result, MatchResult, IsOk, IsErrAnd, refl, ap, subst, arith}
use Rattle.std.specs.Option.{ok_or}
use Rattle.circuits.specs.declared.fault.PartFault.{PartFault}
use Rattle.circuits.specs.Drafts.{Unless}
use Rattle.texts.specs.declared.fault.Cause.{Cause}
use Rattle.texts.specs.declared.fault.TextFault.{TextFault}

-- nothing was there, and this is the cause
pub lacking : {X : Type 0} (o : Option X) (c d : Cause) → Err c ≡ ok_or o d → (o ≡ None) × (c ≡ d)
lacking None c d e = (refl, cc)
lacking (Some x) c d e = let z : ◌≡◌ {A = ℕ} 0 1 = cc in absurd (omega arith)

-- what the result of taking a record was, by the one that tells its fault
module _ {X : Type 0} (tells : Cause → TextFault → Type 0) (r : Result X Cause) (m : Result X TextFault) (cases : MatchResult r (λ y. m ≡ Ok y) (λ c. IsErrAnd m (tells c))) where
  pub mapped_ok : (x : X) → m ≡ Ok x → r ≡ Ok x
  mapped_ok x was =
      elim r as (λ z. MatchResult z (λ y. m ≡ Ok y) (λ c. IsErrAnd m (tells c)) → z ≡ Ok x) [
        | Ok y ↦ λ e. let same : y ≡ x = cc in ap Ok same
        | Err c ↦ λ e. absurd (subst (λ y. IsErrAnd y (tells c)) was e)
      ] cases

  pub mapped_err : (told : Cause → TextFault) (f : TextFault) → m ≡ Err f → ((c : Cause) → tells c f → f ≡ told c) → (c : Cause) × (r ≡ Err c) × (f ≡ told c)
  mapped_err told f was k =
      elim r as (λ z. MatchResult z (λ y. m ≡ Ok y) (λ c. IsErrAnd m (tells c)) → (c : Cause) × (z ≡ Err c) × (f ≡ told c)) [
        | Ok y ↦ λ e. let z : ◌≡◌ {A = ℕ} 0 1 = cc in absurd (omega arith)
        | Err c ↦ λ e. (c, refl, k c (subst (λ y. IsErrAnd y (tells c)) was e))
      ] cases

-- what nothing speaks against is done
pub done : (fault : Option PartFault) (P Q : Type 0) (r : Result Unit PartFault) → Unless fault P Q r → ((f : PartFault) → fault ≡ Some f → ⊥) → IsOk r
done fault P Q (Ok x) h free = refl
done fault P Q (Err f) h free = absurd (free f h.0)
