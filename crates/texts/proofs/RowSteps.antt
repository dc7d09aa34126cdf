-- What one record of the specification does.
use Rattle.std.proofs.Common.{◌≡◌, ℕ, true, false, List, Ok, Err, Result, subst, MatchResult}
use Rattle.std.proofs.lemmas.Bool.{both_ways}
use Rattle.circuits.specs.Drafts.{Parts}
use Rattle.circuits.specs.Names.{is_name}
use Rattle.texts.specs.declared.fault.Cause.{Cause}
use Rattle.texts.specs.Adding.{RowAdded, RowRefused}
use Rattle.texts.specs.Records.{fields}
use Rattle.texts.specs.Shapes.{row_fields}
use Rattle.texts.specs.Specification.{SpellsRow, RowStep, refused, added}

-- The fields of a row are one list only.
pub no_row : (bs o p v : List ℕ) → fields bs ≡ row_fields o p v → is_name o ≡ false → (x q w : List ℕ) → SpellsRow bs x q w → ⊥
no_row bs o p v e bad x q w h =
    let f = h.parts in
    let same : x ≡ o = cc in
    both_ways (is_name o) bad (subst (λ y. is_name y ≡ true) same h.good)

pub row_step : (d d' : Parts) (bs x p v : List ℕ) (r : Result Unit Cause) → SpellsRow bs x p v → MatchResult r (λ _. RowAdded d x p v d') (λ c. RowRefused d x p v c × (d' ≡ d)) → MatchResult r (λ _. RowStep d bs (Ok d')) (λ c. RowStep d bs (Err c))
row_step d d' bs x p v (Ok u) h w = added x p v d' h w
row_step d d' bs x p v (Err c) h w = refused x p v c h w.0
