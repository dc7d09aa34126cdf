use Rattle.std.proofs.Common.{◌≡◌, codes, refl, arith, rules}
use Rattle.std.proofs.lemmas.Slice.Eq.{text_from_reads}
use Rattle.std.proofs.lemmas.Bool.{ltb-true, ltb-false}
use Rattle.texts.proofs.shape.specification.row_shape.Goals as goal

pub returns : goal.returns
returns c =
    let e : c.in_ok-split_once.field-0.0.now ≡ codes "spec" = text_from_reads c.in_ok-split_once.field-0.0.now (codes "spec") (omega (arith, ltb-true, ltb-false)) (search rules) in
    rw (c.in_ok-split_once.ensures, e, c.in_ok-output.ensures, c.in_ok-pattern.ensures, c.in_ok-value.ensures) refl
