use Rattle.std.proofs.Common.{eqb, rules, tests}
use Rattle.std.proofs.lemmas.Iterator.{YieldsList-from_slice}
use Rattle.std.proofs.lemmas.Iterator.Search.{position_from_yields_List}
use Rattle.texts.proofs.Splits.{before_found}
use Rattle.texts.proofs.record.find.Goals as goal

pub returns : goal.returns
returns c =
    before_found c.args.byte c.args.bytes.now c.position.result
    (position_from_yields_List (λ b. eqb b c.args.byte) _ _ c.position.result c.position.ensures.ran (YieldsList-from_slice c.args.bytes.now (cc)) (λ x b q k. search (rules, tests)))
