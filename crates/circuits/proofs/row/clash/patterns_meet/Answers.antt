use Rattle.std.proofs.Common.{rules, tests}
use Rattle.std.proofs.lemmas.Iterator.{YieldsList-from_slice, YieldsList-from_zip}
use Rattle.std.proofs.lemmas.Iterator.Search.{all_from_yields_List}
use Rattle.circuits.specs.Specification.{overlap}
use Rattle.circuits.specs.declared.literal.Literal.{Literal}
use Rattle.circuits.proofs.Recursions.{meet_all}
use Rattle.circuits.proofs.row.clash.patterns_meet.Goals as goal

pub returns : goal.returns
returns c =
    rw meet_all
    (all_from_yields_List (λ (p : Literal × Literal). overlap p.0 p.1) c.all.new.self _ _ c.all.ensures.ran
    (YieldsList-from_zip (YieldsList-from_slice c.args.first.now cc) (YieldsList-from_slice c.args.second.now cc)) (λ x b q k. search (rules, tests)))
