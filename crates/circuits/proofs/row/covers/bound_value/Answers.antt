use Rattle.std.proofs.Common.{rules, tests}
use Rattle.std.proofs.lemmas.Iterator.{YieldsList-from_slice}
use Rattle.std.proofs.lemmas.Iterator.Search.{find_from_yields_List}
use Rattle.circuits.specs.Specification.{binds}
use Rattle.circuits.specs.declared.row.SpecRow.{SpecRow}
use Rattle.circuits.proofs.Recursions.{bound_find}
use Rattle.circuits.proofs.row.covers.bound_value.Goals as goal

pub returns : goal.returns
returns c =
    let found = find_from_yields_List (λ (r : SpecRow). binds r c.args.output c.args.assignment) _ _ c.find.result c.find.ensures.ran (YieldsList-from_slice c.args.rows.now cc) (λ x b q k. search (rules, tests)) in
    rw (bound_find, ← found) (search rules)
