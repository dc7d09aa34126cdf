use Rattle.circuits.proofs.Fronts.{blank_front}
use Rattle.circuits.proofs.short.Short.none.Goals as goal

pub invariant_of-result : goal.invariant_of-result
invariant_of-result g c = record { good = blank_front g.T.Blank.is_blank g.row.N c.blank.result c.blank.ensures }
