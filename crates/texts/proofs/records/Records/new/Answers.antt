use Rattle.std.proofs.Common.{sym, arith}
use Rattle.texts.proofs.Going.{place_none}
use Rattle.texts.proofs.records.Records.new.Goals as goal

pub invariant_of-result : goal.invariant_of-result
invariant_of-result c = record { within = omega arith; few = omega arith; here = sym (place_none c.args.text.now) }
