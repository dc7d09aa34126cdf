use Rattle.std.proofs.Common.{arith}
use Rattle.texts.proofs.Words.{bad_literal}
use Rattle.texts.proofs.field.pattern_of.Goals as goal

pub returns-in_err-literal : goal.returns-in_err-literal
returns-in_err-literal c = rw c.from_residual.ensures (λ ls few e. bad_literal c.args.field.now c.loop-byte.byte-index (omega arith) c.in_err-literal.ensures ls e)
