use Rattle.std.proofs.Common.{sym}
use Rattle.texts.proofs.Lookups.{no_pin}
use Rattle.texts.proofs.add.read_pin.Goals as goal

pub returns-in_err-name : goal.returns-in_err-name
returns-in_err-name c = rw c.from_residual.ensures (sym (no_pin c.args.draft.now c.args.field.now c.marked-mark.result.1.now c.marked-mark.ensures.name c.in_err-name.ensures))
