use Rattle.std.proofs.Common.{sym, ap, ◌∙◌}
use Rattle.circuits.specs.Lines.{line_of}
use Rattle.circuits.proofs.Numbering.{line_back}
use Rattle.circuits.proofs.design.Design.line.Goals as goal

pub returns-in-Pin-clause-back : goal.returns-in-Pin-clause-back
returns-in-Pin-clause-back c l e =
    let n = c.args.self.now.circuit in
    line_back n c.args.place l (ap (line_of n) c.in-Pin.is ∙ (sym c.pin_line.ensures ∙ e))
