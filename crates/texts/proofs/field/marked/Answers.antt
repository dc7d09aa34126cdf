use Rattle.std.proofs.Common.{arith}
use Rattle.std.proofs.lemmas.Bool.{ltb-false}
use Rattle.texts.proofs.Words.{marked_front}
use Rattle.texts.proofs.field.marked.Goals as goal

pub returns-in-33 : goal.returns-in-33
returns-in-33 c =
    let p = marked_front c.args.field.now (omega (arith, ltb-false)) (omega arith) in
    record { mark = p.mark; name = p.rest; written = p.written }
