use Rattle.stores.proofs.Methods.{answers_fix}
use Rattle.stores.proofs.words.WordsStore.fix.Goals as goal

pub returns : goal.returns
returns c =
    let v = c.args.self.now in
    record { fixes = answers_fix v.inputs v.len v.words.now v.sound c.args.f c.in_ok-word.field-0 c.repeated-w.result c.args.bit c.keep.result _ c.in_ok-word.ensures.1 c.repeated-w.ensures.means c.keep.ensures.makes }
