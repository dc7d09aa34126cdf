use Rattle.stores.proofs.Methods.{answers_join}
use Rattle.stores.proofs.words.WordsStore.join.Goals as goal

pub returns : goal.returns
returns c =
    let v = c.args.self.now in
    record { joins = answers_join v.inputs v.len v.words.now v.sound c.args.op c.args.f c.args.g c.in_ok-x.x c.in_ok-y.y c.combined-w.result c.keep.result _ c.in_ok-x.ensures.1 c.in_ok-y.ensures.1 c.combined-w.ensures.bits c.keep.ensures.makes }
