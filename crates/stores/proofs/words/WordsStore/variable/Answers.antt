use Rattle.stores.proofs.Methods.{answers_variable}
use Rattle.stores.proofs.words.WordsStore.variable.Goals as goal

pub returns : goal.returns
returns c =
    let v = c.args.self.now in
    record { takes = answers_variable v.inputs v.len v.words.now v.sound c.args.v c.stripes.result c.full.result c.keep.result _ c.if-self-v.false c.full.ensures c.stripes.ensures c.keep.ensures.makes }
