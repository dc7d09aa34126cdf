use Rattle.stores.specs.Functions.{points}
use lib.Bits.{xor_lt}
use lib.Pow.{ones_lt}
use Rattle.stores.proofs.Methods.{answers_flip}
use Rattle.stores.proofs.words.WordsStore.flip.Goals as goal

pub keep-requires : goal.keep-requires
keep-requires c =
    let k = points c.args.self.now.inputs in
    record { fits = xor_lt k c.in_ok-w.field-0 c.full.result c.in_ok-w.ensures.0 (rw c.full.ensures (ones_lt k)) }

pub returns : goal.returns
returns c =
    let v = c.args.self.now in
    record { flips = answers_flip v.inputs v.len v.words.now v.sound c.args.f c.in_ok-w.field-0 c.full.result c.keep.result _ c.full.ensures c.in_ok-w.ensures.1 c.keep.ensures.makes }
