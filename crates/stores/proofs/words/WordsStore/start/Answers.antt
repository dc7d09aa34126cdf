use Rattle.std.proofs.Common.{refl, arith}
use Rattle.stores.proofs.Keeping.{new_sound}
use Rattle.stores.proofs.words.WordsStore.start.Goals as goal

pub invariant_of-self : goal.invariant_of-self
invariant_of-self c =
    let v = c.args.self.now in
    record { sound = new_sound c.args.inputs v.words.now c.if-inputs-gt5.false v.sound.bounded }

pub returns : goal.returns
returns c = record { starts = (omega (arith, c.if-inputs-eq0.false), c.if-inputs-gt5.false, refl) }
