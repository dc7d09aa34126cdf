use Rattle.stores.proofs.Keeping.{keep_held, keep_full, keep_sound, keep_new}
use Rattle.stores.proofs.words.Words.keep.Goals as goal

pub returns-in-Some : goal.returns-in-Some
returns-in-Some c = let v = c.args.self.now in record { makes = keep_held v.inputs v.len v.words.now c.args.w v.sound c.in-Some.h c.in-Some.ensures }

pub returns-then-self : goal.returns-then-self
returns-then-self c = let v = c.args.self.now in record { makes = keep_full v.inputs v.len v.words.now c.args.w v.sound c.in_default.ensures c.if-self.true }

pub invariant_of-self : goal.invariant_of-self
invariant_of-self c =
    let v = c.args.self.now in
    record { sound = keep_sound v.inputs v.len v.words.now c.args.w v.sound c.requires.fits c.in_default.ensures c.if-self.false }

pub returns : goal.returns
returns c =
    let v = c.args.self.now in
    record { makes = keep_new v.inputs v.len v.words.now c.args.w v.sound c.requires.fits c.in_default.ensures c.if-self.false }
