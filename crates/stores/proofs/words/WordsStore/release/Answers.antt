use Rattle.std.proofs.Common.{◌+◌, ◌-◌, ◌≤◌, arith}
use Rattle.stores.proofs.Listed.{length_listed}
use Rattle.stores.proofs.Methods.{release_sound, release_meaning}
use Rattle.stores.proofs.words.WordsStore.release.Goals as goal

pub invariant_of-self : goal.invariant_of-self
invariant_of-self c =
    let v = c.args.self.now in
    record { sound = release_sound v.inputs v.len v.words.now v.sound (c.args.m - 2) (omega arith) }

pub returns : goal.returns
returns c =
    let v = c.args.self.now in
    let two : 2 ≤ c.args.m = c.if-m-lt2.false in
    let top : c.args.m ≤ v.len + 2 = c.if-self-m.false in
    record { releases = (two, omega (arith, length_listed v.len v.words.now v.sound.within), release_meaning v.inputs v.len v.words.now v.sound c.args.m two top) }
