use Rattle.std.proofs.Common.{◌≤◌, arith}
use lib.Pow.{ones_lt}
use Rattle.stores.specs.Functions.{points}
use Rattle.stores.proofs.Keeping.{stands_one, reads_word}
use Rattle.stores.proofs.words.Words.word.Goals as goal

pub returns-in-1 : goal.returns-in-1
returns-in-1 c =
    let v = c.args.self.now in
    (rw c.full.ensures (ones_lt (points v.inputs)), rw c.in-1.is (stands_one v.inputs v.len v.words.now c.full.result v.sound c.full.ensures))

pub returns-in_default : goal.returns-in_default
returns-in_default c =
    let v = c.args.self.now in
    let two : 2 ≤ c.args.h = omega arith in
    rw (c.ok_or.ensures.value, c.copied.ensures) (reads_word v.inputs v.len v.words.now c.args.h c.get.result v.sound two c.get.ensures.lookup.3)
