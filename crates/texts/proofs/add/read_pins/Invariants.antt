use Rattle.std.proofs.Common.{map}
use Rattle.texts.proofs.Pinning.{Read}
use Rattle.texts.proofs.add.read_pins.Given as goal

abbrev pub invariant-loop-field : goal.invariant-loop-field
invariant-loop-field l = Read l.draft (map (λ x. x.now) l.yielded) l.read
