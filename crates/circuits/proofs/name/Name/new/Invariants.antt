use Rattle.std.proofs.Common.{◌≡◌, take}
use Rattle.circuits.specs.Shorts.{entries}
use Rattle.circuits.proofs.name.Name.new.Given as goal

abbrev pub invariant-loop-byte : goal.invariant-loop-byte
invariant-loop-byte l = entries l.name ≡ take l.byte-index l.bytes
