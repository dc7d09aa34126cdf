use Rattle.std.proofs.Common.{◌≡◌, take}
use Rattle.circuits.specs.Specification.{literal_list}
use Rattle.texts.specs.Fields.{pattern_word}
use Rattle.texts.proofs.field.pattern_of.Given as goal

abbrev pub invariant-loop-byte : goal.invariant-loop-byte
invariant-loop-byte l = take l.byte-index l.field ≡ pattern_word (literal_list l.pattern)
