use Rattle.std.proofs.Common.{◌≡◌, ◌-◌, length}
use Rattle.texts.specs.Specification.{RowStep}
use Rattle.texts.specs.Walks.{After}
use Rattle.texts.proofs.specification.read_specification.Given as goal

abbrev pub invariant-loop-spot : goal.invariant-loop-spot
invariant-loop-spot l = record { same_text : l.records.text.now ≡ l.specification; taken : After RowStep l.specification l.initial.draft l.records.earlier l.draft }

abbrev pub decreases-loop-spot : goal.decreases-loop-spot
decreases-loop-spot l = length l.records.text.now - l.records.place
