use Rattle.std.proofs.Common.{◌≡◌, ◌++◌, take, drop, map}
use Rattle.memo.specs.Memos.{left_of}
use Rattle.memo.proofs.memo.forget.Given as goal

abbrev pub invariant-loop-entry : goal.invariant-loop-entry
invariant-loop-entry l =
    l.entry-items ≡ map (left_of l.k) (take l.entry-index l.initial.entry-items) ++ drop l.entry-index l.initial.entry-items
