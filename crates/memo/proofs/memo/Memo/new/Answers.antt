use Rattle.memo.proofs.Tables.{sound_none}
use Rattle.memo.proofs.memo.Memo.new.Goals as goal

pub invariant_of-result : goal.invariant_of-result
invariant_of-result g c = record { sound = sound_none _ _ c.length.ensures.lawful }
