use Rattle.memo.proofs.Tables.{sound_new, recall_asks, recall_memoized}
use Rattle.memo.proofs.memo.Memo.answer.Goals as goal

pub returns-in-Some : goal.returns-in-Some
returns-in-Some g c =
    let v = c.args.self.now in
    record { asks = recall_asks _ _ _ v.below _ v.sound _ c.in-Some.ensures; memo = recall_memoized _ _ _ v.below _ v.sound _ c.in-Some.ensures }

pub invariant_of-self-2 : goal.invariant_of-self-2
invariant_of-self-2 g c =
    let n = c.length-length.ensures in
    record { sound = sound_new _ _ _ _ _ _ _ _ c.place.ensures.1 n.length n.lawful c.in_ok-h.ensures c.args.self.now.sound }
