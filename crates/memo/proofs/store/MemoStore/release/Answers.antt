use Rattle.memo.proofs.Tables.{sound_cut}
use Rattle.memo.proofs.store.MemoStore.release.Goals as goal

pub invariant_of-self-2 : goal.invariant_of-self-2
invariant_of-self-2 g c =
    let y = c.in_ok-release.ensures.releases in
    record { sound = sound_cut _ _ _ _ _ _ y.0 y.2 c.forget.ensures c.args.self.now.sound }
