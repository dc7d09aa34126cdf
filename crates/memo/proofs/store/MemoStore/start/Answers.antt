use Rattle.memo.proofs.Tables.{sound_none, lawful_started}
use Rattle.memo.proofs.store.MemoStore.start.Goals as goal

pub invariant_of-self-2 : goal.invariant_of-self-2
invariant_of-self-2 g c =
    let y = c.in_ok-start.ensures.starts in
    record { sound = sound_none _ _ (lawful_started _ _ _ _ c.args.self.now.sound.lawful y.1 y.2) }
