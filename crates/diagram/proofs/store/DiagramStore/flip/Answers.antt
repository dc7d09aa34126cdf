use Rattle.diagram.proofs.Calls.{answers_flip}
use Rattle.diagram.proofs.store.DiagramStore.flip.Goals as goal

pub returns : goal.returns
returns c =
    let d = c.args.self.now in
    record { flips = answers_flip d.sound c.args.f c.join_whole.result _ c.in_ok-admit.ensures.0 c.join_whole.ensures }
