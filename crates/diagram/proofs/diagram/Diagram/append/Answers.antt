use Rattle.diagram.proofs.Building.{row_appended, row_sound}
use Rattle.diagram.proofs.diagram.Diagram.append.Goals as goal

pub invariant_of-self : goal.invariant_of-self
invariant_of-self c =
    let r = c.requires in
    record { sound = row_sound c.args.self.now.sound r.later r.differ r.fresh r.room c.chain_of-b.ensures.0 c.chain_of-b.ensures.1 _ c.to.ensures }

pub returns : goal.returns
returns c =
    let r = c.requires in
    row_appended c.args.self.now.sound r.later r.differ r.fresh r.room c.chain_of-b.ensures.0 c.chain_of-b.ensures.1
