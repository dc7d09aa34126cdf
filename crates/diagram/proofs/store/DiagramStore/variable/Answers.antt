use Rattle.std.proofs.Common.{subst}
use Rattle.diagram.specs.Rows.{node}
use Rattle.diagram.specs.Diagrams.{function_of, RefusedInPlace}
use Rattle.diagram.proofs.Calls.{built_yields, answers_variable}
use Rattle.diagram.proofs.store.DiagramStore.variable.Goals as goal

pub returns : goal.returns
returns c =
    let d = c.args.self.now in
    let d' = c.node.new.self in
    let f = node d.inputs c.args.v (function_of d 0) (function_of d 1) in
    let y = built_yields f c.args.v c.node.result c.node.ensures.extends (λ e i. subst (λ x. RefusedInPlace d x d') i c.node.ensures.refused) c.node.ensures.builds in
    record { takes = answers_variable d.sound c.args.v c.node.result _ c.if-self-v.false y }
