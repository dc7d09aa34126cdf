use Rattle.std.proofs.Common.{◌≡◌, min, ap, ◌∙◌, arith}
use Rattle.diagram.specs.Diagrams.{top_of}
use Rattle.diagram.proofs.Joining.{settled_built, low_exit, high_ready, high_exit, node_ready, whole_built}
use Rattle.diagram.proofs.diagram.Diagram.+join_down.Goals as goal

pub returns-in-Some-clause-builds : goal.returns-in-Some-clause-builds
returns-in-Some-clause-builds t c = settled_built c.args.self.now.sound c.args.op c.args.f c.args.g c.requires.left c.requires.right c.in-Some.h c.in-Some.ensures

pub returns-in_err-low-clause-builds : goal.returns-in_err-low-clause-builds
returns-in_err-low-clause-builds t c =
    let d = c.args.self.now in
    let d₁ = c.join_down.new.self in
    low_exit d.sound c.args.op c.args.f c.args.g c.parts-f_low.ensures c.parts-g_low.ensures (min (top_of d c.parts-f_low.result.0) (top_of d c.parts-g_low.result.0)) (min (top_of d c.args.f) (top_of d c.args.g)) d₁.len d₁.rows.now c.in_err-low.field-0.0 c.from_residual.result c.from_residual.ensures.1 c.in_err-low.ensures.builds

pub join_down-requires-2 : goal.join_down-requires-2
join_down-requires-2 t c =
    let d = c.args.self.now in
    let v : c.min-v.result ≡ min (top_of d c.args.f) (top_of d c.args.g) = c.min-v.ensures ∙ (ap (λ z. min z c.top-2.result) c.top.ensures ∙ ap (λ z. min (top_of d c.args.f) z) c.top-2.ensures) in
    let (falls, left, right) = high_ready d.sound c.args.op c.args.f c.args.g c.parts-f_low.ensures c.parts-g_low.ensures c.in_ok-low.ensures.extends in
    let m = c.decreases in
    (omega arith, (left, right))

pub returns-in_err-high-clause-builds : goal.returns-in_err-high-clause-builds
returns-in_err-high-clause-builds t c =
    let d = c.args.self.now in
    let d₂ = c.join_down-2.new.self in
    let x = c.in_ok-low.ensures in
    high_exit d.sound c.args.op c.args.f c.args.g c.parts-f_low.ensures c.parts-g_low.ensures x.extends x.builds.0 (min (top_of d c.args.f) (top_of d c.args.g)) d₂.len d₂.rows.now c.in_err-high.field-0.0 c.from_residual-in_err-high.result c.from_residual-in_err-high.ensures.1 c.in_err-high.ensures.builds

pub node-requires : goal.node-requires
node-requires t c =
    let x = c.in_ok-low.ensures in
    let y = c.in_ok-high.ensures in
    node_ready c.args.self.now.sound c.args.op c.args.f c.args.g c.parts-f_low.ensures c.parts-g_low.ensures x.extends c.in_ok-low.low x.builds y.extends c.in_ok-high.high y.builds

pub returns-clause-builds : goal.returns-clause-builds
returns-clause-builds t c =
    let d = c.args.self.now in
    let d₃ = c.node.new.self in
    let x = c.in_ok-low.ensures in
    let y = c.in_ok-high.ensures in
    let v : c.min-v.result ≡ min (top_of d c.args.f) (top_of d c.args.g) = c.min-v.ensures ∙ (ap (λ z. min z c.top-2.result) c.top.ensures ∙ ap (λ z. min (top_of d c.args.f) z) c.top-2.ensures) in
    whole_built d.sound c.args.op c.args.f c.args.g c.parts-f_low.ensures c.parts-g_low.ensures x.extends c.in_ok-low.low x.builds y.extends c.in_ok-high.high y.builds (min (top_of d c.args.f) (top_of d c.args.g)) v c.node.result d₃.len d₃.rows.now c.node.ensures.builds
