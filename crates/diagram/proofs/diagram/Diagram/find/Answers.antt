use Rattle.std.proofs.Common.{sym, ◌∙◌, arith, rules}
use Rattle.std.proofs.lemmas.Bool.{false≢true}
use Rattle.diagram.proofs.Chaining.{walk_two, walk_below, walk_found, walk_on, walk_falls, walk_ends, node_itself}
use Rattle.diagram.proofs.diagram.Diagram.find.Goals as goal

pub overflow_sub-row : goal.overflow_sub-row
overflow_sub-row c = walk_two c.loop-link.invariant c.in-Some.is

pub bounds-self-h : goal.bounds-self-h
bounds-self-h c = let b = walk_below c.loop-link.invariant c.in-Some.is in omega (arith, c.args.self.now.sound.linked.within)

pub returns-then-eq : goal.returns-then-eq
returns-then-eq c = walk_found c.loop-link.invariant c.in-Some.is (search rules)

pub loop-link-smaller : goal.loop-link-smaller
loop-link-smaller c = rw c.handle-link-in-Some.ensures (walk_falls c.args.self.now.sound.linked.chained c.loop-link.invariant c.in-Some.is)

pub loop-link-preserved : goal.loop-link-preserved
loop-link-preserved c =
    rw c.handle-link-in-Some.ensures
    (walk_on c.args.self.now.sound.linked.chained c.loop-link.invariant c.in-Some.is
    (λ e. false≢true (sym c.if-eq.false ∙ (rw e at c.eq.ensures ∙ node_itself c.args.node))))

pub returns : goal.returns
returns c = walk_ends c.loop-link.invariant (search rules)
