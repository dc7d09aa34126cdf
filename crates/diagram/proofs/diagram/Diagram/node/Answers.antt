use Rattle.diagram.proofs.Building.{node_equal, node_found, node_full, node_appended}
use Rattle.diagram.proofs.diagram.Diagram.node.Goals as goal

pub returns-then-low-high-clause-builds : goal.returns-then-low-high-clause-builds
returns-then-low-high-clause-builds c = node_equal c.args.self.now.sound c.requires c.if-low-high.true

pub returns-in-Some-clause-builds : goal.returns-in-Some-clause-builds
returns-in-Some-clause-builds c = node_found c.args.self.now.sound c.requires c.in-Some.h c.in-Some.ensures

pub returns-then-self-clause-builds : goal.returns-then-self-clause-builds
returns-then-self-clause-builds c = node_full c.args.self.now.sound c.requires c.if-low-high.false c.in_default.ensures c.if-self.true

pub returns-clause-builds : goal.returns-clause-builds
returns-clause-builds c = (node_appended c.args.self.now.sound c.requires c.if-low-high.false c.in_default.ensures c.append.ensures c.if-self.false).1
