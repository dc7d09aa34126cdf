use Rattle.std.proofs.Common.{refl, arith}
use Rattle.diagram.specs.Chains.{chain}
use Rattle.diagram.proofs.chains.chain_of.Goals as goal

pub returns : goal.returns
unfolding chain
returns c = (refl, omega arith)
