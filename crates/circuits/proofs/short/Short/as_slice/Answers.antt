use Rattle.std.proofs.Common.{arith}
use Rattle.circuits.proofs.Fronts.{front}
use Rattle.circuits.proofs.short.Short.as_slice.Goals as goal

pub slice_bounds-result-end : goal.slice_bounds-result-end
slice_bounds-result-end g c = let f = front c.args.self.now in omega arith
