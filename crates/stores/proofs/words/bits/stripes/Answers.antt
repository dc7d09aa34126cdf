use Rattle.std.proofs.Common.{arith, refl}
use Rattle.stores.specs.Functions.{agrees}
use Rattle.stores.proofs.WordBits.{striped}
use Rattle.stores.proofs.words.bits.stripes.Goals as goal

pub returns-in-0 : goal.returns-in-0
unfolding agrees
returns-in-0 c = striped _ c.args.k 0 refl (omega arith)

pub returns-in-1 : goal.returns-in-1
unfolding agrees
returns-in-1 c = striped _ c.args.k 1 refl (omega arith)

pub returns-in-2 : goal.returns-in-2
unfolding agrees
returns-in-2 c = striped _ c.args.k 2 refl (omega arith)

pub returns-in-3 : goal.returns-in-3
unfolding agrees
returns-in-3 c = striped _ c.args.k 3 refl (omega arith)

pub returns-in-4 : goal.returns-in-4
unfolding agrees
returns-in-4 c = striped _ c.args.k 4 refl (omega arith)

pub returns-in_default : goal.returns-in_default
unfolding agrees
returns-in_default c = striped _ c.args.k 5 refl (omega arith)
