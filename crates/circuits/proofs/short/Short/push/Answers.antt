use Rattle.std.proofs.Common.{arith}
use Rattle.circuits.proofs.Fronts.{front, entries_length, front_from, front_more, front_list}
use Rattle.circuits.proofs.short.Short.push.Goals as goal

pub offset_bounds-self-len : goal.offset_bounds-self-len
offset_bounds-self-len g c = let f = front c.args.self.now in omega arith

pub listed : goal.listed
listed g c = let f = front c.args.self.now in omega arith

pub bounds-self-len : goal.bounds-self-len
bounds-self-len g c = let f = front c.args.self.now in omega arith

pub overflow_add-self : goal.overflow_add-self
overflow_add-self g c = let f = front c.args.self.now in omega (arith, g.N.fits)

pub invariant_of-self : goal.invariant_of-self
invariant_of-self g c =
    let f = front c.args.self.now in
    record { good = front_from g.T.Blank.is_blank g.row.N _ _ (front_more g.T.Blank.is_blank g.row.N c.args.self.now.table c.args.self.now.len c.args.entry (omega arith) f) }

pub returns : goal.returns
returns g c =
    let f = front c.args.self.now in
    let e = entries_length c.args.self.now in
    (omega arith, front_list g.T.Blank.is_blank g.row.N c.args.self.now.table c.args.self.now.len c.args.entry (omega arith) f)
