use Rattle.stores.proofs.Joining.{first_exit, second_exit, third_exit, fourth_exit, fifth}
use Rattle.stores.proofs.voting.majority_parts.Goals as goal

pub returns-in_err-ab : goal.returns-in_err-ab
returns-in_err-ab g c =
    let S = g.S.Store in
    let m = S.meaning c.args.s.now in
    record { makes = first_exit S.keeping m c.args.a c.args.b c.args.c c.requires.lawful c.requires.held (S.meaning c.join.new.self) c.in_err-ab.field-0.0 c.from_residual.result c.from_residual.ensures.1 c.in_err-ab.ensures.joins }

pub returns-in_err-ac : goal.returns-in_err-ac
returns-in_err-ac g c =
    let S = g.S.Store in
    let m = S.meaning c.args.s.now in
    record { makes = second_exit S.keeping m c.args.a c.args.b c.args.c c.requires.lawful c.requires.held (S.meaning c.join.new.self) c.in_ok-ab.ab c.in_ok-ab.ensures.joins (S.meaning c.join-2.new.self) c.in_err-ac.field-0.0 c.from_residual-in_err-ac.result c.from_residual-in_err-ac.ensures.1 c.in_err-ac.ensures.joins }

pub returns-in_err-bc : goal.returns-in_err-bc
returns-in_err-bc g c =
    let S = g.S.Store in
    let m = S.meaning c.args.s.now in
    record { makes = third_exit S.keeping m c.args.a c.args.b c.args.c c.requires.lawful c.requires.held (S.meaning c.join.new.self) c.in_ok-ab.ab c.in_ok-ab.ensures.joins (S.meaning c.join-2.new.self) c.in_ok-ac.ac c.in_ok-ac.ensures.joins (S.meaning c.join-3.new.self) c.in_err-bc.field-0.0 c.from_residual-in_err-bc.result c.from_residual-in_err-bc.ensures.1 c.in_err-bc.ensures.joins }

pub returns-in_err-either : goal.returns-in_err-either
returns-in_err-either g c =
    let S = g.S.Store in
    let m = S.meaning c.args.s.now in
    record { makes = fourth_exit S.keeping m c.args.a c.args.b c.args.c c.requires.lawful c.requires.held (S.meaning c.join.new.self) c.in_ok-ab.ab c.in_ok-ab.ensures.joins (S.meaning c.join-2.new.self) c.in_ok-ac.ac c.in_ok-ac.ensures.joins (S.meaning c.join-3.new.self) c.in_ok-bc.bc c.in_ok-bc.ensures.joins (S.meaning c.join-4.new.self) c.in_err-either.field-0.0 c.from_residual-in_err-either.result c.from_residual-in_err-either.ensures.1 c.in_err-either.ensures.joins }

pub returns : goal.returns
returns g c =
    let S = g.S.Store in
    let m = S.meaning c.args.s.now in
    record { makes = fifth S.keeping m c.args.a c.args.b c.args.c c.requires.lawful c.requires.held (S.meaning c.join.new.self) c.in_ok-ab.ab c.in_ok-ab.ensures.joins (S.meaning c.join-2.new.self) c.in_ok-ac.ac c.in_ok-ac.ensures.joins (S.meaning c.join-3.new.self) c.in_ok-bc.bc c.in_ok-bc.ensures.joins (S.meaning c.join-4.new.self) c.in_ok-either.either c.in_ok-either.ensures.joins (S.meaning c.join-5.new.self) c.join-5.result c.join-5.ensures.joins }
