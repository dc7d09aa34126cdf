use Rattle.std.proofs.Common.{sym, refl, subst}
use Rattle.std.proofs.lemmas.Result.{err_from_is_err_and, MatchResult-at_ok}
use Rattle.texts.specs.Reading.{Accepted, specification_refused}
use Rattle.texts.specs.Specification.{SpecificationRead}
use Rattle.texts.proofs.Exits.{done}
use Rattle.texts.proofs.Rewritten.{accepted_writes}
use Rattle.texts.proofs.Telling.{told, read_whole, long_netlist, refused_netlist, long_specification}
use Rattle.texts.proofs.read.Reader.read.Goals as goal

pub returns-in_err-check_length : goal.returns-in_err-check_length
returns-in_err-check_length c =
    let p = err_from_is_err_and c.from_residual.result c.from_residual.ensures.1 in
    let why = long_netlist c.args.netlist.now c.args.specification.now _ c.in_err-check_length.ensures.0 c.in_err-check_length.ensures.1 in
    rw (p.1, p.2) (record { exact = (why, refl); writing = tt; told = told c.args.netlist.now c.args.specification.now _ why; lawful = c.counts.ensures.lawful })

pub returns-in_err-read_netlist : goal.returns-in_err-read_netlist
returns-in_err-read_netlist c =
    let p = err_from_is_err_and c.from_residual-in_err-read_netlist.result c.from_residual-in_err-read_netlist.ensures.1 in
    let why = refused_netlist c.args.netlist.now c.args.specification.now _ c.in_ok-check_length.ensures c.in_err-read_netlist.ensures in
    rw (p.1, p.2) (record { exact = (why, refl); writing = tt; told = told c.args.netlist.now c.args.specification.now _ why; lawful = c.counts.ensures.lawful })

pub returns-in_err-check_length-2 : goal.returns-in_err-check_length-2
returns-in_err-check_length-2 c =
    let p = err_from_is_err_and c.from_residual-in_err-check_length-2.result c.from_residual-in_err-check_length-2.ensures.1 in
    let why = long_specification c.args.netlist.now c.args.specification.now _ _ c.in_ok-check_length.ensures c.in_ok-read_netlist.ensures c.in_err-check_length-2.ensures.0 c.in_err-check_length-2.ensures.1 in
    rw (p.1, p.2) (record { exact = (why, refl); writing = tt; told = told c.args.netlist.now c.args.specification.now _ why; lawful = c.counts.ensures.lawful })

pub returns-in_err-read_specification : goal.returns-in_err-read_specification
returns-in_err-read_specification c =
    let p = err_from_is_err_and c.from_residual-in_err-read_specification.result c.from_residual-in_err-read_specification.ensures.1 in
    let why = specification_refused _ _ c.in_ok-check_length.ensures c.in_ok-read_netlist.ensures c.in_ok-check_length-2.ensures c.in_err-read_specification.ensures in
    rw (p.1, p.2) (record { exact = (why, refl); writing = tt; told = told c.args.netlist.now c.args.specification.now _ why; lawful = c.counts.ensures.lawful })

pub unwrap-requires : goal.unwrap-requires
unwrap-requires c = done _ _ _ c.complete.result c.complete.ensures.exchanged (λ f. read_whole c.args.netlist.now c.args.specification.now _ _ f c.in_ok-read_netlist.ensures c.in_ok-read_specification.ensures)

pub returns : goal.returns
returns c =
    let told = MatchResult-at_ok _ _ c.unwrap.result c.unwrap.ensures c.complete.ensures.exchanged in
    let read : Accepted c.args.netlist.now c.args.specification.now c.complete.new.design = record {
      short_netlist = c.in_ok-check_length.ensures;
      circuit = c.read_netlist.new.draft;
      netlist_read = c.in_ok-read_netlist.ensures;
      short_specification = c.in_ok-check_length-2.ensures;
      specification_read = subst (SpecificationRead c.args.specification.now c.read_netlist.new.draft) (sym told.1.0) c.in_ok-read_specification.ensures;
    } in
    record { exact = read; writing = accepted_writes c.args.netlist.now c.args.specification.now _ read; told = tt; lawful = c.complete.ensures.whole }
