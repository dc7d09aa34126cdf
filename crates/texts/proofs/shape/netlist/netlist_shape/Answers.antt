use Rattle.std.proofs.Common.{◌≡◌, codes, arith, rules}
use Rattle.std.proofs.lemmas.Slice.Eq.{text_from_reads}
use Rattle.std.proofs.lemmas.Bool.{ltb-true, ltb-false}
use Rattle.texts.proofs.shape.netlist.netlist_shape.Goals as goal

pub returns-in-gate : goal.returns-in-gate
returns-in-gate c =
    let e : c.in_ok-word.word.now ≡ codes "gate" = text_from_reads c.in_ok-word.word.now (codes "gate") (omega (arith, ltb-true, ltb-false)) (search rules) in
    rw (c.in_ok-word.ensures, e) c.gate_shape.ensures
