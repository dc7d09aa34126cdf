use Rattle.std.proofs.Common.{length, sym, ap, ◌∙◌}
use Rattle.std.proofs.lemmas.List.{length-map}
use Rattle.std.proofs.lemmas.Bool.{and_parts}
use Rattle.circuits.specs.Circuits.{nothing, pins_of, received, through}
use Rattle.circuits.specs.Kinds.{fits, ones}
use Rattle.circuits.specs.Legality.{pins_read}
use Rattle.circuits.specs.declared.pin.Pin.{Pin}
use Rattle.circuits.proofs.Working.{received_each}
use Rattle.circuits.proofs.gate.Gate.work_out.Goals as goal

pub returns : goal.returns
returns c g =
    let pins = pins_of c.args.self.now in
    let stems = c.args.stems.now in
    let same = c.as_slice-pins.ensures in
    c.bit.ensures (received nothing g 0 stems pins)
    (ap length (received_each g 0 stems pins) ∙ (length-map pins (λ (p : Pin). through p stems) ∙ ap length (sym same)))
    (ap (λ ps. ones (received nothing g 0 stems ps)) (sym same) ∙ sym (c.count_ones.ensures g))
    (rw same (and_parts (fits c.args.self.now.kind (length pins)) (pins_read (length stems) pins) c.requires).0)
