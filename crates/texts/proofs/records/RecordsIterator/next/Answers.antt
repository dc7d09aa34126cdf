use Rattle.std.proofs.Common.{refl, arith}
use Rattle.std.proofs.lemmas.List.{take_rest}
use Rattle.texts.proofs.Going.{place_next, spot_same}
use Rattle.texts.proofs.Splits.{fed}
use Rattle.texts.proofs.records.RecordsIterator.next.Goals as goal

pub invariant_of-self : goal.invariant_of-self
invariant_of-self c =
    let s = c.args.self.now in
    let f = fed s.text.now _ s.place c.in_ok-length.length s.within (take_rest s.text.now s.place) c.in_ok-length.ensures in
    let l = f.long in
    let on = f.on in
    record { within = omega arith; few = omega arith; here = place_next s.text.now s.earlier s.place _ s.here l }

pub returns-clause-steps : goal.returns-clause-steps
returns-clause-steps c =
    let s = c.args.self.now in
    let f = fed s.text.now _ s.place c.in_ok-length.length s.within (take_rest s.text.now s.place) c.in_ok-length.ensures in
    let l = f.long in
    let on = f.on in
    (refl, refl, spot_same _ _ _ _ c.rest.ensures.number c.rest.ensures.place l, f.part, omega arith)
