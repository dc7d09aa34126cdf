use Rattle.std.proofs.Common.{◌≡◌, length, Some, sym, ap, ◌∙◌, arith}
use Rattle.circuits.specs.Lines.{place_of}
use Rattle.circuits.specs.declared.place.Place.TheVariants.{Stem}
use Rattle.circuits.proofs.Numbering.{stem_stands, stem_line_bit}
use Rattle.circuits.proofs.design.Design.carry.Goals as goal

place_is : (c : goal.After-shared_slice_known-1) → place_of c.args.self.now.circuit c.args.line ≡ Some (Stem c.in-Stem.stem)
place_is c = sym c.place.ensures.value ∙ (c.in_ok-stem.was ∙ ap (λ p. Some p) c.in-Stem.is)

pub bounds-stems-stem : goal.bounds-stems-stem
bounds-stems-stem c =
    omega (arith, stem_stands c.args.self.now.circuit c.args.line c.in-Stem.stem (place_is c), ap length c.as_slice-stems.ensures, c.stem_bits-bits.ensures.one_each)

pub returns-in-Stem : goal.returns-in-Stem
returns-in-Stem c =
    stem_line_bit c.args.self.now.circuit c.args.line c.args.assignment c.in-Stem.stem _ (omega (arith, c.assignments.ensures)) (place_is c) (c.as_slice-stems.ensures ∙ c.stem_bits-bits.ensures.bits)
