use Rattle.std.proofs.Common.{◌≡◌, ◌/◌, ◌%◌, ◌^◌, cond, ap, ◌∙◌, pow_pos}
use Rattle.stores.proofs.WordBits.{half_is, whole_is, repeated_is, twice_fits, twice_below, word_fix}
use Rattle.stores.proofs.words.bits.repeated.Goals as goal
use Rattle.stores.proofs.words.bits.repeated.Goals.{then-bit, else-bit}

pub nonzero_rem-part : goal.nonzero_rem-part
nonzero_rem-part c = rw (whole_is c.args.inputs c.requires.few) (pow_pos (2 ^ c.args.inputs))

pub returns : goal.returns
returns c =
    let n = c.args.inputs in
    let w = c.args.w in
    let part = c.if-bit.part in
    let e : part ≡ cond c.args.bit (w / 2 ^ 2 ^ n) (w % 2 ^ 2 ^ n) = elim c.if-bit.branch [
      | then-bit y ↦ rw y.if-bit.true (y.part-is ∙ ap (λ x. w / 2 ^ x) (half_is n c.requires.few))
      | else-bit y ↦ rw y.if-bit.false (y.part-is ∙ ap (λ x. w % x) (whole_is n c.requires.few))
    ] in
    let f = twice_fits n w c.args.bit part c.requires.fits e in
    record {
      fits = rw (repeated_is n part c.requires.few f) (twice_below n part f);
      means = rw (repeated_is n part c.requires.few f) (word_fix n w c.args.bit part c.requires.fits e);
    }
