use Rattle.std.proofs.Common.{false, ltb, refl, rules}
use Rattle.std.proofs.lemmas.List.Recursion.{and_is}
use Rattle.circuits.specs.Legality.{pins_read}
use Rattle.circuits.proofs.gate.Gate.reads_below.Goals as goal

pub returns : goal.returns
unfolding pins_read
returns c =
    and_is (pins_read c.args.stems) (λ p. ltb p.stem c.args.stems) refl (λ _ _. refl) _ (record { stem = 0; mark = false }) _ (search rules) (search rules)
