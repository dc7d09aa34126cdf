use Rattle.std.proofs.Common.{◌≡◌, refl, rules, arith}
use Rattle.std.proofs.lemmas.Bool.Decides.{nat_tests}
use Rattle.std.proofs.lemmas.List.Recursion.{and_is}
use Rattle.circuits.specs.Names.{letter, letters, is_name}
use Rattle.circuits.proofs.name.bytes.is_name.Goals as goal

pub returns-then-bytes-le8 : goal.returns-then-bytes-le8
unfolding letters is_name
returns-then-bytes-le8 c =
    let each : c.all.result ≡ letters c.args.bytes.now = and_is letters letter refl (λ _ _. refl) c.args.bytes.now 0 c.all.result (search rules) (search rules) in
    grind (arith, nat_tests)

pub returns-else-bytes-le8 : goal.returns-else-bytes-le8
unfolding is_name
returns-else-bytes-le8 c = grind (arith, nat_tests)
