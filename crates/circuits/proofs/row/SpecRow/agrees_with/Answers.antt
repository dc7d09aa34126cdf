use Rattle.std.proofs.Common.{not, refl, rules}
use Rattle.std.proofs.lemmas.List.Recursion.{and_is}
use Rattle.circuits.specs.Legality.{agrees}
use Rattle.circuits.specs.Specification.{contradicts}
use Rattle.circuits.proofs.row.SpecRow.agrees_with.Goals as goal

pub returns : goal.returns
unfolding agrees
returns c =
    let row = c.args.self.now in
    and_is (λ rs. agrees rs row) (λ r. not (contradicts r row)) refl (λ _ _. refl) _ row _ (search rules) (search rules)
