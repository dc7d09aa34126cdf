use Rattle.std.proofs.Common.{◌≡◌, true, [], ◌∷◌, None, refl, rules}
use Rattle.std.proofs.lemmas.Result.{MatchResult-at_ok}
use Rattle.circuits.specs.Drafts.{input_fault}
use Rattle.circuits.specs.Legality.{legal}
use Rattle.circuits.specs.Names.{letters, is_name}
use Rattle.circuits.proofs.Starts.{input_starts, smallest_legal}
use Rattle.circuits.proofs.design.Design.new.Goals as goal

pub unwrap-name-requires : goal.unwrap-name-requires
unfolding is_name letters
unwrap-name-requires c = let good : is_name (97 ∷ []) ≡ true = refl in search rules

pub unwrap-requires : goal.unwrap-requires
unwrap-requires c =
    let none : input_fault c.in_ok-draft.draft c.unwrap-name.result ≡ None = rw c.in_ok-draft.ensures (input_starts c.unwrap-name.result) in
    search rules

-- what was made keeps every rule
kept : (c : goal.After-unwrap-2) → legal c.add_output.new.self.circuit c.add_output.new.self.rows ≡ true
kept c =
    let one = MatchResult-at_ok _ _ c.unwrap.result c.unwrap.ensures c.add_input.ensures.added in
    let two = MatchResult-at_ok _ _ c.unwrap-2.result c.unwrap-2.ensures c.add_output.ensures.added in
    rw (two.1, one.1, c.in_ok-draft.ensures) (smallest_legal c.unwrap-name.result _)

pub invariant_of-result : goal.invariant_of-result
invariant_of-result c = kept c

pub returns-clause-lawful : goal.returns-clause-lawful
returns-clause-lawful c = kept c
