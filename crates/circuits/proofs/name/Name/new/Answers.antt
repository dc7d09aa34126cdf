use Rattle.std.proofs.Common.{ℕ, List, [], ◌∷◌, ◌++◌, length, get_or, sym, ap, ◌∙◌, rules, arith}
use Rattle.std.proofs.lemmas.List.{length-take-le, take_more}
use Rattle.std.proofs.lemmas.Result.{MatchResult-at_ok}
use Rattle.circuits.proofs.Naming.{name_short}
use Rattle.circuits.proofs.name.Name.new.Goals as goal

pub unwrap-requires : goal.unwrap-requires
unwrap-requires c =
    let few = name_short c.args.bytes.now (sym c.if-not-is_name.ensures) in
    let some = ap length c.loop-byte.invariant in
    let so_far = length-take-le c.loop-byte.byte-index c.args.bytes.now (omega arith) in
    search rules

pub loop-byte-preserved : goal.loop-byte-preserved
loop-byte-preserved c =
    let pushed = MatchResult-at_ok _ _ c.unwrap.result c.unwrap.ensures c.push.ensures in
    pushed.1 ∙ (ap (λ (x : List ℕ). x ++ get_or c.args.bytes.now c.loop-byte.byte-index 0 ∷ []) c.loop-byte.invariant ∙ sym (take_more c.args.bytes.now c.loop-byte.byte-index 0 (omega arith)))
