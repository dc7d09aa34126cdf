use Rattle.std.proofs.Common.{◌≡◌, ℕ, Bool, true, false, cond, ltb, Option, None, Some, refl, ◌∙◌, arith, rules}
use Rattle.std.specs.Option.{MatchOption}
use Rattle.std.proofs.lemmas.Grind.{common_steps}
use Rattle.std.proofs.lemmas.List.Edits.{map_over_more}
use Rattle.memo.specs.declared.entry.Entry.{Entry}
use Rattle.memo.specs.Memos.{entry_at, left_of}
use Rattle.memo.proofs.memo.forget.Goals as goal
use Rattle.memo.proofs.memo.forget.Goals.{then-is_some_and, else-is_some_and}

-- What is left of an entry, by a test that goes by its length.
left : (k : ℕ) (o : Option Entry) (b : Bool) (Q : Entry → Type 0) → ((e : Entry) → Q e → b ≡ ltb k e.length) → MatchOption o (b ≡ false) Q → left_of k o ≡ cond b None o
left k None b Q q h = rw h refl
left k (Some e) b Q q w = rw (q e w) refl

pub loop-entry-preserved : goal.loop-entry-preserved
loop-entry-preserved c =
    let l = c.loop-entry in
    let old = entry_at l.entry-items l.entry-index in
    let done = map_over_more (left_of c.args.k) c.args.entries.now l.entry-items l.entry-index old c.loop-entry-test.true l.invariant (grind (arith, common_steps)) in
    elim c.if-is_some_and.branch [
      | then-is_some_and w ↦
          let gone : left_of c.args.k old ≡ None = left c.args.k old true _ (λ e q. search rules) w.if-is_some_and.ensures in
          w.entry-items-is ∙ (rw gone at done)
      | else-is_some_and w ↦
          let stays : left_of c.args.k old ≡ old = left c.args.k old false _ (λ e q. search rules) w.if-is_some_and.ensures in
          w.entry-items-is ∙ (rw stays at done)
    ]
