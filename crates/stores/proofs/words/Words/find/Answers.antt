use Rattle.std.proofs.Common.{◌≡◌, ◌+◌, sym, ◌∙◌, rules}
use Rattle.std.specs.Option.{option_map}
use Rattle.std.proofs.iter.runs.Made.{chains}
use Rattle.stores.proofs.Keeping.{stands_one, found_word}
use Rattle.stores.proofs.words.Words.find.Goals as goal

pub returns-then-w-full : goal.returns-then-w-full
returns-then-w-full c = let v = c.args.self.now in stands_one v.inputs v.len v.words.now c.args.w v.sound (c.if-w-full.true ∙ c.full.ensures)

pub returns : goal.returns
returns c =
    let v = c.args.self.now in
    let f : c.map.result ≡ option_map (λ i. i + 2) c.position_of.result = search (rules, chains) in
    rw f (found_word v.inputs v.len v.words.now c.args.w v.sound c.requires.fits c.if-w-eq0.false (λ e. c.if-w-full.false (e ∙ sym c.full.ensures)) c.position_of.result (sym c.position_of.ensures))
