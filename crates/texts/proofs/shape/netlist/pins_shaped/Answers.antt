use Rattle.std.proofs.Common.{◌≡◌, ℕ, ◌&&◌, eqb, List, [], ◌∷◌, ap, sym, refl, ◌∙◌, rules, tests}
use Rattle.std.proofs.lemmas.Iterator.Search.{all_from_yields_List}
use Rattle.std.proofs.lemmas.Iterator.Splits.{YieldsList-from_slice_split}
use Rattle.std.specs.List.{list_all}
use Rattle.texts.specs.Records.{comma}
use Rattle.texts.specs.Shapes.{is_pin, all_pins}
use Rattle.texts.proofs.Splits.{fields_split}
use Rattle.texts.proofs.shape.netlist.pins_shaped.Goals as goal

-- whether each is a pin, in the library's words
all_pins_all : (ps : List (List ℕ)) → all_pins ps ≡ list_all is_pin ps
unfolding all_pins
all_pins_all [] = refl
all_pins_all (p ∷ ps) = ap (λ t. is_pin p && t) (all_pins_all ps)

pub returns : goal.returns
returns c =
    all_from_yields_List is_pin _ _ c.all.result c.all.ensures.ran
    (YieldsList-from_slice_split _ (λ b. eqb b comma) c.args.pins.now c.split.ensures.rest c.split.ensures.done c.split.ensures.closure (λ x b q k. search (rules, tests))) (λ x b q k. search (rules, tests))
    ∙ sym (ap all_pins (fields_split c.args.pins.now) ∙ all_pins_all _)
