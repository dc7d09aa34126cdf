use Rattle.std.proofs.Common.{List, ap, ◌∙◌}
use Rattle.std.specs.Cmp.Lexicographic.{pointwise}
use Rattle.circuits.specs.Shorts.{entries}
use Rattle.circuits.proofs.short.list.ShortPartialEq.eq.Goals as goal

pub returns : goal.returns
returns g c =
    c.eq.ensures
    ∙ (ap (λ (xs : List g.row.T.Denot). pointwise g.T.PartialEq.eq xs c.as_slice-2.result.now) c.as_slice.ensures
    ∙ ap (λ (xs : List g.row.T.Denot). pointwise g.T.PartialEq.eq (entries c.args.self.now) xs) c.as_slice-2.ensures)
