use Rattle.std.proofs.Common.{◌≡◌, ◌-◌, length}
use Rattle.texts.specs.Adding.{Reached}
use Rattle.texts.specs.Netlist.{NetlistStep, start}
use Rattle.texts.specs.Walks.{After}
use Rattle.texts.proofs.netlist.read_netlist.Given as goal

abbrev pub invariant-loop-spot : goal.invariant-loop-spot
invariant-loop-spot l =
    record {
      same_text : l.records.text.now ≡ l.netlist;
      taken : After NetlistStep l.netlist start l.records.earlier (l.group, l.draft);
      reached : Reached l.group l.draft;
    }

abbrev pub decreases-loop-spot : goal.decreases-loop-spot
decreases-loop-spot l = length l.records.text.now - l.records.place
