-- What stands in the table of a gate's pins where there is no pin.
use Rattle.std.specs.Prelude.{Bool, not, ◌&&◌, ◌==◌}
use Rattle.circuits.specs.declared.pin.Pin.{Pin}

-- An entry that is not used reads stem 0 and has no mark.
abbrev pub unused : Pin → Bool
unused p = p.stem == 0 && not p.mark
