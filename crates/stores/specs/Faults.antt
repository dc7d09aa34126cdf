-- The numbers of a store's refusals.
use Rattle.std.specs.Prelude.{ℕ}
use Rattle.stores.specs.declared.fault.StoreFault.{StoreFault}
use Rattle.stores.specs.declared.fault.StoreFault.TheVariants.{Inputs, Places, Bounds}

abbrev pub store_number : StoreFault → ℕ
store_number Inputs = 9
store_number Places = 10
store_number Bounds = 15
