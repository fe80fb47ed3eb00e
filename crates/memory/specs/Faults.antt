-- What lent memory is refused by.
use Rattle.std.specs.Prelude.{ℕ, Bool, true, false, Ok, Err, Result}
use Rattle.memory.specs.declared.MemoryFault.{MemoryFault}
use Rattle.memory.specs.declared.MemoryFault.TheVariants.{Misfit}

-- a fault of the layer `array`, with the details 0 and 0
abbrev pub number : MemoryFault → ℕ
number Misfit = 6

abbrev pub judged : Bool → Result (Unit {0}) MemoryFault
judged true = Ok tt
judged false = Err Misfit
