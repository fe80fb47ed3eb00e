-- The fault of a log whose cells cannot be read.
use Rattle.std.specs.Prelude.{Some, None, Err, Option, Result}
use Rattle.backplane.specs.declared.fault.BackplaneFault.{BackplaneFault}
use Rattle.faults.specs.declared.fault.LogFault.{LogFault}
use Rattle.faults.specs.declared.fault.LogFault.TheVariants.{AtCell}

-- what is answered where there is no fault, and else the fault
abbrev pub unless_fault : {T E : Type 0} → Option E → Result T E → Result T E
unless_fault None r = r
unless_fault (Some f) r = Err f

-- what the log answers where its cells can be read, and else the fault
abbrev pub or_fault : {T : Type 0} → Option BackplaneFault → Result T LogFault → Result T LogFault
or_fault None r = r
or_fault (Some f) r = Err (AtCell f)
