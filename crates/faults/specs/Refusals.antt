-- Which refusal of the rules belongs to each fault: its number, the layer it arose in, and two details.
use Rattle.backplane.specs.declared.fault.BackplaneFault.{BackplaneFault}
use Rattle.backplane.specs.declared.fault.BackplaneFault.TheVariants.{Off, NoPlace, Dead, Live, Cut}
use Rattle.backplane.specs.Faults.{number}
use Rattle.model.specs.Verdict.{Refusal, refusal, cut_at, of_backplane, of_log, of_stripe, of_array}
use Rattle.model.specs.Verdict as verdict
use Rattle.faults.specs.declared.fault.LogFault.{LogFault}
use Rattle.faults.specs.declared.fault.LogFault.TheVariants.{Full, Pending, Damaged, Overfull, AtCell}
use Rattle.faults.specs.declared.fault.StripeFault.{StripeFault}
use Rattle.faults.specs.declared.fault.StripeFault.TheVariants.{NoBlock, NoStripe, PastRepair, AtBlock}
use Rattle.faults.specs.declared.fault.ArrayFault.{ArrayFault}
use Rattle.faults.specs.declared.fault.ArrayFault.TheVariants.{BlockLength, ShortWork, NoSlot, Sizes, NotStarted, Rebuilt, NotLaidOut, OfBackplane, OfLog, OfStripe}
use Rattle.faults.specs.declared.told.Layer.{Layer}
use Rattle.faults.specs.declared.told.Layer.TheVariants.{Backplane, Log, Stripe, Array}

-- the power off and a place that is not there have no number of the rules: the array tests for them first
abbrev pub backplane_refusal : BackplaneFault → Refusal
backplane_refusal Off = record { number = number Off; layer = of_backplane; a = 0; b = 0 }
backplane_refusal NoPlace = record { number = number NoPlace; layer = of_backplane; a = 0; b = 0 }
backplane_refusal Live = refusal (number Live) 0 0
backplane_refusal Dead = refusal (number Dead) 0 0
backplane_refusal (Cut at) = cut_at at

abbrev pub log_refusal : LogFault → Refusal
log_refusal (Full free) = refusal 16 free 0
log_refusal (Pending stripe) = refusal 17 stripe 0
log_refusal (Damaged cell) = refusal 19 cell 0
log_refusal Overfull = refusal 19 0 0
log_refusal (AtCell f) = backplane_refusal f

abbrev pub stripe_refusal : StripeFault → Refusal
stripe_refusal NoBlock = refusal 3 0 0
stripe_refusal NoStripe = refusal 4 0 0
stripe_refusal (PastRepair stripe lost) = refusal 15 stripe lost
stripe_refusal (AtBlock f) = backplane_refusal f

abbrev pub array_refusal : ArrayFault → Refusal
array_refusal BlockLength = refusal 1 0 0
array_refusal ShortWork = refusal 2 0 0
array_refusal NoSlot = refusal 5 0 0
array_refusal Sizes = refusal 6 0 0
array_refusal NotStarted = refusal 11 0 0
array_refusal Rebuilt = refusal 14 0 0
array_refusal NotLaidOut = refusal 18 0 0
array_refusal (OfBackplane f) = backplane_refusal f
array_refusal (OfLog f) = log_refusal f
array_refusal (OfStripe f) = stripe_refusal f

-- the layer of the rules that the code names so
abbrev pub layer_named : Layer → verdict.Layer
layer_named Backplane = of_backplane
layer_named Log = of_log
layer_named Stripe = of_stripe
layer_named Array = of_array
