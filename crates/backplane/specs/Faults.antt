-- What a caller of the array is told of a backplane's fault: its number and two details.
use Rattle.std.specs.Prelude.{ℕ}
use Rattle.backplane.specs.declared.fault.Place.{Place}
use Rattle.backplane.specs.declared.fault.Place.TheVariants.{OfBlock, OfCell}
use Rattle.backplane.specs.declared.fault.BackplaneFault.{BackplaneFault}
use Rattle.backplane.specs.declared.fault.BackplaneFault.TheVariants.{Off, NoPlace, Dead, Live, Cut}

-- `Off` and `NoPlace` never reach a caller of the array, which tests for them first: they have no number
abbrev pub number : BackplaneFault → ℕ
number Off = 0
number NoPlace = 0
number Live = 12
number Dead = 13
number (Cut _) = 20

-- slot and block, or 255 and cell
abbrev pub first_of : Place → ℕ
first_of (OfBlock slot _) = slot
first_of (OfCell _) = 255

abbrev pub second_of : Place → ℕ
second_of (OfBlock _ block) = block
second_of (OfCell cell) = cell

-- the place of the store that was cut; else 0 and 0
abbrev pub detail_a : BackplaneFault → ℕ
detail_a Off = 0
detail_a NoPlace = 0
detail_a Live = 0
detail_a Dead = 0
detail_a (Cut at) = first_of at

abbrev pub detail_b : BackplaneFault → ℕ
detail_b Off = 0
detail_b NoPlace = 0
detail_b Live = 0
detail_b Dead = 0
detail_b (Cut at) = second_of at
