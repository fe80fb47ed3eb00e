-- The text that shows why a row was left as it was.
use Rattle.std.specs.Prelude.{ℕ, List, codes}
use Rattle.codes.specs.declared.fault.RowFault.{RowFault}
use Rattle.codes.specs.declared.fault.RowFault.TheVariants.{Unsolvable, Uncodable}

abbrev pub shown : RowFault → List ℕ
shown Unsolvable = codes "row: not to be solved by this code"
shown Uncodable = codes "row: no place for the checks of this code"
