-- What a format stores.
use Rattle.std.specs.Prelude.{ℕ, List, [], ◌∷◌}
use Rattle.backplane.specs.Plane.{Store, to_cell}
use Rattle.layout.specs.declared.shape.Shape.{Shape}
use Rattle.layout.specs.declared.header.Header.{Header}
use Rattle.model.specs.Rules.{first_header}
use Rattle.array.specs.Calls.{fill_disks}

-- the header of an array of this shape just formatted
abbrev pub first_of : Shape → Header
first_of sh = first_header sh.slots sh.blocks

-- in an array of this shape: zeros in cell 0, zeros in all blocks, cell 0
abbrev pub formatted_by : Shape → List ℕ → List ℕ → List (List (Store (List ℕ)))
formatted_by sh zero cell = (to_cell 0 zero ∷ []) ∷ (fill_disks zero sh.blocks sh.slots 0 ∷ ((to_cell 0 cell ∷ []) ∷ []))
