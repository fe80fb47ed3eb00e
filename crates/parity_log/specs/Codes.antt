-- A code of the program as the rules use it.
use Rattle.std.specs.Prelude.{ℕ, ◌-◌, List}
use Rattle.backplane.specs.Meaning.{Bytes}
use Rattle.codes.specs.declared.code.Code.{Ghosts as CodeGhosts}
use Rattle.model.specs.Coding.{Coding, byte_coding}

module _ {C : Type 0} (code : CodeGhosts C) where
  -- with k data columns
  abbrev pub coding : ℕ → Coding (List ℕ)
  coding k = byte_coding k code.NUMBER code.ROWS code.check code.solved

  -- on a backplane: the slots that hold no check hold data
  abbrev pub coding_on : Bytes → Coding (List ℕ)
  coding_on p = coding (p.slots - code.ROWS)
