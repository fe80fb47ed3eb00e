use Rattle.std.proofs.Common.{◌≡◌, map}
use Rattle.codes.specs.Code.{share_of}
use Rattle.layout.specs.Bytes.{summed_to}
use Rattle.rows.proofs.shares.add_share.Given as goal

abbrev pub invariant-loop-i : goal.invariant-loop-i
invariant-loop-i g l = l.check-items ≡ summed_to l.initial.check-items (map (share_of g.C.Code.check g.C.Code.ROWS l.r l.column) l.block) l.i l.initial.check-items
