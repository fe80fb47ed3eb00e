use Rattle.std.proofs.Common.{◌≡◌, ◌-◌, ◌*◌, ◌++◌, take, replicate}
use Rattle.std.specs.List.{flat_map}
use Rattle.layout.specs.Bytes.{le4}
use Rattle.layout.specs.Header.{front_bytes}
use Rattle.layout.proofs.header.Header.cell.Given as goal

abbrev pub invariant-loop-d : goal.invariant-loop-d
invariant-loop-d l = l.cell ≡ (front_bytes l.shape l.self.used ++ flat_map le4 (take l.d l.self.good)) ++ replicate (492 - 4 * l.d) 0
