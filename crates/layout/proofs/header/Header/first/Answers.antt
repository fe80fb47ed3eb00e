use Rattle.std.proofs.Common.{◌≡◌, cond, ltb, map, rules}
use Rattle.std.specs.List.{range_with_len}
use Rattle.layout.proofs.Filling.{filled}
use Rattle.layout.proofs.header.Header.first.Goals as goal

pub returns : goal.returns
returns c =
    let sh = c.args.shape.now in
    let e : c.from_fn.result ≡ map (λ d. cond (ltb d sh.slots) sh.blocks 0) (range_with_len 0 16) = filled _ _ (λ d. cond (ltb d sh.slots) sh.blocks 0) 16 (λ i y q h k. search rules) c.from_fn.result c.from_fn.ensures.items in
    λ i. record { used = 0; good = e i }
