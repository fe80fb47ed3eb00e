use Rattle.std.proofs.Common.{ℕ, ◌+◌, List, [], ◌∷◌, Some, subst}
use Rattle.backplane.specs.Plane.{to_block, to_cell}
use Rattle.backplane.specs.Meaning.{Bytes}
use Rattle.layout.specs.Header.{header_bytes}
use Rattle.layout.specs.declared.header.Header.{Header}
use Rattle.model.specs.Rules.{shape_of, to_header, rebuilt}
use Rattle.parity_log.specs.Codes.{coding_on}
use Rattle.array.specs.Calls.{view_of, coding_of, Made, Same}
use Rattle.array.proofs.array.Array.rebuild_stripe.Goals as goal

-- the block found and the header made, in the place of the bytes stored
pub returns : goal.returns
returns g c =
    let a = c.args.self.now in
    let p = view_of g.B.Backplane g.C.Code a in
    let K = coding_of g.B.Backplane g.C.Code a in
    let d = c.args.slot in
    let s = c.args.stripe in
    let q = view_of g.B.Backplane g.C.Code c.store_stripe.new.self in
    let u = c.store_stripe.new.self.header in
    let r = c.store_stripe.result in
    let b = c.find_block.new.block in
    let h = c.with_good-header.result in
    let here = subst (λ (x : Bytes). Made ((to_block d s b ∷ (to_cell 0 (header_bytes (shape_of (coding_on g.C.Code x) x) h) ∷ [])) ∷ []) Same (s + 1) (Some h) x r q u) c.find_block.ensures.kept c.store_stripe.ensures in
    let found = subst (λ (x : List ℕ). Made ((to_block d s x ∷ (to_header K p h ∷ [])) ∷ []) Same (s + 1) (Some h) p r q u) c.find_block.ensures.found here in
    subst (λ (x : Header). Made ((to_block d s (rebuilt K p c.args.started.now.header d s) ∷ (to_header K p x ∷ [])) ∷ []) Same (s + 1) (Some x) p r q u) c.with_good-header.ensures found
