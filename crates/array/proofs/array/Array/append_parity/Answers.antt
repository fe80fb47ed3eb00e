use Rattle.std.proofs.Common.{◌≡◌, ℕ, ◌+◌, ◌-◌, refl, ap, ◌∙◌, arith}
use Rattle.layout.specs.declared.shape.Shape.{Shape}
use Rattle.layout.specs.Header.{header_bytes, with_used}
use Rattle.model.specs.Coding.{width}
use Rattle.array.specs.Calls.{view_of, coding_of}
use Rattle.array.proofs.Folded.{parity-phases}
use Rattle.array.proofs.array.Array.append_parity.Goals as goal

pub returns : goal.returns
returns g c =
    let a = c.args.self.now in
    let p = view_of g.B.Backplane g.C.Code a in
    let K = coding_of g.B.Backplane g.C.Code a in
    let started = c.requires.started in
    let n = c.args.started.now.shape.slots in
    let k = c.args.started.now.shape.columns in
    let w : n ≡ width K = started.width in
    let columns : k ≡ K.k = started.columns in
    let m : n - k ≡ g.C.Code.ROWS = omega arith in
    let then = c.with_used-counted.result in
    let z = c.store_folded.new.self in
    parity-phases K p c.args.started.now.header c.args.stripe c.args.row.now c.requires.holds (λ x. refl) n k w columns m c.cell-head.result c.cell-cell.result then
    c.args.records c.store_folded.result (view_of g.B.Backplane g.C.Code z) z.header c.cell-head.ensures.bytes (c.with_used-counted.ensures ∙ ap (λ (j : ℕ). with_used c.args.started.now.header (c.args.started.now.header.used + (1 + j))) c.checks.ensures)
    (c.cell-cell.ensures.bytes ∙ ap (λ (sh : Shape). header_bytes sh then) started.shape) c.store_folded.ensures
