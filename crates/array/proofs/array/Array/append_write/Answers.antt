use Rattle.std.proofs.Common.{refl, ap, ◌∙◌}
use Rattle.layout.specs.declared.shape.Shape.{Shape}
use Rattle.layout.specs.Header.{header_bytes}
use Rattle.array.specs.Calls.{view_of, coding_of}
use Rattle.array.proofs.Written.{write-phases}
use Rattle.array.proofs.array.Array.append_write.Goals as goal

pub returns : goal.returns
returns g c =
    let a = c.args.self.now in
    let p = view_of g.B.Backplane g.C.Code a in
    let K = coding_of g.B.Backplane g.C.Code a in
    let started = c.requires.started in
    let then = c.with_used-counted.result in
    let z = c.store_counted.new.self in
    write-phases K p c.args.started.now.header c.args.stripe c.args.column (λ x. refl) c.args.started.now.shape.slots c.cell-head.result c.args.delta.now c.args.bytes.now
    c.cell-cell.result then c.store_counted.result (view_of g.B.Backplane g.C.Code z) z.header started.width c.cell-head.ensures.bytes c.with_used-counted.ensures
    (c.cell-cell.ensures.bytes ∙ ap (λ (sh : Shape). header_bytes sh then) started.shape) c.store_counted.ensures
