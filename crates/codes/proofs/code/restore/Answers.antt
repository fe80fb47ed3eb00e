use Rattle.std.proofs.Common.{is_ok, rules}
use Rattle.codes.specs.Code.{Bytes, Solved}
use Rattle.codes.proofs.Unique.{call_fits, call-only, call-restored}
use Rattle.codes.proofs.code.restore.Goals as goal

pub returns : goal.returns
returns g c =
    let check = g.C.Code.check in
    let rows = g.C.Code.ROWS in
    let solved = g.C.Code.solved in
    let apart = g.met.C.Code.apart in
    let solves = g.met.C.Code.solves in
    let bytes : Bytes c.args.row.now = λ j. search rules in
    let done : Solved rows solved c.args.k c.args.row.now c.args.lost.now (is_ok c.solve.result) c.solve.new.row = c.solve.ensures.solved in
    record {
      solved = done;
      fault = c.solve.ensures.fault;
      fits = call_fits check rows solved apart solves c.args.k c.args.row.now c.args.lost.now (is_ok c.solve.result) c.solve.new.row bytes done;
      only = call-only check rows solved apart solves c.args.k c.args.row.now c.args.lost.now (is_ok c.solve.result) c.solve.new.row bytes done;
      restored = call-restored check rows solved apart solves c.args.k c.args.row.now c.args.lost.now (is_ok c.solve.result) c.solve.new.row bytes done;
    }
