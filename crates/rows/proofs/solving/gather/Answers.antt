use Rattle.std.proofs.Common.{◌≡◌, ℕ, ◌+◌, ◌*◌, length, get_or, set, sym, ap, ◌∙◌, arith}
use Rattle.std.proofs.lemmas.List.Edits.{fill_by_more}
use Rattle.std.proofs.lemmas.List.FromFn.{fill_by_all}
use Rattle.rows.specs.Columns.{column_in}
use Rattle.rows.proofs.Placed.{column-byte}
use Rattle.rows.proofs.solving.gather.Goals as goal

pub loop-c-preserved : goal.loop-c-preserved
loop-c-preserved c =
    let f : ℕ → ℕ = λ j. get_or (column_in c.args.row.now j) c.args.i 0 in
    let i = c.loop-c.c in
    let e : get_or c.args.row.now (512 * i + c.args.i) 0 ≡ f i = sym (column-byte c.args.row.now i c.args.i c.requires.place) in
    λ j h. ap (λ (v : ℕ). get_or (set c.loop-c.into i v) j 0) e ∙ fill_by_more f c.loop-c.into i 0 (omega arith) c.loop-c.invariant j h

pub returns : goal.returns
returns c = fill_by_all (λ j. get_or (column_in c.args.row.now j) c.args.i 0) c.loop-c.into (length c.args.into.now) 0 (omega arith) (λ k h. c.loop-c.invariant k (omega arith))
