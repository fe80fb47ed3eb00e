use Rattle.std.proofs.Common.{◌≡◌, ℕ, ◌-◌, ◌*◌, ◌≤◌, Bool, true, cond, List, length, take, Ok, Err, Result, refl, sym, ap, ◌∙◌, subst, arith}
use Rattle.std.specs.Prelude.{OnOk}
use Rattle.std.specs.Result.{IsOk}
use Rattle.backplane.specs.Meaning.{Bytes}
use Rattle.layout.specs.Stripes.{slot_of}
use Rattle.model.specs.Coding.{zeros}
use Rattle.model.specs.Log.{walk}
use Rattle.model.specs.Row.{settled_with}
use Rattle.model.specs.Rules.{good_of}
use Rattle.parity_log.specs.Codes.{coding}
use Rattle.rows.specs.declared.fault.RowError.{RowError}
use Rattle.rows.specs.declared.fault.RowError.TheVariants.{NoRow}
use Rattle.rows.specs.Columns.{column_in, flagged, RowSolved}
use Rattle.rows.specs.Lost.{lost_flags}
use Rattle.rows.proofs.Filled.{live_of, row-solvable, fills-by}
use Rattle.rows.proofs.row.fill_row.Goals as goal

pub read_columns-requires : goal.read_columns-requires
read_columns-requires g c =
    let p : Bytes = g.B.Backplane.view c.args.plane.now in
    let n = c.args.stripe.columns in
    let f = c.requires.fits in
    let few : n ≤ 16 = omega (arith, f.width, f.high, g.met.C.Code.few.1, c.requires.columns) in
    record {
      fits = record { power = f.power; slots = f.slots ∙ sym c.requires.columns; few = few; within = c.requires.stripe };
      live = λ j h e. live_of n p.live (good_of c.args.stripe.header.now) c.args.stripe.number few j h (ap (λ (z : List Bool). flagged z j) (sym c.lost_columns-lost.ensures) ∙ e);
      room = c.requires.room;
    }

-- a row that can be solved is
solves : (t : Bool) (r : Result (Unit {0}) RowError) → r ≡ cond t (Ok tt) (Err NoRow) → t ≡ true → IsOk r
solves t r e can = let ok : r ≡ Ok tt = e ∙ ap (λ (b : Bool). cond b (Ok tt) (Err NoRow)) can in subst IsOk (sym ok) refl

pub unwrap-requires : goal.unwrap-requires
unwrap-requires g c =
    let n = c.args.shape.slots in
    let s = c.args.stripe.number in
    let good = good_of c.args.stripe.header.now in
    let f = c.requires.fits in
    let p : Bytes = g.B.Backplane.view c.args.plane.now in
    let lost : List Bool = c.lost_columns-lost.result in
    let few : n ≤ 16 = omega (arith, f.width, f.high, g.met.C.Code.few.1) in
    let ls : List Bool = take (n - 0) lost in
    let e : ls ≡ take n (lost_flags n p.live good s) =
    ap (λ (m : ℕ). take m lost) (omega arith) ∙ ap (take n) (c.lost_columns-lost.ensures ∙ ap (λ (m : ℕ). lost_flags m p.live good s) c.requires.columns) in
    let b : List ℕ = c.add_to_row.new.row in
    let room : 512 * n ≤ length b = omega (arith, c.requires.room, few, c.add_to_row.auto.row, c.read_columns.auto.row) in
    solves _ c.solve_row.result c.solve_row.ensures.answer (row-solvable n p.live good s few g.C.Code.ROWS c.args.shape.columns (length b) ls e f.low f.high f.width c.requires.repairable room)

pub returns-clause-row : goal.returns-clause-row
returns-clause-row g c =
    let k = c.args.shape.columns in
    let n = c.args.shape.slots in
    let s = c.args.stripe.number in
    let hd = c.args.stripe.header.now in
    let K = coding g.C.Code k in
    let f = c.requires.fits in
    let p : Bytes = g.B.Backplane.view c.args.plane.now in
    let flags : List Bool = lost_flags n p.live (good_of hd) s in
    let lost : List Bool = c.lost_columns-lost.result in
    let e0 : lost ≡ flags = c.lost_columns-lost.ensures ∙ ap (λ (m : ℕ). lost_flags m p.live (good_of hd) s) c.requires.columns in
    let few : n ≤ 16 = omega (arith, f.width, f.high, g.met.C.Code.few.1) in
    let r1 = c.in_ok-read_columns.ensures in
    let same = c.requires.columns in
    let r2 = c.in_ok-add_to_row.ensures in
    let a : List ℕ = c.read_columns.new.row in
    let b : List ℕ = c.add_to_row.new.row in
    let d : List ℕ = c.solve_row.new.row in
    let ls : List Bool = take (n - 0) lost in
    let e : ls ≡ take n flags = ap (λ (m : ℕ). take m lost) (omega arith) ∙ ap (take n) e0 in
    fills-by g.C.Code k p hd s n f.width a b d ls few
    (λ j l. r1.each j (omega (arith, l, same)) ∙ ap (λ (m : ℕ). cond (flagged lost j) zeros (p.block (slot_of m s j) s)) same ∙ ap (λ (z : List Bool). cond (flagged z j) zeros (p.block (slot_of n s j) s)) e0)
    (λ j l. r2.each j l
    ∙ ap (λ (q : Bytes). cond (flagged lost j) (column_in a j) (settled_with K (walk K q hd.used).log s j (column_in a j))) r1.kept
    ∙ ap (λ (z : List Bool). cond (flagged z j) (column_in a j) (settled_with K (walk K p hd.used).log s j (column_in a j))) e0)
    e
    (subst (λ (r : Result (Unit {0}) RowError). OnOk r (RowSolved g.C.Code.solved k (length ls) ls b d)) c.unwrap.ensures c.solve_row.ensures.solved)
