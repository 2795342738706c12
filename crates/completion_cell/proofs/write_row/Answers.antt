use Prim.Native.Nat.{ℕ, ◌+◌, ◌-◌, ◌≤◌, ◌<◌}
use mathlib.Core.List.{List}
use mathlib.Core.Path.{◌≡◌, sym, ap}
use native.Mathlib.Omega.{arith}
use lib.ListN.{length, get_or, length-take, length-drop}
use Rattle.theory_laws.specs.Over.{over}
use Rattle.theory.specs.Completion.{row, cell}
use Rattle.completion_cell.proofs.Rows.{row_none, row_more, row_room}
use Rattle.theory_laws.proofs.Over.{written_more}
use Rattle.completion_cell.proofs.write_row.Goals as goal

-- At a turn's start there is room for a cell.
room : (x : ℕ) (m : List ℕ) (o y n a l k : ℕ) → o ≤ y → y < n → a ≡ length (row x m o (y - o)) → length (row x m o (n - o)) ≤ k → l ≡ k
    → a + length (cell x y (get_or m y 0)) ≤ l
room x m o y n a l k h t e r f = omega (arith, row_room x m o y n h t)

pub loop-y-init : goal.loop-y-init
loop-y-init c =
    let e = row_none c.args.x c.args.marks.now c.args.o in
    (ap length (sym e), ap (λ q. over q c.args.list.now) (sym e))

pub write_cell-put-requires : goal.write_cell-put-requires
write_cell-put-requires c =
    (omega (arith, c.requires.1, c.requires.2), omega (arith, c.loop-y-test.true, c.requires.1), simp (length-take, length-drop) (omega (arith, room _ _ _ _ _ _ _ _ c.loop-y.auto.y c.loop-y-test.true c.loop-y.invariant.0 c.requires.4 c.loop-y.auto.list)))

pub loop-y-preserved : goal.loop-y-preserved
loop-y-preserved c =
    let b = get_or c.args.marks.now c.loop-y.y 0 in
    let t =
    written_more (row c.args.x c.args.marks.now c.args.o (c.loop-y.y - c.args.o)) (cell c.args.x c.loop-y.y b) (row c.args.x c.args.marks.now c.args.o (c.loop-y.y + 1 - c.args.o)) c.args.list.now c.loop-y.list
    c.write_cell-put.new.list c.loop-y.at c.write_cell-put.result (row_more c.args.x c.args.marks.now c.args.o c.loop-y.y c.args.n c.loop-y.auto.y c.loop-y-test.true)
    (omega (arith, c.loop-y.auto.list, c.loop-y.invariant.0, room _ _ _ _ _ _ _ _ c.loop-y.auto.y c.loop-y-test.true c.loop-y.invariant.0 c.requires.4 c.loop-y.auto.list)) c.loop-y.invariant.0 c.loop-y.invariant.1 c.write_cell-put.ensures.size c.write_cell-put.ensures.written in
    (t.1, t.2)
