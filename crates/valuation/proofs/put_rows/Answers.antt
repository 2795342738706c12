use Prim.Native.Nat.{◌*◌, ℕ, ◌+◌, ◌-◌, ◌<◌, ◌≤◌}
use mathlib.Core.Path.{◌≡◌, refl, sym, ap, ◌∙◌}
use mathlib.Core.List.{List, ◌++◌}
use native.Mathlib.Omega.{arith}
use lib.ListN.{length, length-take, length-drop}
use Rattle.theory_laws.specs.Over.{over}
use Rattle.theory_laws.proofs.Over.{written_more}
use Rattle.theory.specs.Origins.{chosen}
use Rattle.theory.specs.Completion.{full_marks}
use Rattle.valuation.specs.Values.{value_row, value_rows}
use Rattle.valuation.proofs.Rows.{row_long, read_row, rows_none, rows_all, rows_more, rows_room}
use Rattle.valuation.proofs.put_rows.Goals as goal

-- At the start of a turn there is room for a row.
room : (o k x n : ℕ) (ws : List ℕ) {at size : ℕ} → x < n → at ≡ length (value_rows o k ws 0 x) → n * k ≤ size → at + k ≤ size
room o k x n ws l e f = omega (arith, e, f, rows_room o k ws x n l)

pub overflow_cast-nodes : goal.overflow_cast-nodes
overflow_cast-nodes c = omega (arith, c.requires.net.few, c.requires.size)

pub loop-x-init : goal.loop-x-init
loop-x-init c =
    let e = rows_none c.args.o c.args.k (chosen c.args.set c.args.words.now) in
    (refl, ap length (sym e), ap (λ q. over q c.args.table.now) (sym e))

pub full_scan-requires : goal.full_scan-requires
full_scan-requires c =
    record {
      net = c.requires.net;
      size = c.requires.size;
      node = omega (arith, c.loop-x-test.true, c.requires.size);
      room = omega (arith, c.loop-x.auto.marks, c.requires.room);
    }

pub slice_bounds-put_row-count : goal.slice_bounds-put_row-count
slice_bounds-put_row-count c =
    let turn : c.loop-x.x < c.args.n = omega (arith, c.loop-x-test.true, c.requires.size) in
    let place : c.loop-x.at + c.args.k ≤ length c.loop-x.table =
    room c.args.o c.args.k c.loop-x.x c.args.n (chosen c.args.set c.args.words.now) turn c.loop-x.invariant.1 (omega (arith, c.loop-x.auto.table, c.requires.fits)) in
    omega (arith, place)

pub put_row-requires : goal.put_row-requires
put_row-requires c =
    let turn : c.loop-x.x < c.args.n = omega (arith, c.loop-x-test.true, c.requires.size) in
    let place : c.loop-x.at + c.args.k ≤ length c.loop-x.table =
    room c.args.o c.args.k c.loop-x.x c.args.n (chosen c.args.set c.args.words.now) turn c.loop-x.invariant.1 (omega (arith, c.loop-x.auto.table, c.requires.fits)) in (
      omega (arith, c.requires.size),
      omega (arith, c.full_scan.ensures.long, c.loop-x.auto.marks, c.requires.room),
      simp (length-take, length-drop) (omega (arith, c.requires.size, place)),
    )

pub overflow_add-at : goal.overflow_add-at
overflow_add-at c =
    let turn : c.loop-x.x < c.args.n = omega (arith, c.loop-x-test.true, c.requires.size) in
    let place : c.loop-x.at + c.args.k ≤ length c.loop-x.table =
    room c.args.o c.args.k c.loop-x.x c.args.n (chosen c.args.set c.args.words.now) turn c.loop-x.invariant.1 (omega (arith, c.loop-x.auto.table, c.requires.fits)) in
    omega (arith, place, c.loop-x.auto.table)

pub loop-x-preserved : goal.loop-x-preserved
loop-x-preserved c =
    let turn : c.loop-x.x < c.args.n = omega (arith, c.loop-x-test.true, c.requires.size) in
    let place : c.loop-x.at + c.args.k ≤ length c.loop-x.table =
    room c.args.o c.args.k c.loop-x.x c.args.n (chosen c.args.set c.args.words.now) turn c.loop-x.invariant.1 (omega (arith, c.loop-x.auto.table, c.requires.fits)) in
    let row : value_row c.full_scan.new.marks c.args.o (c.args.n - c.args.o) ≡ value_row (full_marks c.args.o c.args.k (chosen c.args.set c.args.words.now) c.loop-x.x) c.args.o c.args.k =
    read_row c.args.o c.args.k c.args.n (chosen c.args.set c.args.words.now) c.loop-x.x c.full_scan.new.marks c.requires.size c.full_scan.ensures.nodes in
    let done = value_rows c.args.o c.args.k (chosen c.args.set c.args.words.now) 0 c.loop-x.x in
    let size : c.args.k ≡ length (value_row c.full_scan.new.marks c.args.o (c.args.n - c.args.o)) = omega (arith, row_long c.full_scan.new.marks c.args.o (c.args.n - c.args.o), c.requires.size) in
    let t =
    written_more done (value_row c.full_scan.new.marks c.args.o (c.args.n - c.args.o)) (value_rows c.args.o c.args.k (chosen c.args.set c.args.words.now) 0 (c.loop-x.x + 1)) c.args.table.now c.loop-x.table
    c.put_row.new.table c.loop-x.at c.args.k
    (rows_more c.args.o c.args.k (chosen c.args.set c.args.words.now) c.loop-x.x ∙ ap (λ (q : List ℕ). done ++ q) (sym row))
    (omega (arith, c.loop-x.auto.table, c.loop-x.invariant.1, size, place)) c.loop-x.invariant.1 c.loop-x.invariant.2 size c.put_row.ensures in (
      c.full_scan.ensures.past ∙ c.loop-x.invariant.0,
      t.1,
      t.2,
    )

pub returns : goal.returns
returns c =
    let e : c.loop-x.x ≡ c.args.n = omega (arith, c.loop-x.auto.x-end, c.loop-x-test.false, c.requires.size) in
    record {
      written = c.loop-x.invariant.2 ∙ ap (λ (i : List ℕ). over i c.args.table.now) (ap (value_rows c.args.o c.args.k (chosen c.args.set c.args.words.now) 0) e ∙ rows_all c.args.o c.args.k (chosen c.args.set c.args.words.now) c.args.n c.requires.size);
      past = c.loop-x.invariant.0;
      long = c.loop-x.auto.marks;
    }
