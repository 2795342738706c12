use Prim.Native.Nat.{ℕ, ◌+◌, ◌-◌}
use mathlib.Core.Path.{◌≡◌, refl, sym, ap, ◌∙◌}
use mathlib.Core.List.{List, ◌++◌}
use native.Mathlib.Omega.{arith}
use lib.ListN.{length, length-take, length-drop}
use Rattle.theory_laws.specs.Over.{over}
use Rattle.theory.specs.Origins.{chosen}
use Rattle.theory.specs.Completion.{row, rows, complete}
use Rattle.completion_list.proofs.Listing.{read_row, rows_none, rows_all, rows_more, rows_room}
use Rattle.theory_laws.proofs.Over.{written_more}
use Rattle.completion_list.proofs.write_rows.Goals as goal

pub loop-x-init : goal.loop-x-init
loop-x-init c =
    let e = rows_none c.args.o c.args.k (chosen c.args.set c.args.words.now) in
    (refl, ap length (sym e), ap (λ q. over q c.args.list.now) (sym e))

pub write_row-size-requires : goal.write_row-size-requires
write_row-size-requires c = (
  omega (arith, c.requires.size),
  omega (arith, c.requires.net.few, c.requires.size),
  c.loop-x-test.true,
  omega (arith, c.full_scan.ensures.long, c.loop-x.auto.marks, c.requires.room),
  simp (length-take, length-drop) (omega (arith, ap length (read_row c.args.o c.args.k c.args.n (chosen c.args.set c.args.words.now) c.loop-x.x c.full_scan.new.marks c.requires.size c.full_scan.ensures.nodes c.loop-x.x), c.loop-x.auto.list, c.loop-x.invariant.1, c.requires.fits, rows_room c.args.o c.args.k (chosen c.args.set c.args.words.now) c.loop-x.x c.args.n c.loop-x-test.true c.requires.size)),
)

pub loop-x-preserved : goal.loop-x-preserved
loop-x-preserved c =
    let done = rows c.args.o c.args.k (chosen c.args.set c.args.words.now) 0 c.loop-x.x in
    let t =
    written_more done (row c.loop-x.x c.full_scan.new.marks c.args.o (c.args.n - c.args.o)) (rows c.args.o c.args.k (chosen c.args.set c.args.words.now) 0 (c.loop-x.x + 1)) c.args.list.now c.loop-x.list
    c.write_row-size.new.list c.loop-x.at c.write_row-size.result
    (rows_more c.args.o c.args.k (chosen c.args.set c.args.words.now) c.loop-x.x ∙ ap (λ (q : List ℕ). done ++ q) (sym (read_row c.args.o c.args.k c.args.n (chosen c.args.set c.args.words.now) c.loop-x.x c.full_scan.new.marks c.requires.size c.full_scan.ensures.nodes c.loop-x.x)))
    (omega (arith, c.loop-x.auto.list, c.loop-x.invariant.1, ap length (read_row c.args.o c.args.k c.args.n (chosen c.args.set c.args.words.now) c.loop-x.x c.full_scan.new.marks c.requires.size c.full_scan.ensures.nodes c.loop-x.x), c.loop-x.auto.list, c.loop-x.invariant.1, c.requires.fits, rows_room c.args.o c.args.k (chosen c.args.set c.args.words.now) c.loop-x.x c.args.n c.loop-x-test.true c.requires.size)) c.loop-x.invariant.1 c.loop-x.invariant.2 c.write_row-size.ensures.size c.write_row-size.ensures.written in (
      c.full_scan.ensures.past ∙ c.loop-x.invariant.0,
      t.1,
      t.2,
    )

all : (c : goal.After-loop-x) → rows c.args.o c.args.k (chosen c.args.set c.args.words.now) 0 c.loop-x.x ≡ complete c.args.o c.args.k (chosen c.args.set c.args.words.now)
all c =
    let e : c.loop-x.x ≡ c.args.n = omega arith in
    ap (rows c.args.o c.args.k (chosen c.args.set c.args.words.now) 0) e ∙ rows_all c.args.o c.args.k (chosen c.args.set c.args.words.now) c.args.n c.requires.size

pub returns-clause-counted : goal.returns-clause-counted
returns-clause-counted c = c.loop-x.invariant.1 ∙ ap length (all c)

pub returns-clause-written : goal.returns-clause-written
returns-clause-written c = c.loop-x.invariant.2 ∙ ap (λ (i : List ℕ). over i c.args.list.now) (all c)
