use Prim.Native.Nat.{◌+◌, ◌*◌, ◌≤◌}
use mathlib.Core.Path.{◌≡◌, refl, sym, ◌∙◌}
use native.Mathlib.Omega.{arith}
use lib.ListN.{length, take}
use Rattle.std.specs.Slice.Iter.{chunks_exact_rest}
use Rattle.derivation_lines.specs.Flat.{lines_of}
use Rattle.why_line.specs.Text.{lines_text}
use Rattle.why_lines.proofs.Lines.{line_written, lines_written, line_inside, next_left, number_there, word_there, none_left}
use Rattle.why_lines.proofs.put_derivation.Goals as goal

pub loop-n-init : goal.loop-n-init
unfolding lines_text
loop-n-init c =
    let z : c.into_iter-n-iterator.result.count ≡ 0 = cc in
    let r : chunks_exact_rest c.into_iter-n-iterator.result.iter ≡ c.args.list.now = cc in
    (omega arith, cc, rw z r, omega arith, rw z (record { list = refl; size = refl }))

pub put_derived-at-requires-clause-numbers : goal.put_derived-at-requires-clause-numbers
put_derived-at-requires-clause-numbers c =
    let z = c.in-Some.ensures.steps in
    let taken = sym c.loop-n.invariant.2 ∙ z.0.1.0 in
    let four = z.0.1.1 ∙ c.loop-n.invariant.1 in
    let inside = line_inside c.args.list.now c.in-Some.line.now (chunks_exact_rest c.next.new.self.iter) c.loop-n.n-iterator.count taken four in
    let p = c.requires.lines c.loop-n.n-iterator.count inside in
    let there = number_there c.args.list.now c.in-Some.line.now (chunks_exact_rest c.next.new.self.iter) c.loop-n.n-iterator.count taken four in
    (omega (arith, inside, z.1, c.requires.room.0), (rw (there 2 (omega arith)) p.one, rw (there 3 (omega arith)) p.two))

pub put_derived-at-requires-clause-some : goal.put_derived-at-requires-clause-some
put_derived-at-requires-clause-some c =
    let z = c.in-Some.ensures.steps in
    let taken = sym c.loop-n.invariant.2 ∙ z.0.1.0 in
    let four = z.0.1.1 ∙ c.loop-n.invariant.1 in
    let p = c.requires.lines c.loop-n.n-iterator.count (line_inside c.args.list.now c.in-Some.line.now (chunks_exact_rest c.next.new.self.iter) c.loop-n.n-iterator.count taken four) in
    let there = number_there c.args.list.now c.in-Some.line.now (chunks_exact_rest c.next.new.self.iter) c.loop-n.n-iterator.count taken four in
    rw (there 1 (omega arith), there 2 (omega arith), there 3 (omega arith)) p.some

pub loop-n-preserved : goal.loop-n-preserved
loop-n-preserved c =
    let z = c.in-Some.ensures.steps in
    let v = c.loop-n.invariant in
    let taken = sym v.2 ∙ z.0.1.0 in
    let four = z.0.1.1 ∙ v.1 in
    let inside : 4 * c.loop-n.n-iterator.count + 4 ≤ length c.args.list.now = line_inside c.args.list.now c.in-Some.line.now (chunks_exact_rest c.next.new.self.iter) c.loop-n.n-iterator.count taken four in
    let fits : length (lines_text c.args.told c.args.words.now 0 (take c.loop-n.n-iterator.count (lines_of c.args.list.now))) ≤ length c.args.text.now = omega (arith, v.4.size, v.3, c.requires.room) in
    let there = number_there c.args.list.now c.in-Some.line.now (chunks_exact_rest c.next.new.self.iter) c.loop-n.n-iterator.count taken four in (
      omega (arith, z.2),
      z.0.0 ∙ v.1,
      rw z.2 (next_left c.args.list.now c.in-Some.line.now (chunks_exact_rest c.next.new.self.iter) c.loop-n.n-iterator.count taken four),
      omega (arith, z.2, v.3, c.put_derived-at.ensures.1),
      rw z.2
          (line_written c.args.told c.args.words.now c.args.list.now c.args.text.now c.loop-n.n-iterator.count v.4 fits (omega arith)
          (rw (z.1, word_there c.args.list.now c.in-Some.line.now (chunks_exact_rest c.next.new.self.iter) c.loop-n.n-iterator.count taken four, there 1 (omega arith), there 2 (omega arith), there 3 (omega arith)) at c.put_derived-at.ensures.0)),
    )

pub returns : goal.returns
returns c =
    let z = c.in-None.ensures.steps in
    let v = c.loop-n.invariant in
    lines_written c.args.told c.args.words.now c.args.list.now c.args.text.now c.loop-n.n-iterator.count (none_left c.args.list.now _ c.loop-n.n-iterator.count v.2 (omega arith)) v.4
