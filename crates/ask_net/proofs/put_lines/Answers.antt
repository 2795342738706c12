use Prim.Native.Nat.{ℕ, ◌+◌, ◌≤◌}
use mathlib.Core.Path.{◌≡◌, refl}
use native.Mathlib.Omega.{arith}
use lib.ListN.{length, length-replicate}
use Rattle.net.proofs.NetCheck.{chosen_checked}
use Rattle.text_field.proofs.Writing.{rest, room}
use Rattle.ask_net.specs.Lines.{lines_of}
use Rattle.ask_net.proofs.Asking.{asked_checked}
use Rattle.ask_net.proofs.Lines.{line_written, lines_written}
use Rattle.ask_net.proofs.put_lines.Goals as goal

pub loop-i-init : goal.loop-i-init
unfolding lines_of
loop-i-init c = (length-replicate {A = ℕ} 1024 0, (omega arith, (record { list = refl; size = refl }, λ h. absurd (omega (arith, h)))))

pub ask_pair-turn-requires : goal.ask_pair-turn-requires
ask_pair-turn-requires c =
    let t = chosen_checked c.args.o c.args.k c.args.words.now c.args.set c.requires.net in
    record {
      net = t.1;
      size = t.0;
      room = omega (arith, t.0, t.1.few, c.loop-i.invariant.0);
      known = c.loop-i.invariant.1.1.1;
    }

pub slice_bounds-put_line-count : goal.slice_bounds-put_line-count
slice_bounds-put_line-count c =
    let fits-c : length (lines_of c.args.o c.args.k c.args.words.now c.args.set c.loop-i.i c.args.questions.now)
    ≤ length c.args.text.now = omega (arith, c.loop-i.invariant.1.1.0.size) in
    let left_over-c : (length c.loop-i.text ≡ length c.args.text.now)
    × ((c.loop-i.at + 31 ≤ length c.loop-i.text) × (31 ≤ length (rest c.loop-i.at c.loop-i.text))) = let left = room c.loop-i.invariant.1.1.0 (fits-c) in
    (omega arith, (omega arith, omega arith)) in
    omega (arith, left_over-c)

pub put_line-at-requires : goal.put_line-at-requires
put_line-at-requires c =
    let fits-c : length (lines_of c.args.o c.args.k c.args.words.now c.args.set c.loop-i.i c.args.questions.now)
    ≤ length c.args.text.now = omega (arith, c.loop-i.invariant.1.1.0.size) in
    let left_over-c : (length c.loop-i.text ≡ length c.args.text.now)
    × ((c.loop-i.at + 31 ≤ length c.loop-i.text) × (31 ≤ length (rest c.loop-i.at c.loop-i.text))) = let left = room c.loop-i.invariant.1.1.0 (fits-c) in
    (omega arith, (omega arith, omega arith)) in
    (c.u16_at-x.ensures.1, (c.u16_at-y.ensures.1, omega (arith, left_over-c)))

pub overflow_add-at : goal.overflow_add-at
overflow_add-at c =
    let fits-c : length (lines_of c.args.o c.args.k c.args.words.now c.args.set c.loop-i.i c.args.questions.now)
    ≤ length c.args.text.now = omega (arith, c.loop-i.invariant.1.1.0.size) in
    let left_over-c : (length c.loop-i.text ≡ length c.args.text.now)
    × ((c.loop-i.at + 31 ≤ length c.loop-i.text) × (31 ≤ length (rest c.loop-i.at c.loop-i.text))) = let left = room c.loop-i.invariant.1.1.0 (fits-c) in
    (omega arith, (omega arith, omega arith)) in
    omega (arith, left_over-c, c.put_line-at.ensures.1)

pub loop-i-preserved : goal.loop-i-preserved
loop-i-preserved c =
    let fits-c : length (lines_of c.args.o c.args.k c.args.words.now c.args.set c.loop-i.i c.args.questions.now)
    ≤ length c.args.text.now = omega (arith, c.loop-i.invariant.1.1.0.size) in
    let line =
    line_written c.args.o c.args.k c.args.words.now c.args.set c.args.questions.now c.args.text.now c.loop-i.i c.loop-i.invariant.1.1.0 (fits-c)
    c.u16_at-x.ensures.0 c.u16_at-y.ensures.0
    (asked_checked c.args.o c.args.k c.args.n c.args.words.now c.args.set _ _ c.loop-i.marks c.requires.net c.loop-i.invariant.0 c.ask_pair-turn.ensures.asked) c.put_line-at.ensures.0 in
    (omega arith, (omega arith, (line, c.ask_pair-turn.ensures.known)))

pub returns : goal.returns
returns c =
    lines_written c.args.o c.args.k c.args.words.now c.args.set c.args.questions.now c.args.text.now (omega arith) c.loop-i.invariant.1.1.0
