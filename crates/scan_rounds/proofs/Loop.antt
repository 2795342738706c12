-- Rounds over marks that are written for the passes: how their loop goes on, and where it ends.
use Prim.Native.Nat.{ℕ, ◌+◌, ◌-◌, ◌≤◌, ◌<◌}
use mathlib.Core.Path.{◌≡◌}
use mathlib.Core.Bool.{Bool, true, false}
use mathlib.Core.List.{List}
use lib.ListN.{length}
use Rattle.theory.specs.Marks.{commands, round}
use Rattle.theory.specs.Scans.{rounds}
use Rattle.theory.specs.Growth.{Set}
use Rattle.theory.specs.Origins.{chosen, InsideFrom}
use Rattle.theory.specs.declared.Command.{Command}
use Rattle.theory.proofs.machine.Rounds.{loop_last, loop_more}
use Rattle.theory.proofs.machine.Starts.{commands_put}
use Rattle.scan_start.specs.Starts.{Low}
use Rattle.scan_lanes.specs.Codes.{on_nodes, is_code, marks_of, Written}
use Rattle.scan_lanes.specs.Passes.{isnt_commands}
use Rattle.scan_round.specs.Quiet.{Quiet}
use Rattle.scan_round.proofs.Written.{written_back, marks_low}
use Rattle.scan_round.proofs.Turns.{ran_marks, ran_written}

-- A round has come from the bytes e to the bytes a.
module _ (n os : ℕ) (words e : List ℕ) (inside : InsideFrom n words) (room : n ≤ length e) (a : List ℕ) (w : a ≡ on_nodes is_code n (round commands (chosen os words) (marks_of n e))) where
  abbrev ws : List ℕ
  ws = chosen os words

  marks_after_lem : marks_of n a ≡ round commands ws (marks_of n e)
  marks_after_lem = ran_marks n os words e inside room commands commands_put a w

  pub after_written : Written n a
  after_written = ran_written n os words e inside room commands commands_put a w

  pub after_quiet : Quiet isnt_commands ws (round commands ws (marks_of n e)) → Quiet isnt_commands ws (marks_of n a)
  after_quiet q = rw marks_after_lem q

  -- It was round k + 1 of a budget b: it set nothing, or the loop goes on.
  module _ (k b : ℕ) (h : k < b) {f : Bool} (s : Set f (marks_of n e) (round commands ws (marks_of n e))) where
    set_after : Set f (marks_of n e) (marks_of n a)
    set_after = rw marks_after_lem s

    pub round_last : f ≡ false → rounds commands ws k (b - k) (marks_of n e) ≡ record { done = true; count = k + 1; marks = marks_of n a }
    round_last = loop_last commands ws k b (marks_of n e) (marks_of n a) h marks_after_lem set_after

    pub round_more : f ≡ true → rounds commands ws k (b - k) (marks_of n e) ≡ rounds commands ws (k + 1) (b - (k + 1)) (marks_of n a)
    round_more = loop_more commands ws k b (marks_of n e) (marks_of n a) h marks_after_lem set_after

-- Rounds that went from the bytes e, which the marks m are written as, to the bytes a, whose marks are b, went from m to b.
module _ (n : ℕ) (m e a b : List ℕ) (p : b ≡ marks_of n a) where
  pub plain_rounds : (cs : List Command) (ws : List ℕ) (k : ℕ) (d : Bool) (i : ℕ) → Low n m → e ≡ on_nodes is_code n m
      → rounds cs ws 0 k (marks_of n e) ≡ record { done = d; count = i; marks = marks_of n a } → rounds cs ws 0 k m ≡ record { done = d; count = i; marks = b }
  plain_rounds cs ws k d i low w h = rw p (rw (written_back n e m w low) at h)

  pub plain_low : n ≤ length a → Low n b
  plain_low r = rw p (marks_low n a r)
