-- Each outcome of a scan of a checked net, in the terms of the code.
use Rattle.scan.specs.declared.ScanError.TheVariants.{Refused, Spent}
use Rattle.std.specs.Prelude.{Err, Ok}
use Prim.Native.Nat.{ℕ, ◌<◌, ◌≤◌}
use mathlib.Core.Path.{◌≡◌, refl, sym, ap, ◌∙◌}
use mathlib.Core.Bool.{Bool, true, false, cond, not}
use mathlib.Core.List.{List, ◌++◌}
use borrow.Author.Tests.{lt-ltb, le-ltb, le-leb, lt-leb}
use lib.ListN.{length, drop}
use Rattle.theory.specs.Marks.{commands, scan_start}
use Rattle.theory.specs.Scans.{Scan, after, rounds}
use Rattle.theory.specs.Inside.{Inside}
use Rattle.theory.specs.declared.Command.{Command}
use Rattle.theory.specs.Origins.{InsideFrom}
use Rattle.theory.proofs.origins.Statements.{inside_from}
use Rattle.theory.proofs.machine.Starts.{start_long, commands_put_8}
use Rattle.theory.proofs.machine.Frame.{rounds_frame}
use Rattle.theory.proofs.machine.Budgets.{spent_marks}
use Rattle.net.specs.Clauses.{call}
use Rattle.net.specs.Table.{check_net}
use Rattle.net.specs.declared.Refusal.TheVariants.{BadQuestion, ShortBuffer}
use Rattle.net.proofs.NetCheck.{chosen_checked}
use Rattle.scan.specs.Table.{ScanOutcome, scan_outcome, scan_clauses, scan_done}

-- What the check of a net hands to the scan.
pub checked_inside : (o k : ℕ) (ws : List ℕ) (set n : ℕ) → check_net o k ws set ≡ Ok n → InsideFrom n ws × (n ≤ 1024)
checked_inside o k ws set n e =
    let t = chosen_checked o k ws set e in
    (rw t.0 (inside_from o k ws t.1), rw t.0 t.1.few)

-- The outcome of a scan that is over.
abbrev pub scan_end : Scan → ScanOutcome
scan_end s = scan_outcome (cond s.done (Ok s.count) (Err (Spent s.count))) s.marks

-- Where its budget is spent, the marks are those after that many rounds: numbers 6 and 0.
module _ (cs : List Command) (ws m : List ℕ) (budget : ℕ) (past : List ℕ) where
  abbrev ran : Scan
  ran = rounds cs ws 0 budget m

  pub scan_end_lem : scan_end (record { done = ran.done; count = ran.count; marks = ran.marks ++ past })
      ≡ cond (not ran.done) (scan_outcome (Err (Spent budget)) (after cs ws budget m ++ past)) (scan_outcome (Ok ran.count) (ran.marks ++ past))
  scan_end_lem = at ran.done refl
    where
      at : (d : Bool) → ran.done ≡ d
          → scan_end (record { done = d; count = ran.count; marks = ran.marks ++ past })
          ≡ cond (not d) (scan_outcome (Err (Spent budget)) (after cs ws budget m ++ past)) (scan_outcome (Ok ran.count) (ran.marks ++ past))
      at true e = refl
      at false e = let s = spent_marks cs ws m budget e in rw (s.0, s.1)

module _ (n : ℕ) (ws : List ℕ) (x b : ℕ) (m : List ℕ) where
  -- Number 4.
  pub scan_far : n ≤ x → scan_outcome (Err (Refused BadQuestion)) m ≡ call (scan_clauses ws x b m n) (scan_done ws x b m n)
  scan_far h = rw (le-leb n x h)

  module _ (l : x < n) where
    -- Number 5.
    pub scan_short : length m < n → scan_outcome (Err (Refused ShortBuffer)) m ≡ call (scan_clauses ws x b m n) (scan_done ws x b m n)
    scan_short h = rw (lt-leb n x l, lt-ltb (length m) n h)

    -- Numbers 0 and 6: the code scanned from the start with the bytes past the nodes behind it, and was left with the marks m₂.
    pub scan_ran : {d : Bool} {count : ℕ} {m₁ m₂ : List ℕ} → Inside n ws → n ≤ length m → m₁ ≡ scan_start n x ++ drop n m
        → rounds commands ws 0 b m₁ ≡ record { done = d; count = count; marks = m₂ }
        → scan_outcome (cond d (Ok count) (Err (Spent count))) m₂ ≡ call (scan_clauses ws x b m n) (scan_done ws x b m n)
    scan_ran {m₁ = m₁} e h s r =
        let f = rounds_frame (drop n m) commands commands_put_8 ws b 0 (scan_start n x) (rw (start_long n x l) e) in
        rw (lt-leb n x l, le-ltb (length m) n h) (ap scan_end (sym r ∙ ap (rounds commands ws 0 b) s ∙ f) ∙ scan_end_lem commands ws (scan_start n x) b (drop n m))
