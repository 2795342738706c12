-- The full scan, in the terms of the code.
use Rattle.scan.specs.declared.ScanError.TheVariants.{Refused, Spent}
use Rattle.std.specs.Prelude.{Err, Ok}
use Prim.Native.Nat.{ℕ, ◌+◌, ◌<◌, ◌≤◌}
use mathlib.Core.Path.{◌≡◌, refl, sym, ap, subst, ◌∙◌}
use mathlib.Core.Bool.{Bool, true, false, cond}
use mathlib.Core.List.{List, ◌++◌}
use native.Mathlib.Omega.{arith}
use borrow.Author.Tests.{le-ltb, lt-leb}
use lib.ListN.{length, take, drop}
use lib.Seq.{take_at, drop_at, length_front, length-take-le}
use Rattle.theory.specs.Nets.{Net}
use Rattle.theory.specs.Marks.{commands, scan_start}
use Rattle.theory.specs.Scans.{full_budget, full_scan}
use Rattle.theory.specs.Origins.{NetFrom, InsideFrom}
use Rattle.theory.proofs.origins.Statements.{inside_from}
use Rattle.theory.proofs.machine.Bounds.{scan_long}
use Rattle.net.specs.Clauses.{call}
use Rattle.scan.proofs.Outcomes.{scan_end, scan_end_lem}
use Rattle.scan.specs.Table.{ScanOutcome, scan_outcome, scan_clauses, scan_done}
use Rattle.scan.specs.Table.{Scanned}

-- What the loop over links asks of a net.
pub net_inside : (o k n : ℕ) (ws : List ℕ) → n ≡ o + k → NetFrom o k ws → InsideFrom n ws × (n ≤ 1024)
net_inside o k n ws e h = (rw e (inside_from o k ws h), rw e h.few)

-- The count that an answer carries.
abbrev pub count_of : Scanned → ℕ
count_of (Ok c) = c
count_of (Err (Spent c)) = c
count_of (Err (Refused r)) = 0

count_ran : (d : Bool) (c : ℕ) → count_of (cond d (Ok c) (Err (Spent c))) ≡ c
count_ran true c = refl
count_ran false c = refl

-- What the code is left with where it scanned with the full budget: the answer r and the marks m'.
module _ (o k n : ℕ) (ws : List ℕ) (net : Net o k ws) (e : n ≡ o + k) (x : ℕ) (h : x < n) (m : List ℕ) (l : n ≤ length m) {r : Scanned} {m' : List ℕ}
    (ran : scan_outcome r m' ≡ call (scan_clauses ws x (full_budget n) m n) (scan_done ws x (full_budget n) m n)) where
  full_ran : scan_outcome r m' ≡ scan_end (record { done = (full_scan n ws x).done; count = (full_scan n ws x).count; marks = (full_scan n ws x).marks ++ drop n m })
  full_ran = ran ∙ rw (lt-leb n x h, le-ltb (length m) n l) (sym (scan_end_lem commands ws (scan_start n x) (full_budget n) (drop n m)))

  full_count : count_of r ≡ (full_scan n ws x).count
  full_count = ap (λ (q : ScanOutcome). count_of q.answer) full_ran ∙ count_ran (full_scan n ws x).done (full_scan n ws x).count

  full_marks_lem : m' ≡ (full_scan n ws x).marks ++ drop n m
  full_marks_lem = ap (λ (q : ScanOutcome). q.marks) full_ran

  full_long : length (full_scan n ws x).marks ≡ n
  full_long = subst (λ (i : ℕ). length (full_scan i ws x).marks ≡ i) (sym e) (scan_long o k ws net.legal x (omega arith) (full_budget (o + k)))

  -- The count, the marks of the nodes, the bytes past them as they were, and as many bytes as there were.
  pub full_left : (count_of r ≡ (full_scan n ws x).count) × ((take n m' ≡ (full_scan n ws x).marks) × ((drop n m' ≡ drop n m) × (length m' ≡ length m)))
  full_left = (
    full_count,
    (
      ap (take n) full_marks_lem ∙ take_at (full_scan n ws x).marks (drop n m) n full_long,
      (
        ap (drop n) full_marks_lem ∙ drop_at (full_scan n ws x).marks (drop n m) n full_long,
        ap length full_marks_lem ∙ length_front m (full_scan n ws x).marks n (full_long ∙ sym (length-take-le n m l)),
      ),
    ),
  )
