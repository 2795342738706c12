-- What a call that was not refused was: over a net, from a node, and with the marks and the count of its scan.
use Prim.Native.Nat.{ℕ, ◌+◌, ◌<◌}
use mathlib.Core.Path.{◌≡◌, sym, ap, ◌∙◌}
use mathlib.Core.Bool.{Bool, true, false}
use mathlib.Core.List.{List, ◌++◌}
use native.Mathlib.Omega.{arith}
use lib.ListN.{length, get_or, drop, get_or-append}
use borrow.Author.Tests.{leb-false, not-false, not-true}
use Rattle.std.specs.Prelude.{Err, Ok}
use Rattle.theory.specs.Nets.{Kind, Net}
use Rattle.theory.specs.Marks.{commands, scan_start}
use Rattle.theory.specs.Scans.{scan, full_scan}
use Rattle.theory.specs.Origins.{chosen}
use Rattle.theory.proofs.machine.Budgets.{spent_marks}
use Rattle.theory.proofs.machine.Bounds.{scan_long}
use Rattle.net.proofs.Good.{good_pair, good_kind}
use Rattle.scan.specs.Table.{ScanOutcome, scanned, scan_reply, Scanned}
use Rattle.scan.specs.declared.ScanError.TheVariants as answer
use Rattle.question.specs.Table.{QuestionOutcome, questioned, answer_at, asked_reply, Asked}
use Rattle.question.specs.declared.Answer.{Answer}
use Rattle.promises.proofs.Demand1.{scan_obeys, question_obeys}
use Rattle.promises.proofs.Tests.{past_checks, chosen_of}

-- The marks of a node are not moved by what stands behind the marks of all nodes.
front : (m past : List ℕ) (n v : ℕ) → length m ≡ n → v < n → get_or (m ++ past) v 0 ≡ get_or m v 0
front m past n v e h = get_or-append m past 0 v (omega arith)

-- The word and the count of an answer; of a refusal the word that is given.
abbrev pub word_in : Answer → Asked → Answer
word_in b (Ok (a, count)) = a
word_in b (Err r) = b

abbrev count_in : Asked → ℕ
count_in (Ok (a, count)) = count
count_in (Err r) = 0

module _ (o k : ℕ) (ws : List ℕ) (set : ℕ) where
  module _ (x budget : ℕ) (m : List ℕ) (count : ℕ) where
    -- What a scan that was not refused was: over a net, from a node, with marks as they are said to be.
    pub record ScanRan (done : Bool) : Type 0 where
      pub net : Net o k (chosen set ws)
      pub node : x < o + k
      pub ended : (scan (o + k) (chosen set ws) x budget).done ≡ done
      pub counted : (scan (o + k) (chosen set ws) x budget).count ≡ count
      pub left : (v : ℕ) → v < o + k → get_or (scanned o k ws set x budget m).marks v 0 ≡ get_or (scan (o + k) (chosen set ws) x budget).marks v 0

    -- One that gave a count and is done.
    pub scan_ended : (scanned o k ws set x budget m).answer ≡ Ok count → ScanRan true
    scan_ended e =
        let d = ((scan_obeys o k ws set x budget m).exactly 0).0 (ap (λ (r : Scanned). (scan_reply r).number) e) in
        let l = (scan_obeys o k ws set x budget m).leaves 0 d in
        let net = chosen_of o k ws set ((past_checks o k ws set).0 (d.0, d.1.0, d.1.1.0, d.1.1.1.0)) in
        let node = leb-false (o + k) x d.1.1.1.1.0 in
        record {
          net = net;
          node = node;
          ended = not-false (scan (o + k) (chosen set ws) x budget).done d.1.1.1.1.1.1.0;
          counted = ap (λ (r : Scanned). (scan_reply r).first) (sym (ap (λ (r : ScanOutcome). r.answer) l) ∙ e);
          left = λ v h.
              ap (λ (r : ScanOutcome). get_or r.marks v 0) l
              ∙ front (scan (o + k) (chosen set ws) x budget).marks (drop (o + k) m) (o + k) v (scan_long o k (chosen set ws) net.legal x node budget) h;
        }

    -- One whose budget was spent.
    pub scan_was_spent : (scanned o k ws set x budget m).answer ≡ Err (answer.Spent count) → ScanRan false
    scan_was_spent e =
        let d = ((scan_obeys o k ws set x budget m).exactly 6).0 (ap (λ (r : Scanned). (scan_reply r).number) e) in
        let l = (scan_obeys o k ws set x budget m).leaves 6 d in
        let net = chosen_of o k ws set ((past_checks o k ws set).0 (d.0, d.1.0, d.1.1.0, d.1.1.1.0)) in
        let node = leb-false (o + k) x d.1.1.1.1.0 in
        let spent = not-true (scan (o + k) (chosen set ws) x budget).done d.1.1.1.1.1.1 in
        let t = spent_marks commands (chosen set ws) (scan_start (o + k) x) budget spent in
        record {
          net = net;
          node = node;
          ended = spent;
          counted = t.0 ∙ ap (λ (r : Scanned). (scan_reply r).first) (sym (ap (λ (r : ScanOutcome). r.answer) l) ∙ e);
          left = λ v h.
              ap (λ (r : ScanOutcome). get_or r.marks v 0) l
              ∙ ap (λ (r : List ℕ). get_or (r ++ drop (o + k) m) v 0) (sym t.1)
              ∙ front (scan (o + k) (chosen set ws) x budget).marks (drop (o + k) m) (o + k) v (scan_long o k (chosen set ws) net.legal x node budget) h;
        }

  -- A question that was answered: over a net, about a node and a kind, by a full scan.
  pub record Answered (x y : ℕ) (a : Answer) (count : ℕ) : Type 0 where
    pub net : Net o k (chosen set ws)
    pub node : x < o + k
    pub kind : Kind o k y
    pub word : answer_at (get_or (full_scan (o + k) (chosen set ws) x).marks y 0) ≡ a
    pub counted : (full_scan (o + k) (chosen set ws) x).count ≡ count

  pub question_answered : (x y : ℕ) (m : List ℕ) (a : Answer) (count : ℕ) → (questioned o k ws set x y m).answer ≡ Ok (a, count) → Answered x y a count
  question_answered x y m a count e =
      let d = ((question_obeys o k ws set x y m).exactly 0).0 (ap (λ (r : Asked). (asked_reply r).number) e) in
      let l = (question_obeys o k ws set x y m).leaves 0 d in
      let q : Ok (answer_at (get_or (full_scan (o + k) (chosen set ws) x).marks y 0), (full_scan (o + k) (chosen set ws) x).count) ≡ Ok (a, count) =
      sym (ap (λ (r : QuestionOutcome). r.answer) l) ∙ e in
      let good = (good_pair o (o + k) x y).0 d.1.1.1.1.0 in
      record {
        net = chosen_of o k ws set ((past_checks o k ws set).0 (d.0, d.1.0, d.1.1.0, d.1.1.1.0));
        node = good.node;
        kind = good_kind good;
        word = ap (word_in a) q;
        counted = ap count_in q;
      }
