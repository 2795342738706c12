-- Links stand in any order and a repeated word counts once: over two nets of which the same words are chosen a scan, a question and a screenful of questions do the same.
-- The completion, the clash test, the reason and the reason check stand in `Reordered`.
use Prim.Native.Nat.{ℕ, zero, suc, ◌+◌, ◌<◌}
use mathlib.Core.Path.{◌≡◌, refl, sym, ap, ◌∙◌}
use mathlib.Core.Bool.{Bool, true, false, cond}
use mathlib.Core.List.{List, ◌++◌}
use native.Mathlib.Omega.{arith}
use lib.Dec.{ltb}
use lib.ListN.{length, get_or, drop}
use borrow.Author.Tests.{leb-false}
use Rattle.std.specs.Prelude.{Err, Ok}
use Rattle.theory.specs.Nets.{Net, AllIn}
use Rattle.theory.specs.Origins.{chosen}
use Rattle.theory.specs.Marks.{commands, scan_start}
use Rattle.theory.specs.Scans.{Scan, scan, full_budget, full_scan}
use Rattle.theory.proofs.Inside.{legal_inside}
use Rattle.theory.proofs.machine.Order.{rounds_order}
use Rattle.theory.proofs.machine.Starts.{start_long, commands_put_8}
use Rattle.net.specs.Table.{bad_pair}
use Rattle.net.proofs.NetCheck.{net_is_checked}
use Rattle.scan.specs.Table.{ScanOutcome, scan_outcome, bad_start, scan_clauses, scan_done, scanned}
use Rattle.scan.proofs.Outcomes.{scan_end, scan_end_lem}
use Rattle.scan.specs.declared.ScanError.TheVariants as answer
use Rattle.net.specs.declared.Refusal.{Refusal}
use Rattle.net.proofs.OnNet.{gone_on}
use Rattle.net.proofs.Good.{good_pair}
use Rattle.question.specs.Table.{QuestionOutcome, question_outcome, question_clauses, question_done, questioned, read_at, answer_at, answer_number}
use Rattle.theory_laws.specs.Over.{over}
use Rattle.questions.specs.Pairs.{pairs_in, subject_at, kind_at}
use Rattle.questions.specs.Table.{QuestionsOutcome, questions_outcome, bad_pairs, answer_byte, marks_after, answers_from, marks_from, questions_clauses, questions_done, questioned_all}
use Rattle.questions.specs.declared.PairsError.TheVariants as askedAll
use Rattle.promises.specs.Engines.{Read}
use Rattle.promises.proofs.Tests.{chosen_of}

-- The same after two tests, where it is the same if the first does not apply.
pub after_tests : {A : Type 0} (a b : Bool) (u v : A) {r q : A} → (a ≡ false → r ≡ q) → cond a u (cond b v r) ≡ cond a u (cond b v q)
after_tests true b u v e = refl
after_tests false true u v e = refl
after_tests false false u v e = e refl

-- The rounds of a scan of plain words.
pub rounds_same : (o k : ℕ) (ws vs : List ℕ) → Net o k ws → Net o k vs → AllIn ws vs → AllIn vs ws → (x budget : ℕ) → x < o + k → scan (o + k) ws x budget ≡ scan (o + k) vs x budget
rounds_same o k ws vs n p to from x budget h =
    rounds_order (o + k) ws vs (legal_inside o k ws n.legal) (legal_inside o k vs p.legal) to from commands commands_put_8 budget 0 (scan_start (o + k) x)
    (omega (arith, start_long (o + k) x h))

-- Two nets, each read with its set, of which the same words are chosen.
module _ (o k : ℕ) (ws : List ℕ) (set : ℕ) (vs : List ℕ) (set' : ℕ) (n : Read o k ws set) (p : Read o k vs set') (to : AllIn (chosen set ws) (chosen set' vs)) (from : AllIn (chosen set' vs) (chosen set ws)) where
  same : (x budget : ℕ) → x < o + k → scan (o + k) (chosen set ws) x budget ≡ scan (o + k) (chosen set' vs) x budget
  same = rounds_same o k (chosen set ws) (chosen set' vs) (chosen_of o k ws set n) (chosen_of o k vs set' p) to from

  -- The scan, its count among it.
  pub scan_order : (x budget : ℕ) (m : List ℕ) → scanned o k ws set x budget m ≡ scanned o k vs set' x budget m
  scan_order x budget m =
      let over-past : Scan → ScanOutcome = λ s. scan_end (record { done = s.done; count = s.count; marks = s.marks ++ drop (o + k) m }) in
      let refused : Refusal → ScanOutcome = λ r. scan_outcome (Err (answer.Refused r)) m in
      sym (gone_on refused o k ws set (scan_clauses (chosen set ws) x budget m) (scan_done (chosen set ws) x budget m) (net_is_checked o k ws set n.allowed n.net) refl)
      ∙ after_tests (bad_start (o + k) x) (ltb (length m) (o + k)) _ _
      (λ e. sym (scan_end_lem commands (chosen set ws) (scan_start (o + k) x) budget (drop (o + k) m))
      ∙ ap over-past (same x budget (leb-false (o + k) x e))
      ∙ scan_end_lem commands (chosen set' vs) (scan_start (o + k) x) budget (drop (o + k) m))
      ∙ gone_on refused o k vs set' (scan_clauses (chosen set' vs) x budget m) (scan_done (chosen set' vs) x budget m) (net_is_checked o k vs set' p.allowed p.net) refl

  -- The question.
  pub question_order : (x y : ℕ) (m : List ℕ) → questioned o k ws set x y m ≡ questioned o k vs set' x y m
  question_order x y m =
      let refused : Refusal → QuestionOutcome = λ r. question_outcome (Err r) m in
      sym (gone_on refused o k ws set (question_clauses o x y m) (question_done (chosen set ws) x y m) (net_is_checked o k ws set n.allowed n.net) refl)
      ∙ after_tests (bad_pair o (o + k) x y) (ltb (length m) (o + k)) _ _
      (λ e. ap (λ (s : Scan). read_at y s (drop (o + k) m)) (same x (full_budget (o + k)) ((good_pair o (o + k) x y).0 e).node))
      ∙ gone_on refused o k vs set' (question_clauses o x y m) (question_done (chosen set' vs) x y m) (net_is_checked o k vs set' p.allowed p.net) refl

  -- A byte, and the marks after a pair.
  abbrev left : List ℕ
  left = chosen set ws

  abbrev right : List ℕ
  right = chosen set' vs

  byte_same : (x y : ℕ) → answer_byte o (o + k) left x y ≡ answer_byte o (o + k) right x y
  byte_same x y = at (bad_pair o (o + k) x y) refl
    where
      at : (bad : Bool) → bad_pair o (o + k) x y ≡ bad
          → cond bad 255 (answer_number (answer_at (get_or (full_scan (o + k) left x).marks y 0))) ≡ cond bad 255 (answer_number (answer_at (get_or (full_scan (o + k) right x).marks y 0)))
      at true e = refl
      at false e = ap (λ (s : Scan). answer_number (answer_at (get_or s.marks y 0))) (same x (full_budget (o + k)) ((good_pair o (o + k) x y).0 e).node)

  marks_same : (x y : ℕ) (m : List ℕ) → marks_after o (o + k) left x y m ≡ marks_after o (o + k) right x y m
  marks_same x y m = at (bad_pair o (o + k) x y) refl
    where
      at : (bad : Bool) → bad_pair o (o + k) x y ≡ bad → cond bad m ((full_scan (o + k) left x).marks ++ drop (o + k) m) ≡ cond bad m ((full_scan (o + k) right x).marks ++ drop (o + k) m)
      at true e = refl
      at false e = ap (λ (s : Scan). s.marks ++ drop (o + k) m) (same x (full_budget (o + k)) ((good_pair o (o + k) x y).0 e).node)

  -- So of all pairs.
  all_bytes_same : (ps : List ℕ) (i j : ℕ) → answers_from o (o + k) left ps i j ≡ answers_from o (o + k) right ps i j
  unfolding answers_from
  all_bytes_same ps i zero = refl
  all_bytes_same ps i (suc j) = rw (byte_same (subject_at ps i) (kind_at ps i), all_bytes_same ps (suc i) j)

  all_marks_same : (ps : List ℕ) (i j : ℕ) (m : List ℕ) → marks_from o (o + k) left ps i j m ≡ marks_from o (o + k) right ps i j m
  unfolding marks_from
  all_marks_same ps i zero m = refl
  all_marks_same ps i (suc j) m =
      ap (marks_from o (o + k) left ps (suc i) j) (marks_same (subject_at ps i) (kind_at ps i) m) ∙ all_marks_same ps (suc i) j (marks_after o (o + k) right (subject_at ps i) (kind_at ps i) m)

  -- The screenful.
  pub questions_order : (ps bs m : List ℕ) → questioned_all o k ws set ps bs m ≡ questioned_all o k vs set' ps bs m
  questions_order ps bs m =
      let refused : Refusal → QuestionsOutcome = λ r. questions_outcome (Err (askedAll.Refused r)) bs m in
      sym (gone_on refused o k ws set (questions_clauses ps bs m) (questions_done o left ps bs m) (net_is_checked o k ws set n.allowed n.net) refl)
      ∙ after_tests (bad_pairs (length ps) (length bs)) (ltb (length m) (o + k)) _ _
      (λ e. λ i. record { answer = Ok tt; answers = over (all_bytes_same ps 0 (pairs_in ps) i) bs; marks = all_marks_same ps 0 (pairs_in ps) m i })
      ∙ gone_on refused o k vs set' (questions_clauses ps bs m) (questions_done o right ps bs m) (net_is_checked o k vs set' p.allowed p.net) refl
