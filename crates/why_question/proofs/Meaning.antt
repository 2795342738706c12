-- What is printed for a question about an accepted net: the line of `ask`, and below it the lines that derive what the answer says.
use Rattle.std.specs.Prelude.{Err, Ok}
use Prim.Native.Nat.{ℕ, ◌+◌, ◌≤◌}
use mathlib.Core.Path.{◌≡◌, refl, sym, ap, ◌∙◌}
use mathlib.Core.Bool.{Bool, true, false, cond}
use mathlib.Core.List.{List, ◌++◌, append-nil}
use mathlib.Core.Logic.{◌↔◌}
use native.Mathlib.Omega.{arith}
use borrow.Author.Tests.{le-ltb}
use lib.ListN.{length, get_or, length-replicate}
use Rattle.theory_laws.proofs.Booleans.{contradiction}
use Rattle.theory.specs.Words.{Sign, is, isnt}
use Rattle.theory.specs.Nets.{Links}
use Rattle.theory.specs.Support.{Supported}
use Rattle.theory.specs.Marks.{blank, says_yes, says_no, marker_of, At}
use Rattle.theory.specs.Scans.{full_scan}
use Rattle.theory.specs.Completion.{full_marks}
use Rattle.theory.specs.Origins.{set_limit, chosen, NetFrom}
use Rattle.theory.proofs.origins.Statements.{chosen_net}
use Rattle.theory.proofs.completion.Completing.{full_exact}
use Rattle.net.specs.Good.{GoodPair}
use Rattle.net.specs.declared.Refusal.{Refusal}
use Rattle.net.proofs.Good.{good_pair, good_kind}
use Rattle.net.proofs.NetCheck.{net_is_checked}
use Rattle.net.proofs.OnNet.{gone_on}
use Rattle.question.specs.Table.{QuestionOutcome, answer_at, question_outcome, question_clauses, question_done, questioned}
use Rattle.question.specs.declared.Answer.{Answer}
use Rattle.question.specs.declared.Answer.TheVariants.{None, Yes, No, Both}
use Rattle.question.specs.Table.{Asked}
use Rattle.ask_line.specs.Line.{line_of}
use Rattle.derivation_lines.specs.Lines.{Line, Derives}
use Rattle.explain.specs.Table.{explaining}
use Rattle.why_line.specs.Text.{lines_text}
use Rattle.why_reason.proofs.Room.{ToldWhole, always_room}
use Rattle.why_question.specs.Because.{silent_line, both_text, because_text, asked_text, question_text}

module _ (told : Bool) (o k : ℕ) (ws : List ℕ) (set x y : ℕ) where
  -- The lines for x → y (sign 0), or x ↛ y (sign 1).
  abbrev pub lines : ℕ → List Line
  lines sign = explaining o ws set x y sign (o + k)

  -- What stands below the line, by the answer.
  abbrev pub Below : Answer → List ℕ → Type 0
  Below Yes below = (below ≡ lines_text told ws 0 (lines 0)) × Derives o k set ws (lines 0) x y is
  Below No below = (below ≡ lines_text told ws 0 (lines 1)) × Derives o k set ws (lines 1) x y isnt
  Below Both below = (below ≡ lines_text told ws 0 (lines 0) ++ lines_text told ws 0 (lines 1)) × Derives o k set ws (lines 0) x y is × Derives o k set ws (lines 1) x y isnt
  Below None below = (below ≡ silent_line) × (Supported o k (Links (chosen set ws)) x y is → ⊥) × (Supported o k (Links (chosen set ws)) x y isnt → ⊥)

  -- A question that is answered: its text, and what the text means.
  pub record Answered : Type 0 where
    pub answer : Answer
    pub count : ℕ
    pub below : List ℕ
    pub gave : (questioned o k ws set x y (blank 1024)).answer ≡ Ok (answer, count)
    pub text : question_text told o k ws set x y ≡ line_of x y (Ok (answer, count)) ++ below
    pub means : Below answer below

  module _ (net : NetFrom o k ws) (low : set ≤ set_limit) (pair : GoodPair o (o + k) x y) where
    abbrev byte : ℕ
    byte = get_or (full_marks o k (chosen set ws) x) y 0

    exactly : (s : Sign) → At (full_marks o k (chosen set ws) x) (marker_of s) y ↔ Supported o k (Links (chosen set ws)) x y s
    exactly s = full_exact o k (chosen set ws) (chosen_net set o k ws net) x y s pair.node (good_kind pair)

    gives : (m : List ℕ) → o + k ≤ length m → (questioned o k ws set x y m).answer ≡ Ok (answer_at byte, (full_scan (o + k) (chosen set ws) x).count)
    gives m room =
        sym (ap (λ (r : QuestionOutcome). r.answer)
        (gone_on (λ r. question_outcome (Err r) m) o k ws set (question_clauses o x y m) (question_done (chosen set ws) x y m) (net_is_checked o k ws set low net) refl))
        ∙ rw ((good_pair o (o + k) x y).1 pair, le-ltb (length m) (o + k) room)

    is_told : says_yes byte ≡ true → ToldWhole told o k ws set x y 0
    is_told e = always_room o k ws set x y 0 net low (record { pair = pair; signed = omega arith }) told ((exactly is).0 e)

    isnt_told : says_no byte ≡ true → ToldWhole told o k ws set x y 1
    isnt_told e = always_room o k ws set x y 1 net low (record { pair = pair; signed = omega arith }) told ((exactly isnt).0 e)

    by_answer : (u f : Bool) → says_yes byte ≡ u → says_no byte ≡ f → Below (cond u (cond f Both Yes) (cond f No None)) (because_text told o k ws set x y (cond u (cond f Both Yes) (cond f No None)))
    unfolding because_text both_text
    by_answer true true e g = (rw ((is_told e).text, (isnt_told g).text), (is_told e).lines, (isnt_told g).lines)
    by_answer true false e g = ((is_told e).text, (is_told e).lines)
    by_answer false true e g = ((isnt_told g).text, (isnt_told g).lines)
    by_answer false false e g = (refl, (λ p. contradiction (sym e ∙ (exactly is).1 p)), λ p. contradiction (sym g ∙ (exactly isnt).1 p))

    -- Every question about a node and a kind is answered.
    pub question_means : Answered
    unfolding question_text asked_text
    question_means =
        let gave = gives (blank 1024) (omega (arith, net.few, length-replicate {A = ℕ} 1024 0)) in
        record {
          answer = answer_at byte;
          count = (full_scan (o + k) (chosen set ws) x).count;
          below = because_text told o k ws set x y (answer_at byte);
          gave = gave;
          text = ap (λ (q : Asked). line_of x y q ++ asked_text told o k ws set x y q) gave;
          means = by_answer (says_yes byte) (says_no byte) refl refl;
        }

  -- Nothing stands below the line of a question that is refused.
  pub refused_alone : (r : Refusal) → (questioned o k ws set x y (blank 1024)).answer ≡ Err r → question_text told o k ws set x y ≡ line_of x y (Err r)
  unfolding question_text asked_text
  refused_alone r e = ap (λ (q : Asked). line_of x y q ++ asked_text told o k ws set x y q) e ∙ append-nil (line_of x y (Err r))
