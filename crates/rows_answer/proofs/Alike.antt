-- Over the rows that a completion by rows left for a net and a set, the question of rows answers what the marker engine's question does.
use Rattle.completion.specs.declared.CompletionError.TheVariants.{Refused}
use Rattle.std.specs.Prelude.{Err, Ok}
use Prim.Native.Nat.{ℕ, ◌+◌, ◌≤◌, ◌<◌}
use mathlib.Core.Path.{◌≡◌, refl, sym, ap, ◌∙◌}
use mathlib.Core.Bool.{Bool, true, false, cond}
use mathlib.Core.List.{List}
use native.Mathlib.Omega.{arith}
use borrow.Author.Tests.{le-ltb}
use lib.Dec.{ltb}
use lib.ListN.{length, get_or, drop}
use Rattle.theory_laws.specs.Over.{over}
use Rattle.theory_laws.proofs.Over.{length_over}
use Rattle.theory.specs.Words.{Sign, is, isnt, node_limit}
use Rattle.theory.specs.Nets.{Kind, Net}
use Rattle.theory.specs.Origins.{set_limit, chosen, NetFrom}
use Rattle.theory.specs.Completion.{complete, full_marks}
use Rattle.theory.specs.Rows.{rows_size, supported_rows}
use Rattle.theory.proofs.origins.Statements.{chosen_net}
use Rattle.theory.proofs.rows.Exactly.{supported_rows_length, filled_exact, bit_marked}
use Rattle.net.specs.Clauses.{call}
use Rattle.net.specs.Table.{bad_pair}
use Rattle.net.proofs.Good.{good_pair}
use Rattle.net.proofs.OnNet.{gone_on}
use Rattle.net.proofs.NetCheck.{net_is_checked}
use Rattle.question.specs.Table.{QuestionOutcome, answer_at, question_outcome, question_clauses, question_done, questioned}
use Rattle.question.specs.Table.{Asked}
use Rattle.rows_completion.specs.Table.{RowsOutcome, rows_outcome, rows_clauses, rows_done, completed_by_rows}
use Rattle.rows_answer.specs.Table.{answer_in_rows, answered_in_rows}
use Rattle.rows_answer.specs.Table.{Answered}

-- The answer to a question without the count of its rounds.
abbrev pub without_count : Asked → Answered
without_count (Ok (a, count)) = Ok a
without_count (Err r) = Err r

module _ (o k : ℕ) (ws : List ℕ) (set : ℕ) (net : NetFrom o k ws) (choice : set ≤ set_limit) where
  abbrev plain : List ℕ
  plain = chosen set ws

  fine : Net o k (chosen set ws)
  fine = chosen_net set o k ws net

  -- ── what a completion by rows left ──
  module _ (yeses noes l : List ℕ) (yes_room : rows_size (o + k) ≤ length yeses) (no_room : rows_size (o + k) ≤ length noes) where
    abbrev left : RowsOutcome
    left = completed_by_rows o k ws set yeses noes l

    either : (q : Bool) {r s : RowsOutcome} (f : RowsOutcome → List ℕ) {a : List ℕ} → f r ≡ a → f s ≡ a → f (cond q r s) ≡ a
    either true f e g = e
    either false f e g = g

    checked : call (rows_clauses o k plain yeses noes l (o + k)) (rows_done o k plain yeses noes l (o + k)) ≡ left
    checked =
        gone_on (λ r. rows_outcome (Err (Refused r)) yeses noes l) o k ws set (rows_clauses o k plain yeses noes l) (rows_done o k plain yeses noes l)
        (net_is_checked o k ws set choice net) refl

    filled : (f : RowsOutcome → List ℕ) {a : List ℕ}
        → ((r : RowsOutcome) → r.yeses ≡ over (supported_rows o k plain is) yeses → r.noes ≡ over (supported_rows o k plain isnt) noes → f r ≡ a) → f left ≡ a
    filled f g =
        sym (ap f checked)
        ∙ rw (le-ltb (length yeses) (rows_size (o + k)) yes_room, le-ltb (length noes) (rows_size (o + k)) no_room)
        (either (ltb (length l) (length (complete o k plain))) f (g _ refl refl) (g _ refl refl))

    -- The rows are filled, whether the list was long enough or not.
    pub left_yeses : left.yeses ≡ over (supported_rows o k plain is) yeses
    left_yeses = filled (λ r. r.yeses) (λ r e f. e)

    pub left_noes : left.noes ≡ over (supported_rows o k plain isnt) noes
    left_noes = filled (λ r. r.noes) (λ r e f. f)

    -- ── what the two questions answer ──
    module _ (m : List ℕ) (marks : o + k ≤ length m) (x y : ℕ) where
      asked_net : call (question_clauses o x y m (o + k)) (question_done plain x y m (o + k)) ≡ questioned o k ws set x y m
      asked_net =
          gone_on (λ r. question_outcome (Err r) m) o k ws set (question_clauses o x y m) (question_done plain x y m) (net_is_checked o k ws set choice net) refl

      long : (s : Sign) (b : List ℕ) → rows_size (o + k) ≤ length b → rows_size (o + k) ≤ length (over (supported_rows o k plain s) b)
      long s b h = let e = supported_rows_length o k plain s in omega (arith, length_over (supported_rows o k plain s) b (omega arith))

      -- A good pair: each bit is the marker.
      good : x < o + k → Kind o k y → answer_in_rows (o + k) (over (supported_rows o k plain is) yeses) (over (supported_rows o k plain isnt) noes) x y ≡ answer_at (get_or (full_marks o k plain x) y 0)
      good h hy =
          let p = bit_marked o k plain fine is (over (supported_rows o k plain is) yeses) (filled_exact o k plain fine is (drop (length (supported_rows o k plain is)) yeses)) x y h hy in
          let q = bit_marked o k plain fine isnt (over (supported_rows o k plain isnt) noes) (filled_exact o k plain fine isnt (drop (length (supported_rows o k plain isnt)) noes)) x y h hy in
          rw (p, q)

      both : (bad : Bool) → bad_pair o (o + k) x y ≡ bad
          → answered_in_rows o k (over (supported_rows o k plain is) yeses) (over (supported_rows o k plain isnt) noes) x y
          ≡ without_count (call (question_clauses o x y m (o + k)) (question_done plain x y m (o + k))).answer
      both true e = rw (le-ltb node_limit (o + k) net.few, e)
      both false e =
          let pair = (good_pair o (o + k) x y).0 e in
          rw (
            le-ltb node_limit (o + k) net.few,
            e,
            le-ltb (length (over (supported_rows o k plain is) yeses)) (rows_size (o + k)) (long is yeses yes_room),
            le-ltb (length (over (supported_rows o k plain isnt) noes)) (rows_size (o + k)) (long isnt noes no_room),
            le-ltb (length m) (o + k) marks,
          )
          (ap Ok (good pair.node (record { low = pair.low; high = pair.high })))

      -- The answer in the rows is the question's: number and answer, for every x and y.
      pub answers_alike : answered_in_rows o k left.yeses left.noes x y ≡ without_count (questioned o k ws set x y m).answer
      answers_alike =
          rw (left_yeses, left_noes) (both (bad_pair o (o + k) x y) refl)
          ∙ ap (λ (q : QuestionOutcome). without_count q.answer) asked_net
