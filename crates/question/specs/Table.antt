-- The number table of the question whether x is y.
use Rattle.std.specs.Prelude.{ℕ, ◌+◌, cond, List, [], ◌∷◌, ◌++◌, ltb, length, get_or, drop, Err, Ok, Result}
use Rattle.theory.specs.Marks.{says_yes, says_no}
use Rattle.theory.specs.Scans.{Scan, full_scan}
use Rattle.theory.specs.Origins.{chosen}
use Rattle.net.specs.Clauses.{Clause, clause, call}
use Rattle.net.specs.Table.{net_clauses, bad_pair, Reply, reply, refusal_reply}
use Rattle.net.specs.declared.Refusal.{Refusal}
use Rattle.net.specs.declared.Refusal.TheVariants.{BadQuestion, ShortBuffer}
use Rattle.question.specs.declared.Answer.{Answer}
use Rattle.question.specs.declared.Answer.TheVariants.{None, Yes, No, Both}

-- What the byte at a kind answers.
abbrev pub answer_at : ℕ → Answer
answer_at b = cond (says_yes b) (cond (says_no b) Both Yes) (cond (says_no b) No None)

-- What a question answers: the word with the count of rounds, or a refusal.
abbrev pub Asked : Type 0
Asked = Result (Answer × ℕ) Refusal

-- The outcome of a question: its answer and the marks.
pub record QuestionOutcome : Type 0 where
  pub answer : Asked
  pub marks : List ℕ

abbrev pub question_outcome : Asked → List ℕ → QuestionOutcome
question_outcome r m = record { answer = r; marks = m }

-- Clauses 4 and 5 on n nodes.
abbrev pub question_clauses : ℕ → ℕ → ℕ → List ℕ → ℕ → List (Clause QuestionOutcome)
question_clauses o x y m n =
    clause 4 (bad_pair o n x y) (question_outcome (Err BadQuestion) m) ∷ clause 5 (ltb (length m) n) (question_outcome (Err ShortBuffer) m) ∷ []

-- Number 0: the byte at y, the count, and the marks of the nodes; past them the bytes as they were.
abbrev pub read_at : ℕ → Scan → List ℕ → QuestionOutcome
read_at y s past = question_outcome (Ok (answer_at (get_or s.marks y 0), s.count)) (s.marks ++ past)

abbrev pub question_done : List ℕ → ℕ → ℕ → List ℕ → ℕ → QuestionOutcome
question_done ws x y m n = read_at y (full_scan n ws x) (drop n m)

abbrev pub question_table : ℕ → ℕ → List ℕ → ℕ → ℕ → ℕ → List ℕ → List (Clause QuestionOutcome)
question_table o k ws set x y m = net_clauses (λ r. question_outcome (Err r) m) o k ws set (question_clauses o x y m (o + k))

-- The question whether x is y, of the words that the set chooses.
abbrev pub questioned : ℕ → ℕ → List ℕ → ℕ → ℕ → ℕ → List ℕ → QuestionOutcome
questioned o k ws set x y m = call (question_table o k ws set x y m) (question_done (chosen set ws) x y m (o + k))

-- The paper's number and values for each answer.
abbrev pub answer_number : Answer → ℕ
answer_number None = 0
answer_number Yes = 1
answer_number No = 2
answer_number Both = 3

abbrev pub asked_reply : Asked → Reply
asked_reply (Ok (a, count)) = reply 0 (answer_number a) count
asked_reply (Err r) = refusal_reply r
