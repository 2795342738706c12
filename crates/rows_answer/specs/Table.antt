-- The number table of a question of rows.
use Rattle.std.specs.Prelude.{ℕ, ◌+◌, ◌*◌, Bool, cond, ◌||◌, List, [], ◌∷◌, ltb, length, Err, Ok, Result}
use Rattle.theory.specs.Words.{node_limit}
use Rattle.theory.specs.Rows.{width, rows_size, bit_at}
use Rattle.net.specs.Clauses.{Clause, clause, call}
use Rattle.net.specs.Table.{bad_pair, Reply, reply, refusal_reply}
use Rattle.net.specs.declared.Refusal.{Refusal}
use Rattle.net.specs.declared.Refusal.TheVariants.{TooManyNodes, BadQuestion, ShortBuffer}
use Rattle.question.specs.Table.{answer_number}
use Rattle.question.specs.declared.Answer.{Answer}
use Rattle.question.specs.declared.Answer.TheVariants.{None, Yes, No, Both}

-- What a question of rows answers: one of the question's four answers, or a refusal.
abbrev pub Answered : Type 0
Answered = Result Answer Refusal

-- What a yes bit and a no bit answer.
abbrev pub answer_of_bits : Bool → Bool → Answer
answer_of_bits p q = cond p (cond q Both Yes) (cond q No None)

-- By bit y of the yes row and of the no row of x, in a net of n nodes.
abbrev pub answer_in_rows : ℕ → List ℕ → List ℕ → ℕ → ℕ → Answer
answer_in_rows n yeses noes x y = answer_of_bits (bit_at yeses (x * width n) y) (bit_at noes (x * width n) y)

-- Clauses 1, 4 and 5. There is no net, so no other clause can apply.
abbrev pub answer_table : ℕ → ℕ → List ℕ → List ℕ → ℕ → ℕ → List (Clause Answered)
answer_table o k yeses noes x y =
    clause 1 (ltb node_limit (o + k)) (Err TooManyNodes)
    ∷ clause 4 (bad_pair o (o + k) x y) (Err BadQuestion)
    ∷ clause 5 (ltb (length yeses) (rows_size (o + k)) || ltb (length noes) (rows_size (o + k))) (Err ShortBuffer)
    ∷ []

-- The question of rows.
abbrev pub answered_in_rows : ℕ → ℕ → List ℕ → List ℕ → ℕ → ℕ → Answered
answered_in_rows o k yeses noes x y = call (answer_table o k yeses noes x y) (Ok (answer_in_rows (o + k) yeses noes x y))

-- The reply of each answer: the number of the answer, as the question gives it, and no count of rounds.
abbrev pub answered_reply : Answered → Reply
answered_reply (Ok a) = reply 0 (answer_number a) 0
answered_reply (Err r) = refusal_reply r
