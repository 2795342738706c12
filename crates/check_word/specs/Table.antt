-- The number table of the test of a single word ([2]).
use Rattle.std.specs.Prelude.{ℕ, ◌+◌, not, List, [], ◌∷◌, ltb, Err, Ok, Result}
use Rattle.theory.specs.Words.{node_limit}
use Rattle.theory.specs.Origins.{origin_limit}
use Rattle.net_word.specs.Legal.{legal_from}
use Rattle.net.specs.Clauses.{Clause, clause, call}
use Rattle.net.specs.Table.{illegal_at, Reply, reply, refusal_reply}
use Rattle.net.specs.declared.Refusal.{Refusal}
use Rattle.net.specs.declared.Refusal.TheVariants.{TooManyNodes}

-- What the test of a word answers: that it is legal, or a refusal.
abbrev pub WordChecked : Type 0
WordChecked = Result Unit Refusal

-- Clause 1 as for a net, the sum being one of whole numbers; clause 3 where the word, which may have an origin, is illegal, with index 0 and its cause.
abbrev pub word_table : ℕ → ℕ → ℕ → List (Clause WordChecked)
word_table o k w =
    clause 1 (ltb node_limit (o + k)) (Err TooManyNodes) ∷ clause 3 (not (legal_from origin_limit o (o + k) w)) (Err (illegal_at (o + k) 0 w)) ∷ []

-- The test of one word.
abbrev pub check_word : ℕ → ℕ → ℕ → WordChecked
check_word o k w = call (word_table o k w) (Ok tt)

-- The paper's number and values for each answer.
abbrev pub word_reply : WordChecked → Reply
word_reply (Ok tt) = reply 0 0 0
word_reply (Err r) = refusal_reply r
