-- The number table of a screenful of questions ([1]).
use Rattle.questions.specs.declared.PairsError.{PairsError}
use Rattle.questions.specs.declared.PairsError.TheVariants.{BadPairs, Refused}
use Rattle.std.specs.Prelude.{ℕ, zero, suc, ◌+◌, ◌/◌, ◌%◌, Bool, cond, ◌||◌, List, [], ◌∷◌, ◌++◌, eqb, ltb, length, get_or, drop, Err, Ok, Result}
use Rattle.theory_laws.specs.Over.{over}
use Rattle.theory.specs.Scans.{full_scan}
use Rattle.theory.specs.Origins.{chosen}
use Rattle.net.specs.Clauses.{Clause, clause, call}
use Rattle.net.specs.Table.{net_clauses, bad_pair, Reply, reply, refusal_reply}
use Rattle.net.specs.declared.Refusal.TheVariants.{ShortBuffer}
use Rattle.question.specs.Table.{Asked, answer_at, answer_number}
use Rattle.questions.specs.Pairs.{pairs_in, subject_at, kind_at, pair_limit}

-- The byte of a bad pair.
abbrev pub bad_byte : ℕ
bad_byte = 255

-- The byte of what a single question answers: the answer's number, or 255 where it is refused.
abbrev pub asked_byte : Asked → ℕ
asked_byte (Ok (a, count)) = answer_number a
asked_byte (Err r) = bad_byte

-- The byte of the pair x, y over n nodes and plain words: 255 for a bad pair.
abbrev pub answer_byte : ℕ → ℕ → List ℕ → ℕ → ℕ → ℕ
answer_byte o n ws x y = cond (bad_pair o n x y) bad_byte (answer_number (answer_at (get_or (full_scan n ws x).marks y 0)))

-- The marks m after the pair x, y: the marks of x's full scan and past the nodes the bytes as they were. A bad pair touches none.
abbrev pub marks_after : ℕ → ℕ → List ℕ → ℕ → ℕ → List ℕ → List ℕ
marks_after o n ws x y m = cond (bad_pair o n x y) m ((full_scan n ws x).marks ++ drop n m)

-- The bytes of j pairs, from pair i on.
unfoldable pub answers_from : ℕ → ℕ → List ℕ → List ℕ → ℕ → ℕ → List ℕ
answers_from o n ws ps i zero = []
answers_from o n ws ps i (suc j) = answer_byte o n ws (subject_at ps i) (kind_at ps i) ∷ answers_from o n ws ps (suc i) j

-- The marks after these pairs, one after another.
unfoldable pub marks_from : ℕ → ℕ → List ℕ → List ℕ → ℕ → ℕ → List ℕ → List ℕ
marks_from o n ws ps i zero m = m
marks_from o n ws ps i (suc j) m = marks_from o n ws ps (suc i) j (marks_after o n ws (subject_at ps i) (kind_at ps i) m)

-- What a screenful answers: that each pair has its byte, or why none has.
abbrev pub AskedAll : Type 0
AskedAll = Result Unit PairsError

-- The outcome of a screenful: its answer, the bytes and the marks.
pub record QuestionsOutcome : Type 0 where
  pub answer : AskedAll
  pub answers : List ℕ
  pub marks : List ℕ

abbrev pub questions_outcome : AskedAll → List ℕ → List ℕ → QuestionsOutcome
questions_outcome r bs m = record { answer = r; answers = bs; marks = m }

-- Number 10, of a list of `places` numbers and `room` bytes: an odd count, more than 64 pairs, or fewer bytes than pairs.
abbrev pub bad_pairs : ℕ → ℕ → Bool
bad_pairs places room = eqb (places % 2) 1 || (ltb pair_limit (places / 2) || ltb room (places / 2))

-- Clauses 10 and 5 on n nodes.
abbrev pub questions_clauses : List ℕ → List ℕ → List ℕ → ℕ → List (Clause QuestionsOutcome)
questions_clauses ps bs m n =
    clause 10 (bad_pairs (length ps) (length bs)) (questions_outcome (Err BadPairs) bs m) ∷ clause 5 (ltb (length m) n) (questions_outcome (Err (Refused ShortBuffer)) bs m) ∷ []

-- Number 0: the bytes of all pairs in front of the lent ones, and the marks after the last pair.
abbrev pub questions_done : ℕ → List ℕ → List ℕ → List ℕ → List ℕ → ℕ → QuestionsOutcome
questions_done o ws ps bs m n = questions_outcome (Ok tt) (over (answers_from o n ws ps 0 (pairs_in ps)) bs) (marks_from o n ws ps 0 (pairs_in ps) m)

abbrev pub questions_table : ℕ → ℕ → List ℕ → ℕ → List ℕ → List ℕ → List ℕ → List (Clause QuestionsOutcome)
questions_table o k ws set ps bs m = net_clauses (λ r. questions_outcome (Err (Refused r)) bs m) o k ws set (questions_clauses ps bs m (o + k))

-- The questions of all pairs, of the words that the set chooses.
abbrev pub questioned_all : ℕ → ℕ → List ℕ → ℕ → List ℕ → List ℕ → List ℕ → QuestionsOutcome
questioned_all o k ws set ps bs m = call (questions_table o k ws set ps bs m) (questions_done o (chosen set ws) ps bs m (o + k))

-- The paper's number for each answer.
abbrev pub asked_all_reply : AskedAll → Reply
asked_all_reply (Ok tt) = reply 0 0 0
asked_all_reply (Err BadPairs) = reply 10 0 0
asked_all_reply (Err (Refused r)) = refusal_reply r
