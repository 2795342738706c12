-- The number table of the clash test.
use Rattle.std.specs.Prelude.{ℕ, zero, suc, ◌+◌, Bool, true, false, cond, Option, Some, None, Result, Ok, Err, ◌&&◌, List, [], ◌∷◌, ltb, length, get_or}
use Rattle.theory.specs.Marks.{says_yes, says_no}
use Rattle.theory.specs.Completion.{full_marks}
use Rattle.theory.specs.Origins.{chosen}
use Rattle.net.specs.Clauses.{Clause, clause, call}
use Rattle.net.specs.Table.{net_clauses, Reply, reply, refusal_reply}
use Rattle.net.specs.declared.Refusal.TheVariants.{ShortBuffer}
use Rattle.scan_start.specs.Starts.{cleared}
use Rattle.net.specs.declared.Refusal.{Refusal}

-- What a clash test answers: the smallest node that clashes and its smallest kind, or that there is none, or a refusal.
abbrev pub Clashed : Type 0
Clashed = Result (Option (ℕ × ℕ)) Refusal

-- The outcome of a clash test: its answer and the marks.
pub record ClashOutcome : Type 0 where
  pub answer : Clashed
  pub marks : List ℕ

abbrev pub clash_outcome : Clashed → List ℕ → ClashOutcome
clash_outcome r m = record { answer = r; marks = m }

-- The nodes that can clash are those below this number: all nodes, objects and kinds ([3]).
abbrev pub clash_nodes : ℕ → ℕ → ℕ
clash_nodes o k = o + k

-- The first of j kinds from y on at which yes and no stand both, or the one after them.
unfoldable pub first_both : List ℕ → ℕ → ℕ → ℕ
first_both m y zero = y
first_both m y (suc j) = cond (says_yes (get_or m y 0) && says_no (get_or m y 0)) y (first_both m (suc y) j)

-- The first of j nodes from x on that clashes, with its first kind.
unfoldable pub first_clash : ℕ → ℕ → List ℕ → ℕ → ℕ → Clashed
first_clash o k ws x zero = Ok None
first_clash o k ws x (suc j) =
    cond (ltb (first_both (full_marks o k ws x) o k) (o + k)) (Ok (Some (x, first_both (full_marks o k ws x) o k)))
    (first_clash o k ws (suc x) j)

-- The search over all nodes that can clash.
abbrev pub clash_search : ℕ → ℕ → List ℕ → Clashed
clash_search o k ws = first_clash o k ws 0 (clash_nodes o k)

-- A search came to no clash.
abbrev pub nowhere : Clashed → Bool
nowhere (Ok (Some found)) = false
nowhere (Ok None) = true
nowhere (Err r) = false

-- Clauses 5 and 7 on n nodes whose search came to `found`.
abbrev pub clash_clauses : Clashed → List ℕ → ℕ → List (Clause ClashOutcome)
clash_clauses found m n =
    clause 5 (ltb (length m) n) (clash_outcome (Err ShortBuffer) m)
    ∷ clause 7 (nowhere found) (clash_outcome (Ok None) (cleared n m))
    ∷ []

-- Number 0: the clash that was found, and the marks of the nodes zero.
abbrev pub clash_done : Clashed → List ℕ → ℕ → ClashOutcome
clash_done found m n = clash_outcome found (cleared n m)

abbrev pub clash_table : ℕ → ℕ → List ℕ → ℕ → List ℕ → List (Clause ClashOutcome)
clash_table o k ws set m = net_clauses (λ r. clash_outcome (Err r) m) o k ws set (clash_clauses (clash_search o k (chosen set ws)) m (o + k))

-- The clash test of the words that the set chooses.
abbrev pub clashed_by : ℕ → ℕ → List ℕ → ℕ → List ℕ → ClashOutcome
clashed_by o k ws set m = call (clash_table o k ws set m) (clash_done (clash_search o k (chosen set ws)) m (o + k))

-- The paper's number and values for each answer.
abbrev pub clashed_reply : Clashed → Reply
clashed_reply (Ok (Some (x, y))) = reply 0 x y
clashed_reply (Ok None) = reply 7 0 0
clashed_reply (Err r) = refusal_reply r
