-- The completion by rows answers and lists what the marker engine's completion does, for every call.
use Rattle.completion.specs.declared.CompletionError.TheVariants.{Refused}
use Rattle.std.specs.Prelude.{Err}
use Prim.Native.Nat.{ℕ, ◌+◌, ◌≤◌}
use mathlib.Core.Path.{◌≡◌, refl}
use mathlib.Core.Bool.{Bool, true, false, cond}
use mathlib.Core.List.{List}
use borrow.Author.Tests.{le-ltb}
use lib.Dec.{ltb}
use lib.ListN.{length, get_or}
use Rattle.theory.specs.Words.{node_limit, word_limit}
use Rattle.theory.specs.Completion.{complete}
use Rattle.theory.specs.Origins.{origin_limit, set_limit, chosen}
use Rattle.theory.specs.Rows.{rows_size}
use Rattle.net_word.specs.Legal.{legal_from}
use Rattle.net.specs.Passing.{passing}
use Rattle.net.specs.Clauses.{call}
use Rattle.net.specs.Table.{illegal_at}
use Rattle.net.specs.declared.Refusal.{Refusal}
use Rattle.net.specs.declared.Refusal.TheVariants.{TooManyNodes, TooManyWords, BadSet}
use Rattle.completion.specs.Table.{CompletionOutcome, completion_outcome, completion_clauses, completion_done, completed_by}
use Rattle.rows_completion.specs.Table.{RowsOutcome, rows_outcome, rows_clauses, rows_done, completed_by_rows}

-- The same answer, and the same list.
pub record Alike (r : RowsOutcome) (c : CompletionOutcome) : Type 0 where
  pub answer : r.answer ≡ c.answer
  pub list : r.list ≡ c.list

either : (q : Bool) {r r' : RowsOutcome} {c c' : CompletionOutcome} → Alike r c → Alike r' c' → Alike (cond q r r') (cond q c c')
either true a b = a
either false a b = b

module _ (o k : ℕ) (ws : List ℕ) (set : ℕ) (m yeses noes l : List ℕ)
    (marks : o + k ≤ length m) (yes_room : rows_size (o + k) ≤ length yeses) (no_room : rows_size (o + k) ≤ length noes) where
  abbrev all : List ℕ
  all = complete o k (chosen set ws)

  checked : Alike (call (rows_clauses o k (chosen set ws) yeses noes l (o + k)) (rows_done o k (chosen set ws) yeses noes l (o + k)))
      (call (completion_clauses all m l (o + k)) (completion_done all m l (o + k)))
  checked =
      rw (le-ltb (length m) (o + k) marks, le-ltb (length yeses) (rows_size (o + k)) yes_room, le-ltb (length noes) (rows_size (o + k)) no_room)
      (either (ltb (length l) (length all)) (record { answer = refl; list = refl }) (record { answer = refl; list = refl }))

  refused : (r : Refusal) → Alike (rows_outcome (Err (Refused r)) yeses noes l) (completion_outcome (Err (Refused r)) m l)
  refused r = record { answer = refl; list = refl }

  abbrev first : ℕ
  first = passing (legal_from origin_limit o (o + k)) ws

  -- Where the buffers of neither engine are too short, they agree.
  pub engines_alike : Alike (completed_by_rows o k ws set yeses noes l) (completed_by o k ws set m l)
  engines_alike =
      either (ltb node_limit (o + k)) (refused TooManyNodes)
      (either (ltb word_limit (length ws)) (refused TooManyWords)
      (either (ltb set_limit set) (refused BadSet)
      (either (ltb first (length ws)) (refused (illegal_at (o + k) first (get_or ws first 0))) checked)))
