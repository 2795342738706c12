-- The number tables of the completion by rows and of the question of rows read aloud: each number in plain terms.
use Prim.Native.Nat.{ℕ, ◌+◌, ◌*◌, ◌/◌, ◌≤◌, ◌<◌}
use mathlib.Core.Path.{◌≡◌}
use mathlib.Core.Bool.{false, ◌||◌}
use mathlib.Core.List.{List, []}
use mathlib.Core.Logic.{◌⊎◌, ◌↔◌}
use lib.Dec.{ltb}
use lib.ListN.{length}
use borrow.Author.Tests.{ltb-false, le-ltb}
use Rattle.theory_laws.specs.Deciding.{Decides}
use Rattle.theory_laws.proofs.Booleans.{or_none_left, or_none_right}
use Rattle.theory_laws.proofs.Deciding.{decides_below, decides_either}
use Rattle.theory.specs.Words.{node_limit}
use Rattle.theory.specs.Origins.{chosen}
use Rattle.theory.specs.Completion.{Lists}
use Rattle.net.specs.Good.{GoodPair}
use Rattle.net.specs.Passing.{FirstIllegal}
use Rattle.net.proofs.Good.{good_pair}
use Rattle.rows_completion.specs.Table.{completed_by_rows}
use Rattle.rows_answer.specs.Table.{answered_in_rows}
use Rattle.promises.specs.Numbers.{rows_number, answer_in_rows_number}
use Rattle.promises.specs.Engines.{Read}
use Rattle.promises.proofs.Demand1.{rows_obeys, answer_in_rows_obeys}
use Rattle.promises.proofs.Tests.{first, clause_1, clause_4_pair}
use Rattle.promises.proofs.Plain.{then, both, first_only, at_least, over_net, past_net, number_1, number_2, number_15, number_3, list_short, list_room}

-- Clause 5 of both, where each buffer needs `size` words: one of them is shorter, or neither is.
module _ (yeses noes : List ℕ) (size : ℕ) where
  rows_short : Decides (ltb (length yeses) size || ltb (length noes) size) ((length yeses < size) ⊎ (length noes < size))
  rows_short = decides_either _ _ (decides_below (length yeses) size) (decides_below (length noes) size)

  rows_room : ((ltb (length yeses) size || ltb (length noes) size) ≡ false) ↔ ((size ≤ length yeses) × (size ≤ length noes))
  rows_room = (
    (λ e. (ltb-false (length yeses) size (or_none_left _ (ltb (length noes) size) e), ltb-false (length noes) size (or_none_right (ltb (length yeses) size) _ e))),
    λ p. rw (le-ltb (length yeses) size p.0, le-ltb (length noes) size p.1),
  )

-- ── the completion by rows ──

module _ (o k : ℕ) (ws : List ℕ) (set : ℕ) (yeses noes l : List ℕ) where
  -- 1, 2, 15 and 3 as in every table: too many nodes; too many words; a set above 15; a first illegal word.
  pub rows_1 : (rows_number (completed_by_rows o k ws set yeses noes l) ≡ 1) ↔ (1024 < o + k)
  rows_1 = number_1 o k ws set (rows_obeys o k ws set yeses noes l)

  pub rows_2 : (rows_number (completed_by_rows o k ws set yeses noes l) ≡ 2) ↔ ((o + k ≤ 1024) × (2097152 < length ws))
  rows_2 = number_2 o k ws set (rows_obeys o k ws set yeses noes l)

  pub rows_15 : (rows_number (completed_by_rows o k ws set yeses noes l) ≡ 15) ↔ ((o + k ≤ 1024) × ((length ws ≤ 2097152) × (15 < set)))
  rows_15 = number_15 o k ws set (rows_obeys o k ws set yeses noes l)

  pub rows_3 : (rows_number (completed_by_rows o k ws set yeses noes l) ≡ 3)
      ↔ ((o + k ≤ 1024) × ((length ws ≤ 2097152) × ((set ≤ 15) × FirstIllegal o k ws (first o k ws))))
  rows_3 = number_3 o k ws set (rows_obeys o k ws set yeses noes l)

  -- 5: over a net, the yes rows or the no rows are lent less than N × ⌈N / 64⌉ words.
  pub rows_5 : (rows_number (completed_by_rows o k ws set yeses noes l) ≡ 5)
      ↔ (Read o k ws set × ((length yeses < (o + k) * ((o + k + 63) / 64)) ⊎ (length noes < (o + k) * ((o + k + 63) / 64))))
  rows_5 = then ((rows_obeys o k ws set yeses noes l).exactly 5) (past_net o k ws set (rows_short yeses noes ((o + k) * ((o + k + 63) / 64))))

  -- The supported words are those of `out`.
  module _ (out : List ℕ) (words : Lists o k (chosen set ws) out) where
    -- 8: over a net and with rows long enough, the list is shorter than the supported words.
    pub rows_8 : (rows_number (completed_by_rows o k ws set yeses noes l) ≡ 8)
        ↔ (Read o k ws set × ((((o + k) * ((o + k + 63) / 64) ≤ length yeses) × ((o + k) * ((o + k + 63) / 64) ≤ length noes)) × (length l < length out)))
    rows_8 =
        then ((rows_obeys o k ws set yeses noes l).exactly 8)
        (over_net o k ws set (λ n. both (rows_room yeses noes ((o + k) * ((o + k + 63) / 64))) (list_short o k (chosen set ws) out words l n)))

    -- 0: over a net, all three have room for what goes there.
    pub rows_0 : (rows_number (completed_by_rows o k ws set yeses noes l) ≡ 0)
        ↔ (Read o k ws set × ((((o + k) * ((o + k + 63) / 64) ≤ length yeses) × ((o + k) * ((o + k + 63) / 64) ≤ length noes)) × (length out ≤ length l)))
    rows_0 =
        then ((rows_obeys o k ws set yeses noes l).exactly 0)
        (over_net o k ws set (λ n. both (rows_room yeses noes ((o + k) * ((o + k + 63) / 64))) (first_only (list_room o k (chosen set ws) out words l n))))

-- ── the question of rows ──

module _ (o k : ℕ) (yeses noes : List ℕ) (x y : ℕ) where
  -- 1: there are more than 1,024 nodes.
  pub answer_in_rows_1 : (answer_in_rows_number (answered_in_rows o k yeses noes x y) ≡ 1) ↔ (1024 < o + k)
  answer_in_rows_1 = then ((answer_in_rows_obeys o k yeses noes x y).exactly 1) (clause_1 o k [])

  -- 4: the nodes are few enough, and it is not so that x is a node and y a kind.
  pub answer_in_rows_4 : (answer_in_rows_number (answered_in_rows o k yeses noes x y) ≡ 4) ↔ ((o + k ≤ 1024) × (GoodPair o (o + k) x y → ⊥))
  answer_in_rows_4 = then ((answer_in_rows_obeys o k yeses noes x y).exactly 4) (both (at_least node_limit (o + k)) (clause_4_pair o k [] x y))

  -- 5: of a node and a kind, the yes rows or the no rows are lent less than N × ⌈N / 64⌉ words.
  pub answer_in_rows_5 : (answer_in_rows_number (answered_in_rows o k yeses noes x y) ≡ 5)
      ↔ ((o + k ≤ 1024) × (GoodPair o (o + k) x y × ((length yeses < (o + k) * ((o + k + 63) / 64)) ⊎ (length noes < (o + k) * ((o + k + 63) / 64)))))
  answer_in_rows_5 =
      then ((answer_in_rows_obeys o k yeses noes x y).exactly 5)
      (both (at_least node_limit (o + k)) (both (good_pair o (o + k) x y) (rows_short yeses noes ((o + k) * ((o + k + 63) / 64)))))

  -- 0: nothing is wrong. What the answer is of rows that a completion by rows left is in `ByRows`.
  pub answer_in_rows_0 : (answer_in_rows_number (answered_in_rows o k yeses noes x y) ≡ 0)
      ↔ ((o + k ≤ 1024) × (GoodPair o (o + k) x y × (((o + k) * ((o + k + 63) / 64) ≤ length yeses) × ((o + k) * ((o + k + 63) / 64) ≤ length noes))))
  answer_in_rows_0 =
      then ((answer_in_rows_obeys o k yeses noes x y).exactly 0)
      (both (at_least node_limit (o + k)) (both (good_pair o (o + k) x y) (first_only (rows_room yeses noes ((o + k) * ((o + k + 63) / 64))))))
