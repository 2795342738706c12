-- The number tables of the valuation and of its test read aloud: each number in plain terms.
use Prim.Native.Nat.{ℕ, ◌+◌, ◌*◌, ◌≤◌, ◌<◌}
use mathlib.Core.Path.{◌≡◌}
use mathlib.Core.List.{List, []}
use mathlib.Core.Logic.{◌↔◌}
use lib.ListN.{length}
use Rattle.theory_laws.proofs.Deciding.{decides_below}
use Rattle.theory.specs.Words.{node_limit}
use Rattle.theory.specs.Valuations.{Valued}
use Rattle.net.specs.Good.{GoodStatement}
use Rattle.net.specs.Passing.{FirstIllegal}
use Rattle.net.proofs.Good.{good_statement}
use Rattle.valuation.specs.Table.{filled_by}
use Rattle.satisfies.specs.Table.{tested_by}
use Rattle.satisfies.proofs.Exactly.{bad_table_exactly}
use Rattle.promises.specs.Numbers.{valuation_number, satisfies_number}
use Rattle.promises.specs.Engines.{Read}
use Rattle.promises.proofs.Demand1.{valuation_obeys, satisfies_obeys}
use Rattle.promises.proofs.Tests.{first, clause_4_statement, clause_5, clause_13}
use Rattle.promises.proofs.Plain.{then, both, first_only, at_least, past_net, number_1, number_2, number_15, number_3}

-- ── the valuation ──

module _ (o k : ℕ) (ws : List ℕ) (set : ℕ) (t m : List ℕ) where
  -- 1, 2, 15 and 3 as in every table: too many nodes; too many words; a set above 15; a first illegal word.
  pub valuation_1 : (valuation_number (filled_by o k ws set t m) ≡ 1) ↔ (1024 < o + k)
  valuation_1 = number_1 o k ws set (valuation_obeys o k ws set t m)

  pub valuation_2 : (valuation_number (filled_by o k ws set t m) ≡ 2) ↔ ((o + k ≤ 1024) × (2097152 < length ws))
  valuation_2 = number_2 o k ws set (valuation_obeys o k ws set t m)

  pub valuation_15 : (valuation_number (filled_by o k ws set t m) ≡ 15) ↔ ((o + k ≤ 1024) × ((length ws ≤ 2097152) × (15 < set)))
  valuation_15 = number_15 o k ws set (valuation_obeys o k ws set t m)

  pub valuation_3 : (valuation_number (filled_by o k ws set t m) ≡ 3)
      ↔ ((o + k ≤ 1024) × ((length ws ≤ 2097152) × ((set ≤ 15) × FirstIllegal o k ws (first o k ws))))
  valuation_3 = number_3 o k ws set (valuation_obeys o k ws set t m)

  -- 5: over a net, the marks are too short.
  pub valuation_5 : (valuation_number (filled_by o k ws set t m) ≡ 5) ↔ (Read o k ws set × (length m < o + k))
  valuation_5 = then ((valuation_obeys o k ws set t m).exactly 5) (past_net o k ws set (clause_5 o k ws m))

  -- 13: over a net and with marks long enough, the table has less than N × k bytes.
  pub valuation_13 : (valuation_number (filled_by o k ws set t m) ≡ 13) ↔ (Read o k ws set × ((o + k ≤ length m) × (length t < (o + k) * k)))
  valuation_13 = then ((valuation_obeys o k ws set t m).exactly 13) (past_net o k ws set (both (at_least (length m) (o + k)) (decides_below (length t) ((o + k) * k))))

  -- 0: over a net, both have room for what goes there.
  pub valuation_0 : (valuation_number (filled_by o k ws set t m) ≡ 0) ↔ (Read o k ws set × ((o + k ≤ length m) × ((o + k) * k ≤ length t)))
  valuation_0 = then ((valuation_obeys o k ws set t m).exactly 0) (past_net o k ws set (both (at_least (length m) (o + k)) (first_only (at_least (length t) ((o + k) * k)))))

-- ── its test ──

module _ (o k : ℕ) (t : List ℕ) (x y sign : ℕ) where
  -- 1: there are more than 1,024 nodes.
  pub satisfies_1 : (satisfies_number (tested_by o k t x y sign) ≡ 1) ↔ (1024 < o + k)
  satisfies_1 = then ((satisfies_obeys o k t x y sign).exactly 1) (decides_below node_limit (o + k))

  -- 4: the nodes are few enough, and it is not so that x is a node, y a kind, and the sign 0 or 1.
  pub satisfies_4 : (satisfies_number (tested_by o k t x y sign) ≡ 4) ↔ ((o + k ≤ 1024) × (GoodStatement o (o + k) x y sign → ⊥))
  satisfies_4 = then ((satisfies_obeys o k t x y sign).exactly 4) (both (at_least node_limit (o + k)) (clause_4_statement o k [] x y sign))

  -- 13: a good statement, and what is lent is no table: it has less than N × k bytes, or one of those is above 3.
  pub satisfies_13 : (satisfies_number (tested_by o k t x y sign) ≡ 13) ↔ ((o + k ≤ 1024) × (GoodStatement o (o + k) x y sign × (Valued (o + k) k t → ⊥)))
  satisfies_13 = then ((satisfies_obeys o k t x y sign).exactly 13) (both (at_least node_limit (o + k)) (both (good_statement o (o + k) x y sign) (clause_13 (o + k) k t)))

  -- 0: nothing is wrong. Which statements hold and which fail is in `Valuing`.
  pub satisfies_0 : (satisfies_number (tested_by o k t x y sign) ≡ 0) ↔ ((o + k ≤ 1024) × (GoodStatement o (o + k) x y sign × Valued (o + k) k t))
  satisfies_0 =
      then ((satisfies_obeys o k t x y sign).exactly 0)
      (both (at_least node_limit (o + k)) (both (good_statement o (o + k) x y sign) (first_only (bad_table_exactly (o + k) k t))))
