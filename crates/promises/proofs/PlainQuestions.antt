-- The number table of a screenful of questions read aloud: each number in plain terms.
use Prim.Native.Nat.{ℕ, ◌+◌, ◌%◌, ◌≤◌, ◌<◌}
use mathlib.Core.Path.{◌≡◌}
use mathlib.Core.List.{List}
use mathlib.Core.Logic.{◌⊎◌, ◌↔◌}
use lib.ListN.{length}
use Rattle.net.specs.Passing.{FirstIllegal}
use Rattle.questions.specs.Pairs.{pairs_in, GoodPairs}
use Rattle.questions.specs.Table.{questioned_all}
use Rattle.questions.proofs.Bad.{good_pairs}
use Rattle.promises.specs.Numbers.{questions_number}
use Rattle.promises.specs.Engines.{Read}
use Rattle.promises.proofs.Demand1.{questions_obeys}
use Rattle.promises.proofs.Tests.{first, clause_5, clause_10}
use Rattle.promises.proofs.Plain.{then, both, first_only, at_least, past_net, number_1, number_2, number_15, number_3}

module _ (o k : ℕ) (ws : List ℕ) (set : ℕ) (ps bs m : List ℕ) where
  -- 1, 2, 15 and 3 as in every table: too many nodes; too many words; a set above 15; a first illegal word.
  pub questions_1 : (questions_number (questioned_all o k ws set ps bs m) ≡ 1) ↔ (1024 < o + k)
  questions_1 = number_1 o k ws set (questions_obeys o k ws set ps bs m)

  pub questions_2 : (questions_number (questioned_all o k ws set ps bs m) ≡ 2) ↔ ((o + k ≤ 1024) × (2097152 < length ws))
  questions_2 = number_2 o k ws set (questions_obeys o k ws set ps bs m)

  pub questions_15 : (questions_number (questioned_all o k ws set ps bs m) ≡ 15) ↔ ((o + k ≤ 1024) × ((length ws ≤ 2097152) × (15 < set)))
  questions_15 = number_15 o k ws set (questions_obeys o k ws set ps bs m)

  pub questions_3 : (questions_number (questioned_all o k ws set ps bs m) ≡ 3)
      ↔ ((o + k ≤ 1024) × ((length ws ≤ 2097152) × ((set ≤ 15) × FirstIllegal o k ws (first o k ws))))
  questions_3 = number_3 o k ws set (questions_obeys o k ws set ps bs m)

  -- 10: over a net, the count of the numbers is odd, or there are more than 64 pairs, or fewer bytes than pairs.
  pub questions_10 : (questions_number (questioned_all o k ws set ps bs m) ≡ 10) ↔ (Read o k ws set × ((length ps % 2 ≡ 1) ⊎ ((64 < pairs_in ps) ⊎ (length bs < pairs_in ps))))
  questions_10 = then ((questions_obeys o k ws set ps bs m).exactly 10) (past_net o k ws set (clause_10 ps bs))

  -- 5: over a net and with good pairs, be there any or not, the marks are too short.
  pub questions_5 : (questions_number (questioned_all o k ws set ps bs m) ≡ 5) ↔ (Read o k ws set × (GoodPairs ps bs × (length m < o + k)))
  questions_5 = then ((questions_obeys o k ws set ps bs m).exactly 5) (past_net o k ws set (both (good_pairs ps bs) (clause_5 o k ws m)))

  -- 0: nothing is wrong.
  pub questions_0 : (questions_number (questioned_all o k ws set ps bs m) ≡ 0) ↔ (Read o k ws set × (GoodPairs ps bs × (o + k ≤ length m)))
  questions_0 =
      then ((questions_obeys o k ws set ps bs m).exactly 0)
      (past_net o k ws set (both (good_pairs ps bs) (first_only (at_least (length m) (o + k)))))
