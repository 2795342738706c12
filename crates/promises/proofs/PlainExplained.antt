-- The number tables of the explanation and of the derivation check read aloud: each number in plain terms.
use Prim.Native.Nat.{ℕ, ◌+◌, ◌*◌, ◌≤◌, ◌<◌}
use mathlib.Core.Path.{◌≡◌, ap, subst, ◌∙◌}
use mathlib.Core.Bool.{Bool, false, ◌||◌}
use mathlib.Core.List.{List}
use mathlib.Core.Logic.{◌⊎◌, ◌↔◌}
use lib.Dec.{ltb}
use lib.ListN.{length}
use Rattle.theory_laws.specs.Deciding.{Decides}
use Rattle.theory_laws.proofs.Booleans.{or_none_left, or_none_right}
use Rattle.theory_laws.proofs.Deciding.{decides_below, decides_either}
use Rattle.theory.specs.Words.{sign_at}
use Rattle.theory.specs.Nets.{Links}
use Rattle.theory.specs.Support.{Supported}
use Rattle.theory.specs.Reasons.{written}
use Rattle.theory.specs.Origins.{chosen}
use Rattle.net.specs.Good.{GoodStatement}
use Rattle.net.specs.Passing.{FirstIllegal}
use Rattle.net.proofs.Good.{good_statement, good_kind}
use Rattle.reason.specs.Table.{reason_of}
use Rattle.derivation_lines.specs.Lines.{Line}
use Rattle.derivation_lines.specs.Deriving.{derived_size}
use Rattle.derivation_lines.specs.Flat.{derive_list}
use Rattle.derivation_lines.proofs.Flatness.{derive_written}
use Rattle.derivation_lines.proofs.Sizes.{derive_size}
use Rattle.derivation_check.specs.Table.{lines_verdict}
use Rattle.explain.specs.Table.{explaining, explained}
use Rattle.promises.specs.Numbers.{verdict_number, explanation_number}
use Rattle.promises.specs.Engines.{Read}
use Rattle.promises.specs.Reasoning.{ReasonOf}
use Rattle.promises.proofs.Demand1.{explanation_obeys, derivation_check_obeys}
use Rattle.promises.proofs.Tests.{first, clause_4_statement, clause_5_scratch, clause_7_reason}
use Rattle.promises.proofs.Plain.{then, and_then, both, first_only, at_least, over_net, past_net, number_1, number_2, number_15, number_3}
use Rattle.promises.proofs.PlainAsked.{room, has_path}

-- Neither test passes.
neither : (p q : Bool) {P Q : Type 0} → (p ≡ false) ↔ P → (q ≡ false) ↔ Q → ((p || q) ≡ false) ↔ (P × Q)
neither p q f g = ((λ e. (f.0 (or_none_left p q e), g.0 (or_none_right p q e))), λ h. rw (f.1 h.0, g.1 h.1))

-- ── the explanation ──

module _ (o k : ℕ) (ws : List ℕ) (set x y sign : ℕ) (d m l : List ℕ) where
  -- 1, 2, 15 and 3 as in every table: too many nodes; too many words; a set above 15; a first illegal word.
  pub explanation_1 : (explanation_number (explained o k ws set x y sign d m l) ≡ 1) ↔ (1024 < o + k)
  explanation_1 = number_1 o k ws set (explanation_obeys o k ws set x y sign d m l)

  pub explanation_2 : (explanation_number (explained o k ws set x y sign d m l) ≡ 2) ↔ ((o + k ≤ 1024) × (2097152 < length ws))
  explanation_2 = number_2 o k ws set (explanation_obeys o k ws set x y sign d m l)

  pub explanation_15 : (explanation_number (explained o k ws set x y sign d m l) ≡ 15) ↔ ((o + k ≤ 1024) × ((length ws ≤ 2097152) × (15 < set)))
  explanation_15 = number_15 o k ws set (explanation_obeys o k ws set x y sign d m l)

  pub explanation_3 : (explanation_number (explained o k ws set x y sign d m l) ≡ 3)
      ↔ ((o + k ≤ 1024) × ((length ws ≤ 2097152) × ((set ≤ 15) × FirstIllegal o k ws (first o k ws))))
  explanation_3 = number_3 o k ws set (explanation_obeys o k ws set x y sign d m l)

  -- 4: over a net, it is not so that x is a node, y a kind, and the sign 0 or 1.
  pub explanation_4 : (explanation_number (explained o k ws set x y sign d m l) ≡ 4) ↔ (Read o k ws set × (GoodStatement o (o + k) x y sign → ⊥))
  explanation_4 = then ((explanation_obeys o k ws set x y sign d m l).exactly 4) (past_net o k ws set (clause_4_statement o k ws x y sign))

  -- 5: over a net and of a good statement, the scratch has less than 2N places.
  pub explanation_5 : (explanation_number (explained o k ws set x y sign d m l) ≡ 5) ↔ (Read o k ws set × (GoodStatement o (o + k) x y sign × (length d < 2 * (o + k))))
  explanation_5 =
      then ((explanation_obeys o k ws set x y sign d m l).exactly 5) (past_net o k ws set (both (good_statement o (o + k) x y sign) (clause_5_scratch o k ws d)))

  -- 7: nothing of that is wrong, and the statement is not supported.
  pub explanation_7 : (explanation_number (explained o k ws set x y sign d m l) ≡ 7)
      ↔ (Read o k ws set × (GoodStatement o (o + k) x y sign × ((2 * (o + k) ≤ length d) × (Supported o k (Links (chosen set ws)) x y (sign_at sign) → ⊥))))
  explanation_7 =
      then ((explanation_obeys o k ws set x y sign d m l).exactly 7)
      (over_net o k ws set (λ net. and_then (good_statement o (o + k) x y sign)
      (λ g. both (room o k ws set x y sign d m) (clause_7_reason o k (chosen set ws) net x g.pair.node y (good_kind g.pair) (sign_at sign)))))

  abbrev all : List ℕ
  all = reason_of (chosen set ws) x y sign (o + k)

  abbrev ls : List Line
  ls = explaining o ws set x y sign (o + k)

  -- How many lines there are, by the path of the reason.
  pub lines_of_lem : (xs ys : List ℕ) → all ≡ written x xs ys → length ls ≡ derived_size o set ws x xs ys
  lines_of_lem xs ys w = ap (λ (p : List ℕ). length (derive_list o set ws p)) w ∙ ap (length {A = Line}) (derive_written o set ws x xs ys) ∙ derive_size set ws o x xs ys

  -- 8: there is a shortest reason, and it has more places than its list, or its lines, four places each, have more than theirs.
  pub explanation_8 : (explanation_number (explained o k ws set x y sign d m l) ≡ 8)
      ↔ (Read o k ws set × (GoodStatement o (o + k) x y sign × ((2 * (o + k) ≤ length d)
      × ((size : ℕ) × (r : ReasonOf o k (chosen set ws) x y sign size) × ((length m < size) ⊎ (length l < 4 * derived_size o set ws x r.xs r.ys))))))
  explanation_8 =
      then ((explanation_obeys o k ws set x y sign d m l).exactly 8)
      (over_net o k ws set (λ net. and_then (good_statement o (o + k) x y sign)
      (λ g. both (room o k ws set x y sign d m)
      (has_path o k ws set x y sign d m net g (λ size xs ys. (length m < size) ⊎ (length l < 4 * derived_size o set ws x xs ys))
      (λ xs ys w. decides_either (ltb (length m) (length all)) (ltb (length l) (4 * length ls)) (decides_below (length m) (length all))
      (subst (λ (n : ℕ). Decides (ltb (length l) (4 * length ls)) (length l < 4 * n)) (lines_of_lem xs ys w) (decides_below (length l) (4 * length ls))))))))

  -- 0: there is one, and reason and lines have room.
  pub explanation_0 : (explanation_number (explained o k ws set x y sign d m l) ≡ 0)
      ↔ (Read o k ws set × (GoodStatement o (o + k) x y sign × ((2 * (o + k) ≤ length d)
      × ((size : ℕ) × (r : ReasonOf o k (chosen set ws) x y sign size) × ((size ≤ length m) × (4 * derived_size o set ws x r.xs r.ys ≤ length l))))))
  explanation_0 =
      then ((explanation_obeys o k ws set x y sign d m l).exactly 0)
      (over_net o k ws set (λ net. and_then (good_statement o (o + k) x y sign)
      (λ g. both (room o k ws set x y sign d m)
      (has_path o k ws set x y sign d m net g (λ size xs ys. (size ≤ length m) × (4 * derived_size o set ws x xs ys ≤ length l))
      (λ xs ys w. first_only (neither (ltb (length m) (length all)) (ltb (length l) (4 * length ls)) (at_least (length m) (length all))
      (subst (λ (n : ℕ). (ltb (length l) (4 * length ls) ≡ false) ↔ (4 * n ≤ length l)) (lines_of_lem xs ys w) (at_least (length l) (4 * length ls)))))))))

-- ── the derivation check ──

module _ (o k : ℕ) (ws : List ℕ) (set x y sign : ℕ) (l : List ℕ) where
  -- 1, 2, 15 and 3 as in every table: too many nodes; too many words; a set above 15; a first illegal word.
  pub derivation_check_1 : (verdict_number (lines_verdict o k ws set x y sign l) ≡ 1) ↔ (1024 < o + k)
  derivation_check_1 = number_1 o k ws set (derivation_check_obeys o k ws set x y sign l)

  pub derivation_check_2 : (verdict_number (lines_verdict o k ws set x y sign l) ≡ 2) ↔ ((o + k ≤ 1024) × (2097152 < length ws))
  derivation_check_2 = number_2 o k ws set (derivation_check_obeys o k ws set x y sign l)

  pub derivation_check_15 : (verdict_number (lines_verdict o k ws set x y sign l) ≡ 15) ↔ ((o + k ≤ 1024) × ((length ws ≤ 2097152) × (15 < set)))
  derivation_check_15 = number_15 o k ws set (derivation_check_obeys o k ws set x y sign l)

  pub derivation_check_3 : (verdict_number (lines_verdict o k ws set x y sign l) ≡ 3)
      ↔ ((o + k ≤ 1024) × ((length ws ≤ 2097152) × ((set ≤ 15) × FirstIllegal o k ws (first o k ws))))
  derivation_check_3 = number_3 o k ws set (derivation_check_obeys o k ws set x y sign l)

  -- 4: over a net, it is not so that x is a node, y a kind, and the sign 0 or 1.
  pub derivation_check_4 : (verdict_number (lines_verdict o k ws set x y sign l) ≡ 4) ↔ (Read o k ws set × (GoodStatement o (o + k) x y sign → ⊥))
  derivation_check_4 = then ((derivation_check_obeys o k ws set x y sign l).exactly 4) (past_net o k ws set (clause_4_statement o k ws x y sign))

  -- 0: nothing of that is wrong. Which lists hold and which fail is in `Explaining`.
  pub derivation_check_0 : (verdict_number (lines_verdict o k ws set x y sign l) ≡ 0) ↔ (Read o k ws set × GoodStatement o (o + k) x y sign)
  derivation_check_0 = then ((derivation_check_obeys o k ws set x y sign l).exactly 0) (past_net o k ws set (first_only (good_statement o (o + k) x y sign)))
