-- The number tables of the test of a word, the check of a net, the scan, the clash test and the completion read aloud: each number in plain terms. The question, the
-- reason and the reason check stand in `PlainAsked`.
use Prim.Native.Nat.{ℕ, ◌+◌, ◌≤◌, ◌<◌}
use mathlib.Core.Path.{◌≡◌, refl, sym, ap, subst, ◌∙◌}
use mathlib.Core.Bool.{Bool, true, false, not}
use mathlib.Core.List.{List, ◌∷◌}
use mathlib.Core.Logic.{◌↔◌}
use lib.Dec.{ltb}
use lib.ListN.{length}
use borrow.Author.Tests.{ltb-true, ltb-false, lt-ltb, le-ltb, not-true, not-false}
use Rattle.theory.specs.Words.{node_limit, word_limit}
use Rattle.theory.specs.Nets.{Net}
use Rattle.theory.specs.Origins.{origin_limit, set_limit, chosen, LegalFrom}
use Rattle.theory.specs.Marks.{commands, scan_start}
use Rattle.theory.specs.Scans.{Count}
use Rattle.theory_laws.proofs.Booleans.{contradiction}
use Rattle.net_word.specs.Legal.{legal_from}
use Rattle.net_word.proofs.Legality.{legal_from_means}
use Rattle.check_word.specs.Table.{check_word}
use Rattle.net.specs.Clauses.{Clause, clause}
use Rattle.net.specs.Table.{check_net}
use Rattle.net.specs.Passing.{FirstIllegal}
use Rattle.scan.specs.Table.{scanned}
use Rattle.theory.specs.Completion.{Lists, complete}
use Rattle.theory.proofs.completion.Completing.{complete_lists, lists_unique}
use Rattle.clash.specs.Table.{clashed_by}
use Rattle.completion.specs.Table.{completed_by}
use Rattle.promises.specs.Numbers.{word_number, checked_number, scan_number, clash_number, completion_number}
use Rattle.promises.specs.Tables.{Obeys}
use Rattle.promises.specs.Engines.{Read}
use Rattle.theory.specs.Clashes.{ClashAt}
use Rattle.promises.proofs.Clashes.{some_clash_exactly}
use Rattle.promises.proofs.Demand1.{word_obeys, net_obeys, scan_obeys, clash_obeys, completion_obeys}
use Rattle.promises.proofs.Tests.{clause_1, clause_2, clause_15, first, clause_3, past_checks, chosen_of, node_exactly, clause_4_start, clause_5, within_exactly, clause_6, clause_7_clash, clause_8}

-- One way of saying it, then another.
pub then : {A B C : Type 0} → A ↔ B → B ↔ C → A ↔ C
then f g = ((λ a. g.0 (f.0 a)), λ c. f.1 (g.1 c))

-- Both parts said otherwise, the second where the first holds.
pub and_then : {A B C D : Type 0} → A ↔ B → (B → C ↔ D) → (A × C) ↔ (B × D)
and_then f g = ((λ p. let b = f.0 p.0 in (b, (g b).0 p.1)), λ p. (f.1 p.0, (g p.0).1 p.1))

pub both : {A B C D : Type 0} → A ↔ B → C ↔ D → (A × C) ↔ (B × D)
both f g = and_then f (λ b. g)

-- A statement, and an equation that holds anyway.
pub first_only : {A B : Type 0} {n : ℕ} → A ↔ B → (A × (n ≡ n)) ↔ B
first_only f = ((λ p. f.0 p.0), λ b. (f.1 b, refl))

-- A number is not below another exactly if that is at most it.
pub at_least : (a b : ℕ) → (ltb a b ≡ false) ↔ (b ≤ a)
at_least a b = (ltb-false a b, le-ltb a b)

-- Past clauses 1, 2, 15 and 3 there is a net to be read with the set.
pub over_net : (o k : ℕ) (ws : List ℕ) (set : ℕ) {D E : Type 0} → (Net o k (chosen set ws) → D ↔ E)
    → ((ltb node_limit (o + k) ≡ false) × ((ltb word_limit (length ws) ≡ false) × ((ltb set_limit set ≡ false) × ((ltb (first o k ws) (length ws) ≡ false) × D)))) ↔ (Read o k ws set × E)
over_net o k ws set f = (
  (λ p. let r = (past_checks o k ws set).0 (p.0, p.1.0, p.1.1.0, p.1.1.1.0) in (r, (f (chosen_of o k ws set r)).0 p.1.1.1.1)),
  λ p. let t = (past_checks o k ws set).1 p.0 in (t.0, (t.1, (t.2, (t.3, (f (chosen_of o k ws set p.0)).1 p.1)))),
)

pub past_net : (o k : ℕ) (ws : List ℕ) (set : ℕ) {D E : Type 0} → D ↔ E
    → ((ltb node_limit (o + k) ≡ false) × ((ltb word_limit (length ws) ≡ false) × ((ltb set_limit set ≡ false) × ((ltb (first o k ws) (length ws) ≡ false) × D)))) ↔ (Read o k ws set × E)
past_net o k ws set f = over_net o k ws set (λ net. f)

-- Numbers 1, 2, 15 and 3 of every operation on a net.
module _ {A : Type 0} {number : A → ℕ} {a b c d : A} {rest : List (Clause A)} {done r : A} (o k : ℕ) (ws : List ℕ) (set : ℕ)
    (h : Obeys number (clause 1 (ltb node_limit (o + k)) a ∷ clause 2 (ltb word_limit (length ws)) b ∷ clause 15 (ltb set_limit set) c ∷ clause 3 (ltb (first o k ws) (length ws)) d ∷ rest) done r) where
  -- 1: there are more than 1,024 nodes.
  pub number_1 : (number r ≡ 1) ↔ (1024 < o + k)
  number_1 = then (h.exactly 1) (clause_1 o k ws)

  -- 2: the nodes are few enough, and there are more than 2,097,152 words.
  pub number_2 : (number r ≡ 2) ↔ ((o + k ≤ 1024) × (2097152 < length ws))
  number_2 = then (h.exactly 2) (both (at_least node_limit (o + k)) (clause_2 o k ws))

  -- 15: nodes and words are few enough, and the set is above 15.
  pub number_15 : (number r ≡ 15) ↔ ((o + k ≤ 1024) × ((length ws ≤ 2097152) × (15 < set)))
  number_15 = then (h.exactly 15) (both (at_least node_limit (o + k)) (both (at_least word_limit (length ws)) (clause_15 o k ws set)))

  -- 3: nodes and words are few enough, the set is at most 15, and there is a first illegal word.
  pub number_3 : (number r ≡ 3) ↔ ((o + k ≤ 1024) × ((length ws ≤ 2097152) × ((set ≤ 15) × FirstIllegal o k ws (first o k ws))))
  number_3 = then (h.exactly 3) (both (at_least node_limit (o + k)) (both (at_least word_limit (length ws)) (both (at_least set_limit set) (clause_3 o k ws))))

-- ── the test of a word ──

module _ (o k w : ℕ) where
  word_passes : (not (legal_from origin_limit o (o + k) w) ≡ false) ↔ LegalFrom o k w
  word_passes = ((λ e. (legal_from_means o k w).0 (not-false _ e)), λ l. rw ((legal_from_means o k w).1 l))

  word_fails : (not (legal_from origin_limit o (o + k) w) ≡ true) ↔ (LegalFrom o k w → ⊥)
  word_fails = ((λ e l. contradiction (sym (not-true _ e) ∙ (legal_from_means o k w).1 l)), λ h. at (legal_from origin_limit o (o + k) w) refl h)
    where
      at : (q : Bool) → legal_from origin_limit o (o + k) w ≡ q → (LegalFrom o k w → ⊥) → not q ≡ true
      at true e h = absurd (h ((legal_from_means o k w).0 e))
      at false e h = refl

  -- 1: there are more than 1,024 nodes.
  pub word_1 : (word_number (check_word o k w) ≡ 1) ↔ (1024 < o + k)
  word_1 = then ((word_obeys o k w).exactly 1) (ltb-true node_limit (o + k), lt-ltb node_limit (o + k))

  -- 3: the nodes are few enough, and the word is illegal.
  pub word_3 : (word_number (check_word o k w) ≡ 3) ↔ ((o + k ≤ 1024) × (LegalFrom o k w → ⊥))
  word_3 = then ((word_obeys o k w).exactly 3) (both (at_least node_limit (o + k)) word_fails)

  -- 0: the nodes are few enough, and the word is legal.
  pub word_0 : (word_number (check_word o k w) ≡ 0) ↔ ((o + k ≤ 1024) × LegalFrom o k w)
  word_0 = then ((word_obeys o k w).exactly 0) (both (at_least node_limit (o + k)) (first_only word_passes))

-- ── the check of a net ──

module _ (o k : ℕ) (ws : List ℕ) (set : ℕ) where
  -- 1, 2, 15 and 3 as in every table: too many nodes; too many words; a set above 15; a first illegal word.
  pub net_1 : (checked_number (check_net o k ws set) ≡ 1) ↔ (1024 < o + k)
  net_1 = number_1 o k ws set (net_obeys o k ws set)

  pub net_2 : (checked_number (check_net o k ws set) ≡ 2) ↔ ((o + k ≤ 1024) × (2097152 < length ws))
  net_2 = number_2 o k ws set (net_obeys o k ws set)

  pub net_15 : (checked_number (check_net o k ws set) ≡ 15) ↔ ((o + k ≤ 1024) × ((length ws ≤ 2097152) × (15 < set)))
  net_15 = number_15 o k ws set (net_obeys o k ws set)

  pub net_3 : (checked_number (check_net o k ws set) ≡ 3)
      ↔ ((o + k ≤ 1024) × ((length ws ≤ 2097152) × ((set ≤ 15) × FirstIllegal o k ws (first o k ws))))
  net_3 = number_3 o k ws set (net_obeys o k ws set)

  -- 0: it is a net, to be read with the set.
  pub net_0 : (checked_number (check_net o k ws set) ≡ 0) ↔ Read o k ws set
  net_0 = then ((net_obeys o k ws set).exactly 0) (
    (λ p. (past_checks o k ws set).0 (p.0, p.1.0, p.1.1.0, p.1.1.1.0)),
    λ r. let t = (past_checks o k ws set).1 r in (t.0, (t.1, (t.2, (t.3, refl)))),
  )

-- ── the scan ──

module _ (o k : ℕ) (ws : List ℕ) (set x budget : ℕ) (m : List ℕ) where
  -- 1, 2, 15 and 3 as in every table: too many nodes; too many words; a set above 15; a first illegal word.
  pub scan_1 : (scan_number (scanned o k ws set x budget m) ≡ 1) ↔ (1024 < o + k)
  scan_1 = number_1 o k ws set (scan_obeys o k ws set x budget m)

  pub scan_2 : (scan_number (scanned o k ws set x budget m) ≡ 2) ↔ ((o + k ≤ 1024) × (2097152 < length ws))
  scan_2 = number_2 o k ws set (scan_obeys o k ws set x budget m)

  pub scan_15 : (scan_number (scanned o k ws set x budget m) ≡ 15) ↔ ((o + k ≤ 1024) × ((length ws ≤ 2097152) × (15 < set)))
  scan_15 = number_15 o k ws set (scan_obeys o k ws set x budget m)

  pub scan_3 : (scan_number (scanned o k ws set x budget m) ≡ 3)
      ↔ ((o + k ≤ 1024) × ((length ws ≤ 2097152) × ((set ≤ 15) × FirstIllegal o k ws (first o k ws))))
  scan_3 = number_3 o k ws set (scan_obeys o k ws set x budget m)

  -- 4: over a net, the start is no node.
  pub scan_4 : (scan_number (scanned o k ws set x budget m) ≡ 4) ↔ (Read o k ws set × (x < o + k → ⊥))
  scan_4 = then ((scan_obeys o k ws set x budget m).exactly 4) (past_net o k ws set (clause_4_start o k ws x))

  -- 5: over a net and from a node, the marks are too short.
  pub scan_5 : (scan_number (scanned o k ws set x budget m) ≡ 5) ↔ (Read o k ws set × ((x < o + k) × (length m < o + k)))
  scan_5 = then ((scan_obeys o k ws set x budget m).exactly 5) (past_net o k ws set (both (node_exactly o k ws x) (clause_5 o k ws m)))

  module _ (c : ℕ) (count : Count commands (chosen set ws) (scan_start (o + k) x) c) where
    -- 6: nothing else is wrong, and the count c is above the budget.
    pub scan_6 : (scan_number (scanned o k ws set x budget m) ≡ 6) ↔ (Read o k ws set × ((x < o + k) × ((o + k ≤ length m) × (budget < c))))
    scan_6 =
        then ((scan_obeys o k ws set x budget m).exactly 6)
        (past_net o k ws set (both (node_exactly o k ws x) (both (at_least (length m) (o + k)) (clause_6 commands (chosen set ws) (scan_start (o + k) x) budget c count))))

    -- 0: nothing is wrong, and the count is within the budget.
    pub scan_0 : (scan_number (scanned o k ws set x budget m) ≡ 0) ↔ (Read o k ws set × ((x < o + k) × ((o + k ≤ length m) × (c ≤ budget))))
    scan_0 =
        then ((scan_obeys o k ws set x budget m).exactly 0)
        (past_net o k ws set (both (node_exactly o k ws x) (both (at_least (length m) (o + k)) (first_only (within_exactly commands (chosen set ws) (scan_start (o + k) x) budget c count)))))

-- ── the clash test ──

module _ (o k : ℕ) (ws : List ℕ) (set : ℕ) (m : List ℕ) where
  -- 1, 2, 15 and 3 as of a scan.
  pub clash_1 : (clash_number (clashed_by o k ws set m) ≡ 1) ↔ (1024 < o + k)
  clash_1 = number_1 o k ws set (clash_obeys o k ws set m)

  pub clash_2 : (clash_number (clashed_by o k ws set m) ≡ 2) ↔ ((o + k ≤ 1024) × (2097152 < length ws))
  clash_2 = number_2 o k ws set (clash_obeys o k ws set m)

  pub clash_15 : (clash_number (clashed_by o k ws set m) ≡ 15) ↔ ((o + k ≤ 1024) × ((length ws ≤ 2097152) × (15 < set)))
  clash_15 = number_15 o k ws set (clash_obeys o k ws set m)

  pub clash_3 : (clash_number (clashed_by o k ws set m) ≡ 3) ↔ ((o + k ≤ 1024) × ((length ws ≤ 2097152) × ((set ≤ 15) × FirstIllegal o k ws (first o k ws))))
  clash_3 = number_3 o k ws set (clash_obeys o k ws set m)

  -- 5: over a net, the marks are too short.
  pub clash_5 : (clash_number (clashed_by o k ws set m) ≡ 5) ↔ (Read o k ws set × (length m < o + k))
  clash_5 = then ((clash_obeys o k ws set m).exactly 5) (past_net o k ws set (clause_5 o k ws m))

  -- 7: over a net and with marks long enough, no node clashes.
  pub clash_7 : (clash_number (clashed_by o k ws set m) ≡ 7) ↔ (Read o k ws set × ((o + k ≤ length m) × ((x y : ℕ) → ClashAt o k (chosen set ws) x y → ⊥)))
  clash_7 = then ((clash_obeys o k ws set m).exactly 7) (over_net o k ws set (λ n. both (at_least (length m) (o + k)) (clause_7_clash o k (chosen set ws) n)))

  -- 0: over a net and with marks long enough, some node clashes.
  pub clash_0 : (clash_number (clashed_by o k ws set m) ≡ 0) ↔ (Read o k ws set × ((o + k ≤ length m) × ((x : ℕ) × (y : ℕ) × ClashAt o k (chosen set ws) x y)))
  clash_0 = then ((clash_obeys o k ws set m).exactly 0) (over_net o k ws set (λ n. both (at_least (length m) (o + k)) (first_only (some_clash_exactly o k (chosen set ws) n))))

-- ── the completion ──

-- Where `out` are the words that a net supports, the list is too short for them, or has room.
module _ (o k : ℕ) (ws out : List ℕ) (words : Lists o k ws out) (l : List ℕ) (n : Net o k ws) where
  size : length (complete o k ws) ≡ length out
  size = ap (length {A = ℕ}) (lists_unique o k ws (complete o k ws) out (complete_lists o k ws n) words)

  pub list_short : (ltb (length l) (length (complete o k ws)) ≡ true) ↔ (length l < length out)
  list_short = subst (λ (i : ℕ). (ltb (length l) (length (complete o k ws)) ≡ true) ↔ (length l < i)) size (clause_8 l (complete o k ws))

  pub list_room : (ltb (length l) (length (complete o k ws)) ≡ false) ↔ (length out ≤ length l)
  list_room = subst (λ (i : ℕ). (ltb (length l) (length (complete o k ws)) ≡ false) ↔ (i ≤ length l)) size (at_least (length l) (length (complete o k ws)))

module _ (o k : ℕ) (ws : List ℕ) (set : ℕ) (m l : List ℕ) where
  -- 1, 2, 15 and 3 as of a scan.
  pub completion_1 : (completion_number (completed_by o k ws set m l) ≡ 1) ↔ (1024 < o + k)
  completion_1 = number_1 o k ws set (completion_obeys o k ws set m l)

  pub completion_2 : (completion_number (completed_by o k ws set m l) ≡ 2) ↔ ((o + k ≤ 1024) × (2097152 < length ws))
  completion_2 = number_2 o k ws set (completion_obeys o k ws set m l)

  pub completion_15 : (completion_number (completed_by o k ws set m l) ≡ 15) ↔ ((o + k ≤ 1024) × ((length ws ≤ 2097152) × (15 < set)))
  completion_15 = number_15 o k ws set (completion_obeys o k ws set m l)

  pub completion_3 : (completion_number (completed_by o k ws set m l) ≡ 3)
      ↔ ((o + k ≤ 1024) × ((length ws ≤ 2097152) × ((set ≤ 15) × FirstIllegal o k ws (first o k ws))))
  completion_3 = number_3 o k ws set (completion_obeys o k ws set m l)

  -- 5: over a net, the marks are too short.
  pub completion_5 : (completion_number (completed_by o k ws set m l) ≡ 5) ↔ (Read o k ws set × (length m < o + k))
  completion_5 = then ((completion_obeys o k ws set m l).exactly 5) (past_net o k ws set (clause_5 o k ws m))

  -- The supported words are those of `out`.
  module _ (out : List ℕ) (words : Lists o k (chosen set ws) out) where
    -- 8: over a net and with marks long enough, the list is shorter than the supported words.
    pub completion_8 : (completion_number (completed_by o k ws set m l) ≡ 8) ↔ (Read o k ws set × ((o + k ≤ length m) × (length l < length out)))
    completion_8 = then ((completion_obeys o k ws set m l).exactly 8) (over_net o k ws set (λ n. both (at_least (length m) (o + k)) (list_short o k (chosen set ws) out words l n)))

    -- 0: over a net, both have room for what goes there.
    pub completion_0 : (completion_number (completed_by o k ws set m l) ≡ 0) ↔ (Read o k ws set × ((o + k ≤ length m) × (length out ≤ length l)))
    completion_0 =
        then ((completion_obeys o k ws set m l).exactly 0)
        (over_net o k ws set (λ n. both (at_least (length m) (o + k)) (first_only (list_room o k (chosen set ws) out words l n))))
