-- The number tables of the question, the reason and the reason check read aloud: each number in plain terms.
use Prim.Native.Nat.{ℕ, ◌+◌, ◌*◌, ◌≤◌, ◌<◌}
use mathlib.Core.Path.{◌≡◌, refl, sym, ap, subst, ◌∙◌}
use mathlib.Core.Bool.{false}
use mathlib.Core.List.{List}
use mathlib.Core.Logic.{◌↔◌}
use native.Mathlib.Omega.{arith}
use lib.Dec.{eqb, ltb}
use lib.ListN.{length, get_or}
use borrow.Author.Tests.{ltb-true, lt-ltb}
use Rattle.theory.specs.Words.{sign_at}
use Rattle.theory.specs.Nets.{Links, Net}
use Rattle.theory.specs.Support.{Supported}
use Rattle.theory.specs.Reasons.{written, never}
use Rattle.theory.specs.Searches.{distances}
use Rattle.theory.proofs.Legal.{legal_links}
use Rattle.theory.proofs.support.Lemma1.{lemma1}
use Rattle.theory.proofs.reason.Repeats.{strict_shows}
use Rattle.theory.proofs.reason.Shortest.{shortest_unique}
use Rattle.theory.specs.Origins.{chosen}
use Rattle.net.specs.Good.{GoodPair, GoodStatement}
use Rattle.net.specs.Passing.{FirstIllegal}
use Rattle.net.proofs.Good.{good_pair, good_statement, good_kind}
use Rattle.question.specs.Table.{questioned}
use Rattle.reason.specs.Table.{reason_of, reasoned}
use Rattle.reason_check.specs.Table.{verdict}
use Rattle.promises.specs.Numbers.{question_number, reason_number, verdict_number}
use Rattle.promises.specs.Engines.{Read}
use Rattle.promises.specs.Reasoning.{ReasonOf}
use Rattle.promises.proofs.Demand1.{question_obeys, reason_obeys, check_obeys}
use Rattle.promises.proofs.Tests.{clause_4_pair, clause_4_statement, clause_5, clause_5_scratch, first, away_exactly, clause_7_reason}
use Rattle.promises.proofs.Plain.{then, and_then, both, first_only, at_least, over_net, past_net, number_1, number_2, number_15, number_3}
use Rattle.promises.proofs.Reasoning.{reason_of_lem}

-- ── the question ──

module _ (o k : ℕ) (ws : List ℕ) (set x y : ℕ) (m : List ℕ) where
  -- 1, 2, 15 and 3 as in every table: too many nodes; too many words; a set above 15; a first illegal word.
  pub question_1 : (question_number (questioned o k ws set x y m) ≡ 1) ↔ (1024 < o + k)
  question_1 = number_1 o k ws set (question_obeys o k ws set x y m)

  pub question_2 : (question_number (questioned o k ws set x y m) ≡ 2) ↔ ((o + k ≤ 1024) × (2097152 < length ws))
  question_2 = number_2 o k ws set (question_obeys o k ws set x y m)

  pub question_15 : (question_number (questioned o k ws set x y m) ≡ 15) ↔ ((o + k ≤ 1024) × ((length ws ≤ 2097152) × (15 < set)))
  question_15 = number_15 o k ws set (question_obeys o k ws set x y m)

  pub question_3 : (question_number (questioned o k ws set x y m) ≡ 3)
      ↔ ((o + k ≤ 1024) × ((length ws ≤ 2097152) × ((set ≤ 15) × FirstIllegal o k ws (first o k ws))))
  question_3 = number_3 o k ws set (question_obeys o k ws set x y m)

  -- 4: over a net, it is not so that x is a node and y a kind.
  pub question_4 : (question_number (questioned o k ws set x y m) ≡ 4) ↔ (Read o k ws set × (GoodPair o (o + k) x y → ⊥))
  question_4 = then ((question_obeys o k ws set x y m).exactly 4) (past_net o k ws set (clause_4_pair o k ws x y))

  -- 5: over a net and of a node and a kind, the marks are too short.
  pub question_5 : (question_number (questioned o k ws set x y m) ≡ 5) ↔ (Read o k ws set × (GoodPair o (o + k) x y × (length m < o + k)))
  question_5 = then ((question_obeys o k ws set x y m).exactly 5) (past_net o k ws set (both (good_pair o (o + k) x y) (clause_5 o k ws m)))

  -- 0: nothing is wrong.
  pub question_0 : (question_number (questioned o k ws set x y m) ≡ 0) ↔ (Read o k ws set × (GoodPair o (o + k) x y × (o + k ≤ length m)))
  question_0 =
      then ((question_obeys o k ws set x y m).exactly 0)
      (past_net o k ws set (both (good_pair o (o + k) x y) (first_only (at_least (length m) (o + k)))))

-- ── the reason ──

module _ (o k : ℕ) (ws : List ℕ) (set x y sign : ℕ) (d l : List ℕ) where
  -- 1, 2, 15 and 3 as in every table: too many nodes; too many words; a set above 15; a first illegal word.
  pub reason_1 : (reason_number (reasoned o k ws set x y sign d l) ≡ 1) ↔ (1024 < o + k)
  reason_1 = number_1 o k ws set (reason_obeys o k ws set x y sign d l)

  pub reason_2 : (reason_number (reasoned o k ws set x y sign d l) ≡ 2) ↔ ((o + k ≤ 1024) × (2097152 < length ws))
  reason_2 = number_2 o k ws set (reason_obeys o k ws set x y sign d l)

  pub reason_15 : (reason_number (reasoned o k ws set x y sign d l) ≡ 15) ↔ ((o + k ≤ 1024) × ((length ws ≤ 2097152) × (15 < set)))
  reason_15 = number_15 o k ws set (reason_obeys o k ws set x y sign d l)

  pub reason_3 : (reason_number (reasoned o k ws set x y sign d l) ≡ 3)
      ↔ ((o + k ≤ 1024) × ((length ws ≤ 2097152) × ((set ≤ 15) × FirstIllegal o k ws (first o k ws))))
  reason_3 = number_3 o k ws set (reason_obeys o k ws set x y sign d l)

  -- 4: over a net, it is not so that x is a node, y a kind, and the sign 0 or 1.
  pub reason_4 : (reason_number (reasoned o k ws set x y sign d l) ≡ 4) ↔ (Read o k ws set × (GoodStatement o (o + k) x y sign → ⊥))
  reason_4 = then ((reason_obeys o k ws set x y sign d l).exactly 4) (past_net o k ws set (clause_4_statement o k ws x y sign))

  -- 5: over a net and of a good statement, the scratch has less than 2N places.
  pub reason_5 : (reason_number (reasoned o k ws set x y sign d l) ≡ 5) ↔ (Read o k ws set × (GoodStatement o (o + k) x y sign × (length d < 2 * (o + k))))
  reason_5 = then ((reason_obeys o k ws set x y sign d l).exactly 5) (past_net o k ws set (both (good_statement o (o + k) x y sign) (clause_5_scratch o k ws d)))

  -- The scratch has 2N places.
  pub room : (ltb (length d) ((o + k) + (o + k)) ≡ false) ↔ (2 * (o + k) ≤ length d)
  room = then (at_least (length d) ((o + k) + (o + k))) ((λ h. omega arith), λ h. omega arith)

  -- 7: nothing of that is wrong, and the statement is not supported.
  pub reason_7 : (reason_number (reasoned o k ws set x y sign d l) ≡ 7)
      ↔ (Read o k ws set × (GoodStatement o (o + k) x y sign × ((2 * (o + k) ≤ length d) × (Supported o k (Links (chosen set ws)) x y (sign_at sign) → ⊥))))
  reason_7 =
      then ((reason_obeys o k ws set x y sign d l).exactly 7)
      (over_net o k ws set (λ net. and_then (good_statement o (o + k) x y sign)
      (λ g. both room (clause_7_reason o k (chosen set ws) net x g.pair.node y (good_kind g.pair) (sign_at sign)))))

  module _ (net : Net o k (chosen set ws)) (g : GoodStatement o (o + k) x y sign) where
    -- No second path is the shortest reason's,
    pub one_path : (a b : ℕ) (r : ReasonOf o k (chosen set ws) x y sign a) (q : ReasonOf o k (chosen set ws) x y sign b) → (r.xs ≡ q.xs) × (r.ys ≡ q.ys)
    one_path a b r q =
        shortest_unique o k (Links (chosen set ws)) (legal_links o k (chosen set ws) net.legal) x g.pair.node y (good_kind g.pair) (sign_at sign) r.xs r.ys q.xs q.ys r.shortest
        q.shortest

    -- and no second number of places.
    pub one_size : (a b : ℕ) → ReasonOf o k (chosen set ws) x y sign a → ReasonOf o k (chosen set ws) x y sign b → a ≡ b
    one_size a b r q =
        let (e, f) = one_path a b r q in
        r.long ∙ ap (λ (v : List ℕ). length (written x v r.ys)) e ∙ ap (λ (v : List ℕ). length (written x q.xs v)) f ∙ sym q.long

    -- What has a reason is supported.
    shown : (size : ℕ) → ReasonOf o k (chosen set ws) x y sign size → Supported o k (Links (chosen set ws)) x y (sign_at sign)
    shown size r =
        (lemma1 o k (Links (chosen set ws)) (legal_links o k (chosen set ws) net.legal) x y (sign_at sign)).1
        (r.xs, r.ys, strict_shows o k (Links (chosen set ws)) x y (sign_at sign) r.xs r.ys (good_kind g.pair) r.shortest.path)

    abbrev all : List ℕ
    all = reason_of (chosen set ws) x y sign (o + k)

    -- Past clause 7 there is a shortest reason, its path and its places are those of the reason computed, and P holds of them exactly if D does.
    pub has_path : (P : ℕ → List ℕ → List ℕ → Type 0) {D : Type 0}
        → ((xs ys : List ℕ) → all ≡ written x xs ys → D ↔ P (length all) xs ys)
        → ((eqb (get_or (distances (o + k) (sign_at sign) (chosen set ws) y) x never) never ≡ false) × D)
        ↔ ((size : ℕ) × (r : ReasonOf o k (chosen set ws) x y sign size) × P size r.xs r.ys)
    has_path P {D} f = (there, back)
      where
        found : eqb (get_or (distances (o + k) (sign_at sign) (chosen set ws) y) x never) never ≡ false → (r : ReasonOf o k (chosen set ws) x y sign (length all)) × (all ≡ written x r.xs r.ys)
        found e = reason_of_lem o k (chosen set ws) x y sign net g.pair.node (good_kind g.pair) e _ refl

        there : (eqb (get_or (distances (o + k) (sign_at sign) (chosen set ws) y) x never) never ≡ false) × D → ((size : ℕ) × (r : ReasonOf o k (chosen set ws) x y sign size) × P size r.xs r.ys)
        there p = let (r, w) = found p.0 in (length all, r, (f r.xs r.ys w).0 p.1)

        back : ((size : ℕ) × (r : ReasonOf o k (chosen set ws) x y sign size) × P size r.xs r.ys) → (eqb (get_or (distances (o + k) (sign_at sign) (chosen set ws) y) x never) never ≡ false) × D
        back (size, r, p) =
            let some = (away_exactly o k (chosen set ws) net x g.pair.node y (good_kind g.pair) (sign_at sign)).1 (shown size r) in
            let (q, w) = found some in
            let (a, b) = one_path size (length all) r q in
            let same : P (length all) q.xs q.ys =
            subst (λ (n : ℕ). P n q.xs q.ys) (one_size size (length all) r q) (subst (λ (v : List ℕ). P size v q.ys) a (subst (P size r.xs) b p)) in
            (some, (f q.xs q.ys w).1 same)

    -- The same of its places alone.
    pub has : (P : ℕ → Type 0) {D : Type 0} → D ↔ P (length all)
        → ((eqb (get_or (distances (o + k) (sign_at sign) (chosen set ws) y) x never) never ≡ false) × D) ↔ ((size : ℕ) × ReasonOf o k (chosen set ws) x y sign size × P size)
    has P f = has_path (λ size xs ys. P size) (λ xs ys w. f)

  -- 8: there is a shortest reason, and as it is written it has more places than the list.
  pub reason_8 : (reason_number (reasoned o k ws set x y sign d l) ≡ 8)
      ↔ (Read o k ws set × (GoodStatement o (o + k) x y sign × ((2 * (o + k) ≤ length d) × ((size : ℕ) × ReasonOf o k (chosen set ws) x y sign size × (length l < size)))))
  reason_8 =
      then ((reason_obeys o k ws set x y sign d l).exactly 8)
      (over_net o k ws set (λ net. and_then (good_statement o (o + k) x y sign)
      (λ g. both room (has net g (λ size. length l < size) (ltb-true (length l) _, lt-ltb (length l) _)))))

  -- 0: there is one, and it has room.
  pub reason_0 : (reason_number (reasoned o k ws set x y sign d l) ≡ 0)
      ↔ (Read o k ws set × (GoodStatement o (o + k) x y sign × ((2 * (o + k) ≤ length d) × ((size : ℕ) × ReasonOf o k (chosen set ws) x y sign size × (size ≤ length l)))))
  reason_0 =
      then ((reason_obeys o k ws set x y sign d l).exactly 0)
      (over_net o k ws set (λ net. and_then (good_statement o (o + k) x y sign)
      (λ g. both room (has net g (λ size. size ≤ length l) (first_only (at_least (length l) _))))))

-- ── the reason check ──

module _ (o k : ℕ) (ws : List ℕ) (set x y sign : ℕ) (l : List ℕ) where
  -- 1, 2, 15 and 3 as in every table: too many nodes; too many words; a set above 15; a first illegal word.
  pub check_1 : (verdict_number (verdict o k ws set x y sign l) ≡ 1) ↔ (1024 < o + k)
  check_1 = number_1 o k ws set (check_obeys o k ws set x y sign l)

  pub check_2 : (verdict_number (verdict o k ws set x y sign l) ≡ 2) ↔ ((o + k ≤ 1024) × (2097152 < length ws))
  check_2 = number_2 o k ws set (check_obeys o k ws set x y sign l)

  pub check_15 : (verdict_number (verdict o k ws set x y sign l) ≡ 15) ↔ ((o + k ≤ 1024) × ((length ws ≤ 2097152) × (15 < set)))
  check_15 = number_15 o k ws set (check_obeys o k ws set x y sign l)

  pub check_3 : (verdict_number (verdict o k ws set x y sign l) ≡ 3)
      ↔ ((o + k ≤ 1024) × ((length ws ≤ 2097152) × ((set ≤ 15) × FirstIllegal o k ws (first o k ws))))
  check_3 = number_3 o k ws set (check_obeys o k ws set x y sign l)

  -- 4: over a net, it is not so that x is a node, y a kind, and the sign 0 or 1.
  pub check_4 : (verdict_number (verdict o k ws set x y sign l) ≡ 4) ↔ (Read o k ws set × (GoodStatement o (o + k) x y sign → ⊥))
  check_4 = then ((check_obeys o k ws set x y sign l).exactly 4) (past_net o k ws set (clause_4_statement o k ws x y sign))

  -- 0: nothing of that is wrong. Which lists hold and which fail is in `Reasoning`.
  pub check_0 : (verdict_number (verdict o k ws set x y sign l) ≡ 0) ↔ (Read o k ws set × GoodStatement o (o + k) x y sign)
  check_0 = then ((check_obeys o k ws set x y sign l).exactly 0) (past_net o k ws set (first_only (good_statement o (o + k) x y sign)))
