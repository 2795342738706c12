-- The number tables of the operations on a plain list read aloud: each number in plain terms.
use Prim.Native.Nat.{ℕ, ◌+◌, ◌*◌, ◌/◌, ◌≤◌, ◌<◌}
use mathlib.Core.Path.{◌≡◌}
use mathlib.Core.Bool.{false}
use mathlib.Core.List.{List, ◌∷◌}
use mathlib.Core.Logic.{◌⊎◌, ◌↔◌}
use native.Mathlib.Omega.{arith}
use lib.Dec.{ltb}
use lib.ListN.{length}
use Rattle.theory.specs.Words.{node_limit, word_limit}
use Rattle.theory.specs.Nets.{Net}
use Rattle.theory_laws.specs.Deciding.{Decides}
use Rattle.theory_laws.proofs.Deciding.{decides_below, decides_either, decides_same}
use Rattle.theory_laws.proofs.Booleans.{or_none_left, or_none_right}
use borrow.Author.Tests.{ltb-false, le-ltb}
use Rattle.net.specs.Clauses.{Clause, clause}
use Rattle.net.specs.Passing.{FirstIllegalPlain}
use Rattle.compact.specs.Table.{compacted_by}
use Rattle.mend.specs.Table.{too_short, mended_by}
use Rattle.promises.specs.Numbers.{compaction_number, mending_number}
use Rattle.promises.specs.Tables.{Obeys}
use Rattle.promises.proofs.Demand1.{compaction_obeys, mending_obeys}
use Rattle.promises.proofs.Tests.{clause_1, clause_2, first_plain, clause_3_plain, past_plain, clause_5}
use Rattle.promises.proofs.Plain.{then, both, first_only, at_least}

-- Past clauses 1, 2 and 3 there is a net.
pub over_list : (o k : ℕ) (ws : List ℕ) {D E : Type 0} → D ↔ E
    → ((ltb node_limit (o + k) ≡ false) × ((ltb word_limit (length ws) ≡ false) × ((ltb (first_plain o k ws) (length ws) ≡ false) × D))) ↔ (Net o k ws × E)
over_list o k ws f = (
  (λ p. ((past_plain o k ws).0 (p.0, p.1.0, p.1.1.0), f.0 p.1.1.1)),
  λ p. let t = (past_plain o k ws).1 p.0 in (t.0, (t.1, (t.2, f.1 p.1))),
)

-- Numbers 1, 2 and 3 of every operation on a plain list.
module _ {A : Type 0} {number : A → ℕ} {a b c : A} {rest : List (Clause A)} {done r : A} (o k : ℕ) (ws : List ℕ)
    (h : Obeys number (clause 1 (ltb node_limit (o + k)) a ∷ clause 2 (ltb word_limit (length ws)) b ∷ clause 3 (ltb (first_plain o k ws) (length ws)) c ∷ rest) done r) where
  -- 1: there are more than 1,024 nodes.
  pub list_1 : (number r ≡ 1) ↔ (1024 < o + k)
  list_1 = then (h.exactly 1) (clause_1 o k ws)

  -- 2: the nodes are few enough, and there are more than 2,097,152 words.
  pub list_2 : (number r ≡ 2) ↔ ((o + k ≤ 1024) × (2097152 < length ws))
  list_2 = then (h.exactly 2) (both (at_least node_limit (o + k)) (clause_2 o k ws))

  -- 3: nodes and words are few enough, and there is a first illegal word.
  pub list_3 : (number r ≡ 3) ↔ ((o + k ≤ 1024) × ((length ws ≤ 2097152) × FirstIllegalPlain o k ws (first_plain o k ws)))
  list_3 = then (h.exactly 3) (both (at_least node_limit (o + k)) (both (at_least word_limit (length ws)) (clause_3_plain o k ws)))

-- ── the compaction ──

module _ (o k : ℕ) (ws m : List ℕ) where
  -- 1, 2 and 3 as in every such table: too many nodes; too many words; a first illegal word.
  pub compaction_1 : (compaction_number (compacted_by o k ws m) ≡ 1) ↔ (1024 < o + k)
  compaction_1 = list_1 o k ws (compaction_obeys o k ws m)

  pub compaction_2 : (compaction_number (compacted_by o k ws m) ≡ 2) ↔ ((o + k ≤ 1024) × (2097152 < length ws))
  compaction_2 = list_2 o k ws (compaction_obeys o k ws m)

  pub compaction_3 : (compaction_number (compacted_by o k ws m) ≡ 3) ↔ ((o + k ≤ 1024) × ((length ws ≤ 2097152) × FirstIllegalPlain o k ws (first_plain o k ws)))
  compaction_3 = list_3 o k ws (compaction_obeys o k ws m)

  -- 5: over a net, the marks are too short.
  pub compaction_5 : (compaction_number (compacted_by o k ws m) ≡ 5) ↔ (Net o k ws × (length m < o + k))
  compaction_5 = then ((compaction_obeys o k ws m).exactly 5) (over_list o k ws (clause_5 o k ws m))

  -- 0: over a net, the marks are long enough.
  pub compaction_0 : (compaction_number (compacted_by o k ws m) ≡ 0) ↔ (Net o k ws × (o + k ≤ length m))
  compaction_0 = then ((compaction_obeys o k ws m).exactly 0) (over_list o k ws (first_only (at_least (length m) (o + k))))

-- ── mending ──

module _ (o k : ℕ) (ws kept dropped m : List ℕ) where
  -- Clause 8: there are more words than places for the kept ones, or than three places each for the dropped ones.
  short_list : Decides (too_short ws kept dropped) ((length kept < length ws) ⊎ (length dropped < 3 * length ws))
  short_list =
      decides_either (ltb (length kept) (length ws)) (ltb (length dropped / 3) (length ws)) (decides_below (length kept) (length ws))
      (decides_same _ (decides_below (length dropped / 3) (length ws)) (λ h. omega arith) (λ h. omega arith))

  pub room_for_all : (too_short ws kept dropped ≡ false) ↔ ((length ws ≤ length kept) × (3 * length ws ≤ length dropped))
  room_for_all = (
    (λ e.
        let a = ltb-false (length kept) (length ws) (or_none_left (ltb (length kept) (length ws)) (ltb (length dropped / 3) (length ws)) e) in
        let b = ltb-false (length dropped / 3) (length ws) (or_none_right (ltb (length kept) (length ws)) (ltb (length dropped / 3) (length ws)) e) in
        (a, omega arith)),
    λ p.
        let a = p.0 in
        let b = p.1 in
        let q : length ws ≤ length dropped / 3 = omega arith in
        rw (le-ltb (length kept) (length ws) a, le-ltb (length dropped / 3) (length ws) q),
  )

  -- 1, 2 and 3 as of a compaction.
  pub mending_1 : (mending_number (mended_by o k ws kept dropped m) ≡ 1) ↔ (1024 < o + k)
  mending_1 = list_1 o k ws (mending_obeys o k ws kept dropped m)

  pub mending_2 : (mending_number (mended_by o k ws kept dropped m) ≡ 2) ↔ ((o + k ≤ 1024) × (2097152 < length ws))
  mending_2 = list_2 o k ws (mending_obeys o k ws kept dropped m)

  pub mending_3 : (mending_number (mended_by o k ws kept dropped m) ≡ 3) ↔ ((o + k ≤ 1024) × ((length ws ≤ 2097152) × FirstIllegalPlain o k ws (first_plain o k ws)))
  mending_3 = list_3 o k ws (mending_obeys o k ws kept dropped m)

  -- 5: over a net, the marks are too short.
  pub mending_5 : (mending_number (mended_by o k ws kept dropped m) ≡ 5) ↔ (Net o k ws × (length m < o + k))
  mending_5 = then ((mending_obeys o k ws kept dropped m).exactly 5) (over_list o k ws (clause_5 o k ws m))

  -- 8: over a net and with marks long enough, one of the lists has room for fewer entries than the words read.
  pub mending_8 : (mending_number (mended_by o k ws kept dropped m) ≡ 8)
      ↔ (Net o k ws × ((o + k ≤ length m) × ((length kept < length ws) ⊎ (length dropped < 3 * length ws))))
  mending_8 = then ((mending_obeys o k ws kept dropped m).exactly 8) (over_list o k ws (both (at_least (length m) (o + k)) short_list))

  -- 0: over a net, all three have room.
  pub mending_0 : (mending_number (mended_by o k ws kept dropped m) ≡ 0)
      ↔ (Net o k ws × ((o + k ≤ length m) × ((length ws ≤ length kept) × (3 * length ws ≤ length dropped))))
  mending_0 = then ((mending_obeys o k ws kept dropped m).exactly 0) (over_list o k ws (both (at_least (length m) (o + k)) (first_only room_for_all)))
