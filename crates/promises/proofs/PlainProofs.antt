-- The number tables of the proof and of the proof check read aloud: each number in plain terms.
use Prim.Native.Nat.{ℕ, ◌+◌, ◌-◌, ◌*◌, ◌≤◌, ◌<◌}
use mathlib.Core.Path.{◌≡◌, refl, sym, ap, subst, ◌∙◌}
use mathlib.Core.Bool.{Bool, true, false, cond}
use mathlib.Core.List.{List, [], ◌∷◌}
use mathlib.Core.Logic.{◌⊎◌, inl, inr, ◌↔◌, ⊎_elim}
use native.Mathlib.Omega.{arith}
use lib.Dec.{ltb}
use lib.ListN.{length}
use borrow.Author.Tests.{ltb-true, ltb-false, le-ltb}
use Rattle.theory_laws.proofs.Deciding.{decides_below}
use Rattle.theory.specs.Words.{Sign, is, word, sign_at, sign_number}
use Rattle.theory.specs.Nets.{Links}
use Rattle.theory.specs.Support.{Supported}
use Rattle.theory.specs.Origins.{chosen}
use Rattle.theory.specs.ProofFiles.{depth_limit, Proves}
use Rattle.theory.proofs.reason.Reason.{reason_length}
use Rattle.net.specs.Good.{GoodStatement}
use Rattle.net.specs.Passing.{FirstIllegal}
use Rattle.net.proofs.Good.{good_statement, good_kind}
use Rattle.reason.specs.Table.{reason_of}
use Rattle.proof_form.specs.Ours.{chain_file, our_depth}
use Rattle.proof_form.specs.FromReason.{hops_from, start_at, from_reason}
use Rattle.proof.specs.Table.{links_of, proof_of, proved}
use Rattle.proof.proofs.Putting.{object_size, kind_size}
use Rattle.proof_check.specs.Table.{judged}
use Rattle.promises.specs.Numbers.{proof_number, proof_check_number}
use Rattle.promises.specs.Engines.{Read}
use Rattle.promises.specs.Reasoning.{ReasonOf}
use Rattle.promises.proofs.Demand1.{proof_obeys, proof_check_obeys}
use Rattle.promises.proofs.Tests.{first, clause_4_statement, clause_5_scratch, clause_7_reason, clause_11, proves_exactly, clause_12}
use Rattle.promises.proofs.Plain.{then, and_then, both, first_only, at_least, over_net, past_net, number_1, number_2, number_15, number_3}
use Rattle.promises.proofs.PlainAsked.{room, has}

-- How many numbers our proof has, by the places p of its reason, of which m are links.
numbers_of : (o n : ℕ) (ws : List ℕ) (x y : ℕ) (s : Sign) (p : List ℕ) (m : ℕ) → length p ≡ 3 + m
    → length (from_reason o n ws x y s p m) ≡ cond (ltb x o) (8 * (length p - 4) + 6) (8 * (length p - 3) + 9)
unfolding from_reason
numbers_of o n ws x y s p m e = at (ltb x o)
  where
    fewer : m - 1 ≡ length p - 4
    fewer = omega (arith, e)

    as_many : m ≡ length p - 3
    as_many = omega (arith, e)

    at : (q : Bool) → length (cond q (chain_file 0 [] x (start_at x p) (hops_from ws p 1 (m - 1)) (m - 1)) (chain_file 1 ((2 + sign_number s) ∷ n ∷ word x y s ∷ []) n (word n x is) (hops_from ws p 0 m) m))
        ≡ cond q (8 * (length p - 4) + 6) (8 * (length p - 3) + 9)
    at true = ap (λ (i : ℕ). length (chain_file 0 [] x (start_at x p) (hops_from ws p 1 i) i)) fewer ∙ object_size ws p x (start_at x p)
    at false =
        ap (λ (i : ℕ). length (chain_file 1 ((2 + sign_number s) ∷ n ∷ word x y s ∷ []) n (word n x is) (hops_from ws p 0 i) i)) as_many
        ∙ kind_size ws p (2 + sign_number s) n (word x y s) (word n x is)

-- Past clause 11, where E says that Q holds of the number of our numbers.
fits_exactly : (o x links places total : ℕ) → places ≡ 3 + links → total ≡ cond (ltb x o) (8 * (places - 4) + 6) (8 * (places - 3) + 9) → {E : Type 0} (Q : ℕ → Type 0) → E ↔ Q total
    → ((ltb depth_limit (our_depth o x links) ≡ false) × E) ↔ (((x < o) × ((places ≤ 258) × Q (8 * (places - 4) + 6))) ⊎ ((o ≤ x) × ((places ≤ 256) × Q (8 * (places - 3) + 9))))
unfolding our_depth
fits_exactly o x links places total long sized {E} Q f = at (ltb x o) refl sized
  where
    at : (q : Bool) → ltb x o ≡ q → total ≡ cond q (8 * (places - 4) + 6) (8 * (places - 3) + 9)
        → ((ltb depth_limit (cond q links (links + 2)) ≡ false) × E) ↔ (((x < o) × ((places ≤ 258) × Q (8 * (places - 4) + 6))) ⊎ ((o ≤ x) × ((places ≤ 256) × Q (8 * (places - 3) + 9))))
    at true h e = (
      (λ p. let g = ltb-false depth_limit links p.0 in inl (ltb-true x o h, (omega (arith, g, long), subst Q e (f.0 p.1)))),
      ⊎_elim (λ p. let g = p.1.0 in (le-ltb depth_limit links (omega (arith, g, long)), f.1 (subst Q (sym e) p.1.1)))
          (λ p. let a = p.0 in let b = ltb-true x o h in absurd (omega (arith, a, b))),
    )
    at false h e = (
      (λ p. let g = ltb-false depth_limit (links + 2) p.0 in inr (ltb-false x o h, (omega (arith, g, long), subst Q e (f.0 p.1)))),
      ⊎_elim (λ p. let a = p.0 in let b = ltb-false x o h in absurd (omega (arith, a, b)))
          (λ p. let g = p.1.0 in (le-ltb depth_limit (links + 2) (omega (arith, g, long)), f.1 (subst Q (sym e) p.1.1))),
    )

-- ── the proof ──

module _ (o k : ℕ) (ws : List ℕ) (set x y sign : ℕ) (d l : List ℕ) where
  -- 1, 2, 15 and 3 as in every table: too many nodes; too many words; a set above 15; a first illegal word.
  pub proof_1 : (proof_number (proved o k ws set x y sign d l) ≡ 1) ↔ (1024 < o + k)
  proof_1 = number_1 o k ws set (proof_obeys o k ws set x y sign d l)

  pub proof_2 : (proof_number (proved o k ws set x y sign d l) ≡ 2) ↔ ((o + k ≤ 1024) × (2097152 < length ws))
  proof_2 = number_2 o k ws set (proof_obeys o k ws set x y sign d l)

  pub proof_15 : (proof_number (proved o k ws set x y sign d l) ≡ 15) ↔ ((o + k ≤ 1024) × ((length ws ≤ 2097152) × (15 < set)))
  proof_15 = number_15 o k ws set (proof_obeys o k ws set x y sign d l)

  pub proof_3 : (proof_number (proved o k ws set x y sign d l) ≡ 3)
      ↔ ((o + k ≤ 1024) × ((length ws ≤ 2097152) × ((set ≤ 15) × FirstIllegal o k ws (first o k ws))))
  proof_3 = number_3 o k ws set (proof_obeys o k ws set x y sign d l)

  -- 4: over a net, it is not so that x is a node, y a kind, and the sign 0 or 1.
  pub proof_4 : (proof_number (proved o k ws set x y sign d l) ≡ 4) ↔ (Read o k ws set × (GoodStatement o (o + k) x y sign → ⊥))
  proof_4 = then ((proof_obeys o k ws set x y sign d l).exactly 4) (past_net o k ws set (clause_4_statement o k ws x y sign))

  -- 5: over a net and of a good statement, the scratch has less than 2N places.
  pub proof_5 : (proof_number (proved o k ws set x y sign d l) ≡ 5) ↔ (Read o k ws set × (GoodStatement o (o + k) x y sign × (length d < 2 * (o + k))))
  proof_5 = then ((proof_obeys o k ws set x y sign d l).exactly 5) (past_net o k ws set (both (good_statement o (o + k) x y sign) (clause_5_scratch o k ws d)))

  -- 7: nothing of that is wrong, and the statement is not supported.
  pub proof_7 : (proof_number (proved o k ws set x y sign d l) ≡ 7)
      ↔ (Read o k ws set × (GoodStatement o (o + k) x y sign × ((2 * (o + k) ≤ length d) × (Supported o k (Links (chosen set ws)) x y (sign_at sign) → ⊥))))
  proof_7 =
      then ((proof_obeys o k ws set x y sign d l).exactly 7)
      (over_net o k ws set (λ net. and_then (good_statement o (o + k) x y sign)
      (λ g. both (room o k ws set x y sign d l) (clause_7_reason o k (chosen set ws) net x g.pair.node y (good_kind g.pair) (sign_at sign)))))

  -- The places of the reason, and how many numbers our proof has.
  long : length (reason_of (chosen set ws) x y sign (o + k)) ≡ 3 + links_of (chosen set ws) x y sign (o + k)
  long = reason_length (o + k) (sign_at sign) (chosen set ws) x y

  pub sized : length (proof_of o (chosen set ws) x y sign (o + k))
      ≡ cond (ltb x o) (8 * (length (reason_of (chosen set ws) x y sign (o + k)) - 4) + 6) (8 * (length (reason_of (chosen set ws) x y sign (o + k)) - 3) + 9)
  sized = numbers_of o (o + k) (chosen set ws) x y (sign_at sign) (reason_of (chosen set ws) x y sign (o + k)) (links_of (chosen set ws) x y sign (o + k)) long

  -- 11: there is a shortest reason, and as it is written it has more than 258 places, or of a kind more than 256.
  pub proof_11 : (proof_number (proved o k ws set x y sign d l) ≡ 11)
      ↔ (Read o k ws set × (GoodStatement o (o + k) x y sign × ((2 * (o + k) ≤ length d)
      × ((places : ℕ) × ReasonOf o k (chosen set ws) x y sign places × (((x < o) × (258 < places)) ⊎ ((o ≤ x) × (256 < places)))))))
  proof_11 =
      then ((proof_obeys o k ws set x y sign d l).exactly 11)
      (over_net o k ws set (λ net. and_then (good_statement o (o + k) x y sign)
      (λ g. both (room o k ws set x y sign d l)
      (has o k ws set x y sign d l net g (λ places. ((x < o) × (258 < places)) ⊎ ((o ≤ x) × (256 < places)))
      (clause_11 o x (links_of (chosen set ws) x y sign (o + k)) (length (reason_of (chosen set ws) x y sign (o + k))) long)))))

  -- 8: there is one, it has no more places than that, and our proof, eight numbers for each link and some more, is longer than the list.
  pub proof_8 : (proof_number (proved o k ws set x y sign d l) ≡ 8)
      ↔ (Read o k ws set × (GoodStatement o (o + k) x y sign × ((2 * (o + k) ≤ length d)
      × ((places : ℕ) × ReasonOf o k (chosen set ws) x y sign places
      × (((x < o) × ((places ≤ 258) × (length l < 8 * (places - 4) + 6))) ⊎ ((o ≤ x) × ((places ≤ 256) × (length l < 8 * (places - 3) + 9))))))))
  proof_8 =
      then ((proof_obeys o k ws set x y sign d l).exactly 8)
      (over_net o k ws set (λ net. and_then (good_statement o (o + k) x y sign)
      (λ g. both (room o k ws set x y sign d l)
      (has o k ws set x y sign d l net g
      (λ places. ((x < o) × ((places ≤ 258) × (length l < 8 * (places - 4) + 6))) ⊎ ((o ≤ x) × ((places ≤ 256) × (length l < 8 * (places - 3) + 9))))
      (fits_exactly o x (links_of (chosen set ws) x y sign (o + k)) (length (reason_of (chosen set ws) x y sign (o + k))) (length (proof_of o (chosen set ws) x y sign (o + k))) long sized
      (λ i. length l < i) (decides_below (length l) (length (proof_of o (chosen set ws) x y sign (o + k)))))))))

  -- 0: there is one, and its proof has room.
  pub proof_0 : (proof_number (proved o k ws set x y sign d l) ≡ 0)
      ↔ (Read o k ws set × (GoodStatement o (o + k) x y sign × ((2 * (o + k) ≤ length d)
      × ((places : ℕ) × ReasonOf o k (chosen set ws) x y sign places
      × (((x < o) × ((places ≤ 258) × (8 * (places - 4) + 6 ≤ length l))) ⊎ ((o ≤ x) × ((places ≤ 256) × (8 * (places - 3) + 9 ≤ length l))))))))
  proof_0 =
      then ((proof_obeys o k ws set x y sign d l).exactly 0)
      (over_net o k ws set (λ net. and_then (good_statement o (o + k) x y sign)
      (λ g. both (room o k ws set x y sign d l)
      (has o k ws set x y sign d l net g
      (λ places. ((x < o) × ((places ≤ 258) × (8 * (places - 4) + 6 ≤ length l))) ⊎ ((o ≤ x) × ((places ≤ 256) × (8 * (places - 3) + 9 ≤ length l))))
      (fits_exactly o x (links_of (chosen set ws) x y sign (o + k)) (length (reason_of (chosen set ws) x y sign (o + k))) (length (proof_of o (chosen set ws) x y sign (o + k))) long sized
      (λ i. i ≤ length l) (first_only (at_least (length l) (length (proof_of o (chosen set ws) x y sign (o + k))))))))))

-- ── the proof check ──

module _ (o k : ℕ) (ws : List ℕ) (set x y sign : ℕ) (l : List ℕ) where
  -- 1, 2, 15 and 3 as in every table: too many nodes; too many words; a set above 15; a first illegal word.
  pub proof_check_1 : (proof_check_number (judged o k ws set x y sign l) ≡ 1) ↔ (1024 < o + k)
  proof_check_1 = number_1 o k ws set (proof_check_obeys o k ws set x y sign l)

  pub proof_check_2 : (proof_check_number (judged o k ws set x y sign l) ≡ 2) ↔ ((o + k ≤ 1024) × (2097152 < length ws))
  proof_check_2 = number_2 o k ws set (proof_check_obeys o k ws set x y sign l)

  pub proof_check_15 : (proof_check_number (judged o k ws set x y sign l) ≡ 15) ↔ ((o + k ≤ 1024) × ((length ws ≤ 2097152) × (15 < set)))
  proof_check_15 = number_15 o k ws set (proof_check_obeys o k ws set x y sign l)

  pub proof_check_3 : (proof_check_number (judged o k ws set x y sign l) ≡ 3)
      ↔ ((o + k ≤ 1024) × ((length ws ≤ 2097152) × ((set ≤ 15) × FirstIllegal o k ws (first o k ws))))
  proof_check_3 = number_3 o k ws set (proof_check_obeys o k ws set x y sign l)

  -- 4: over a net, it is not so that x is a node, y a kind, and the sign 0 or 1.
  pub proof_check_4 : (proof_check_number (judged o k ws set x y sign l) ≡ 4) ↔ (Read o k ws set × (GoodStatement o (o + k) x y sign → ⊥))
  proof_check_4 = then ((proof_check_obeys o k ws set x y sign l).exactly 4) (past_net o k ws set (clause_4_statement o k ws x y sign))

  -- 12: nothing of that is wrong, and the list does not prove the statement. Which step is given is in `Proving`.
  pub proof_check_12 : (proof_check_number (judged o k ws set x y sign l) ≡ 12)
      ↔ (Read o k ws set × (GoodStatement o (o + k) x y sign × (Proves o k (chosen set ws) x y (sign_at sign) l → ⊥)))
  proof_check_12 =
      then ((proof_check_obeys o k ws set x y sign l).exactly 12)
      (over_net o k ws set (λ net. and_then (good_statement o (o + k) x y sign) (λ g. clause_12 o k (chosen set ws) net x y (good_kind g.pair) (sign_at sign) l)))

  -- 0: it does.
  pub proof_check_0 : (proof_check_number (judged o k ws set x y sign l) ≡ 0)
      ↔ (Read o k ws set × (GoodStatement o (o + k) x y sign × Proves o k (chosen set ws) x y (sign_at sign) l))
  proof_check_0 =
      then ((proof_check_obeys o k ws set x y sign l).exactly 0)
      (over_net o k ws set (λ net. and_then (good_statement o (o + k) x y sign) (λ g. first_only (proves_exactly o k (chosen set ws) net x y (good_kind g.pair) (sign_at sign) l))))
