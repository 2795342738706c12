-- Demand 1, in plain terms: what the test of each clause of the number table says of the call.
use Prim.Native.Nat.{ℕ, suc, ◌+◌, ◌*◌, ◌%◌, ◌≤◌, ◌<◌}
use mathlib.Core.Path.{◌≡◌, refl, sym, ap, ◌∙◌}
use mathlib.Core.Bool.{Bool, true, false, cond, not}
use mathlib.Core.List.{List}
use mathlib.Core.Logic.{◌⊎◌, inl, inr, ◌↔◌, ⊎_elim}
use native.Mathlib.Omega.{arith}
use native.Mathlib.Decide.{dec_lt}
use native.Mathlib.Nat.{le_refl}
use lib.Dec.{eqb, ltb, leb}
use lib.ListN.{length, get_or}
use borrow.Author.Tests.{ltb-true, ltb-false, lt-ltb, le-ltb, leb-false, lt-leb, eqb-false, ne_eqb, not-false}
use Rattle.theory_laws.proofs.Booleans.{contradiction}
use Rattle.theory.specs.Words.{Sign, word, node_limit, word_limit}
use Rattle.theory.specs.Origins.{origin_limit, set_limit, chosen}
use Rattle.theory.proofs.origins.Statements.{chosen_net}
use Rattle.theory.specs.Nets.{Kind, Links, Net}
use Rattle.theory.specs.Support.{Supported}
use Rattle.theory.specs.Scans.{rounds, Count}
use Rattle.theory.specs.Reasons.{never}
use Rattle.theory.specs.Searches.{distances}
use Rattle.theory.specs.ProofFiles.{depth_limit, Proves}
use Rattle.theory.specs.declared.Command.{Command}
use Rattle.theory_laws.specs.Deciding.{Decides}
use Rattle.theory_laws.proofs.Deciding.{decides_below, decides_equal, decides_either, decides_not, decides_same}
use Rattle.theory.proofs.machine.Budgets.{ends_within, last_round, count_unique}
use Rattle.theory.proofs.reason.Distances.{distances_small}
use Rattle.theory.proofs.reason.Reason.{reason_exactly}
use Rattle.theory.proofs.Inside.{at_member}
use Rattle.net_word.specs.Legal.{legal, legal_from}
use Rattle.net_word.proofs.Legality.{legal_means, legal_from_means}
use Rattle.net.specs.Passing.{passing, FirstIllegal, FirstIllegalPlain}
use Rattle.net.proofs.Passing.{passing_passes, passing_fails, passing_is}
use Rattle.net.proofs.NetCheck.{nodes_exactly, plain_checked}
use Rattle.net.specs.Table.{check_net, check_plain, bad_pair, bad_statement}
use Rattle.net.specs.Good.{GoodPair, GoodStatement}
use Rattle.net.proofs.Good.{good_pair, good_statement}
use Rattle.clash.specs.Table.{clash_search, nowhere}
use Rattle.questions.specs.Pairs.{pairs_in, pair_limit}
use Rattle.questions.specs.Table.{bad_pairs}
use Rattle.proof_form.specs.Checker.{check_proof}
use Rattle.proof_form.specs.Ours.{our_depth}
use Rattle.proof_form.specs.declared.Found.{Found}
use Rattle.proof_form.specs.declared.Found.TheVariants.{Right, At, Nowhere}
use Rattle.proof_form.proofs.Accepted.{accepted_exactly}
use Rattle.proof_check.specs.Table.{is_right}
use Rattle.satisfies.specs.Table.{bad_table}
use Rattle.satisfies.proofs.Exactly.{bad_table_exactly}
use Rattle.promises.specs.Engines.{Read}
use Rattle.theory.specs.Clashes.{ClashAt}
use Rattle.theory.specs.Valuations.{Valued}
use Rattle.promises.proofs.Clashes.{no_clash_exactly}

module _ (o k : ℕ) (ws : List ℕ) where
  -- Clause 1: more than 1,024 nodes.
  pub clause_1 : Decides (ltb node_limit (o + k)) (1024 < o + k)
  clause_1 = decides_below node_limit (o + k)

  -- Clause 2: more than 2,097,152 words.
  pub clause_2 : Decides (ltb word_limit (length ws)) (2097152 < length ws)
  clause_2 = decides_below word_limit (length ws)

  -- The index that clause 3 gives.
  abbrev pub first : ℕ
  first = passing (legal_from origin_limit o (o + k)) ws

  stops : first < length ws → FirstIllegal o k ws first
  stops l = record {
    below = l;
    fails = λ w. contradiction (sym (passing_fails (legal_from origin_limit o (o + k)) ws l) ∙ (legal_from_means o k _).1 w);
    before = λ j h. (legal_from_means o k _).0 (passing_passes (legal_from origin_limit o (o + k)) ws j h);
  }

  -- Clause 3: the word at the index given is the first illegal one.
  pub clause_3 : Decides (ltb first (length ws)) (FirstIllegal o k ws first)
  clause_3 = decides_same _ (decides_below first (length ws)) stops (λ f. f.below)

  -- Clause 15: the set is above 15.
  pub clause_15 : (set : ℕ) → Decides (ltb set_limit set) (15 < set)
  clause_15 set = decides_below set_limit set

  -- Where none of the four clauses applies there is a net to be read with the set, and the other way round.
  pub past_checks : (set : ℕ) → ((ltb node_limit (o + k) ≡ false) × (ltb word_limit (length ws) ≡ false) × (ltb set_limit set ≡ false) × (ltb first (length ws) ≡ false)) ↔ Read o k ws set
  unfolding check_net
  past_checks set = (there, back)
    where
      there : (ltb node_limit (o + k) ≡ false) × (ltb word_limit (length ws) ≡ false) × (ltb set_limit set ≡ false) × (ltb first (length ws) ≡ false) → Read o k ws set
      there h = let g = (nodes_exactly o k ws set (o + k)).0 (rw (h.0, h.1, h.2, h.3)) in record { net = g.2; allowed = g.1 }

      back : Read o k ws set → (ltb node_limit (o + k) ≡ false) × (ltb word_limit (length ws) ≡ false) × (ltb set_limit set ≡ false) × (ltb first (length ws) ≡ false)
      back r =
          let all : first ≡ length ws =
          passing_is (legal_from origin_limit o (o + k)) ws (length ws) (le_refl (length ws)) (λ l. absurd (omega arith))
          (λ j l. (legal_from_means o k (get_or ws j 0)).1 (r.net.legal (get_or ws j 0) (at_member ws j l))) in (
            le-ltb node_limit (o + k) r.net.few,
            le-ltb word_limit (length ws) r.net.short,
            le-ltb set_limit set r.allowed,
            le-ltb first (length ws) (omega (arith, all)),
          )

  -- The same of a plain list: the index that clause 3 gives, and where none of the three clauses applies.
  abbrev pub first_plain : ℕ
  first_plain = passing (legal o (o + k)) ws

  plain_stops : first_plain < length ws → FirstIllegalPlain o k ws first_plain
  plain_stops l = record {
    below = l;
    fails = λ w. contradiction (sym (passing_fails (legal o (o + k)) ws l) ∙ (legal_means o k _).1 w);
    before = λ j h. (legal_means o k _).0 (passing_passes (legal o (o + k)) ws j h);
  }

  pub clause_3_plain : Decides (ltb first_plain (length ws)) (FirstIllegalPlain o k ws first_plain)
  clause_3_plain = decides_same _ (decides_below first_plain (length ws)) plain_stops (λ f. f.below)

  pub past_plain : ((ltb node_limit (o + k) ≡ false) × (ltb word_limit (length ws) ≡ false) × (ltb first_plain (length ws) ≡ false)) ↔ Net o k ws
  unfolding check_plain
  past_plain = (there, back)
    where
      there : (ltb node_limit (o + k) ≡ false) × (ltb word_limit (length ws) ≡ false) × (ltb first_plain (length ws) ≡ false) → Net o k ws
      there h = (plain_checked o k ws {n = o + k} (rw (h.0, h.1, h.2))).1

      back : Net o k ws → (ltb node_limit (o + k) ≡ false) × (ltb word_limit (length ws) ≡ false) × (ltb first_plain (length ws) ≡ false)
      back n =
          let all : first_plain ≡ length ws =
          passing_is (legal o (o + k)) ws (length ws) (le_refl (length ws)) (λ l. absurd (omega arith))
          (λ j l. (legal_means o k (get_or ws j 0)).1 (n.legal (get_or ws j 0) (at_member ws j l))) in
          (le-ltb node_limit (o + k) n.few, le-ltb word_limit (length ws) n.short, le-ltb first_plain (length ws) (omega (arith, all)))

  -- Clause 4 of a scan: x is no node.
  pub node_exactly : (x : ℕ) → (leb (o + k) x ≡ false) ↔ (x < o + k)
  node_exactly x = (leb-false (o + k) x, lt-leb (o + k) x)

  pub clause_4_start : (x : ℕ) → Decides (leb (o + k) x) (x < o + k → ⊥)
  clause_4_start x = decides_not _ (node_exactly x)

  -- Clause 4 of a question: x is no node, or y is no kind.
  pub clause_4_pair : (x y : ℕ) → Decides (bad_pair o (o + k) x y) (GoodPair o (o + k) x y → ⊥)
  clause_4_pair x y = decides_not _ (good_pair o (o + k) x y)

  -- Clause 4 of a reason and of a reason check: the same, or the sign is above 1.
  pub clause_4_statement : (x y sign : ℕ) → Decides (bad_statement o (o + k) x y sign) (GoodStatement o (o + k) x y sign → ⊥)
  clause_4_statement x y sign = decides_not _ (good_statement o (o + k) x y sign)

  -- Clause 5: the marks are fewer than the nodes, the scratch has less than twice as many places.
  pub clause_5 : (m : List ℕ) → Decides (ltb (length m) (o + k)) (length m < o + k)
  clause_5 m = decides_below (length m) (o + k)

  pub clause_5_scratch : (d : List ℕ) → Decides (ltb (length d) ((o + k) + (o + k))) (length d < 2 * (o + k))
  clause_5_scratch d = decides_same _ (decides_below (length d) ((o + k) + (o + k))) (λ h. omega arith) (λ h. omega arith)

-- Clause 13 of the test of a statement: what is lent is no table for n elements and k kinds.
pub clause_13 : (n k : ℕ) (t : List ℕ) → Decides (bad_table n k t) (Valued n k t → ⊥)
clause_13 n k t = decides_not _ (bad_table_exactly n k t)

module _ (cs : List Command) (ws m : List ℕ) (budget c : ℕ) (count : Count cs ws m c) where
  -- A scan ends exactly if its count is within the budget.
  pub within_exactly : (not (rounds cs ws 0 budget m).done ≡ false) ↔ (c ≤ budget)
  within_exactly = (there, λ l. rw (ends_within cs ws m c budget count l))
    where
      there : not (rounds cs ws 0 budget m).done ≡ false → c ≤ budget
      there e =
          let t = last_round cs ws m budget (not-false (rounds cs ws 0 budget m).done e) in
          omega (arith, t.within, count_unique cs ws m c (suc t.at) count t.counted)

  -- Clause 6: the budget is below the count.
  pub clause_6 : Decides (not (rounds cs ws 0 budget m).done) (budget < c)
  clause_6 = decides_same _ (decides_not _ within_exactly) (λ h. below h) (λ l h. omega arith)
    where
      below : (c ≤ budget → ⊥) → budget < c
      below h = at (dec_lt budget c)
        where
          at : Dec (budget < c) → budget < c
          at (yes l) = l
          at (no l) = absurd (h (omega arith))

module _ (o k : ℕ) (ws : List ℕ) (net : Net o k ws) where
  -- Clause 7 of a reason: the statement is not supported.
  module _ (x : ℕ) (node : x < o + k) (y : ℕ) (kind : Kind o k y) (s : Sign) where
    abbrev away : ℕ
    away = get_or (distances (o + k) s ws y) x never

    pub away_exactly : (eqb away never ≡ false) ↔ Supported o k (Links ws) x y s
    away_exactly = (there, λ p. ne_eqb away never (λ e. omega (arith, r.0 p)))
      where
        r : Supported o k (Links ws) x y s ↔ (away < never)
        r = reason_exactly o k ws net x node y kind s

        there : eqb away never ≡ false → Supported o k (Links ws) x y s
        there e = ⊎_elim (λ l. r.1 (omega (arith, net.few))) (λ f. absurd (eqb-false away never e f)) (distances_small o k ws net y kind s x)

    pub clause_7_reason : Decides (eqb away never) (Supported o k (Links ws) x y s → ⊥)
    clause_7_reason = decides_not _ away_exactly

  -- Clause 7 of the clash test: no node clashes.
  pub clause_7_clash : Decides (nowhere (clash_search o k ws)) ((x y : ℕ) → ClashAt o k ws x y → ⊥)
  clause_7_clash = no_clash_exactly o k ws net

  -- Clause 12 of a proof check: the list does not prove the statement.
  module _ (x y : ℕ) (kind : Kind o k y) (s : Sign) (l : List ℕ) where
    pub proves_exactly : (not (is_right (check_proof o (o + k) ws (word x y s) l)) ≡ false) ↔ Proves o k ws x y s l
    proves_exactly = ((λ e. (accepted_exactly o k ws net x y s kind l).0 (right (check_proof o (o + k) ws (word x y s) l) e)), λ p. ap (λ (z : Found). not (is_right z)) ((accepted_exactly o k ws net x y s kind l).1 p))
      where
        right : (z : Found) → not (is_right z) ≡ false → z ≡ Right
        right Right e = refl
        right (At i) e = contradiction (sym e)
        right Nowhere e = contradiction (sym e)

    pub clause_12 : Decides (not (is_right (check_proof o (o + k) ws (word x y s) l))) (Proves o k ws x y s l → ⊥)
    clause_12 = decides_not _ proves_exactly

-- Clause 11 of a proof, whose reason has so many links and, as it is written, so many places: more than 258 of an object, or more than 256 of a kind.
pub clause_11 : (o x links places : ℕ) → places ≡ 3 + links → Decides (ltb depth_limit (our_depth o x links)) (((x < o) × (258 < places)) ⊎ ((o ≤ x) × (256 < places)))
unfolding our_depth
clause_11 o x links places long = at (ltb x o) refl
  where
    at : (q : Bool) → ltb x o ≡ q → Decides (ltb depth_limit (cond q links (links + 2))) (((x < o) × (258 < places)) ⊎ ((o ≤ x) × (256 < places)))
    at true h = (
      (λ e. let g = ltb-true depth_limit links e in inl (ltb-true x o h, omega (arith, g, long))),
      ⊎_elim (λ p. let g = p.1 in lt-ltb depth_limit links (omega (arith, g, long))) (λ p. let a = p.0 in let b = ltb-true x o h in absurd (omega (arith, a, b))),
    )
    at false h = (
      (λ e. let g = ltb-true depth_limit (links + 2) e in inr (ltb-false x o h, omega (arith, g, long))),
      ⊎_elim (λ p. let a = p.0 in let b = ltb-false x o h in absurd (omega (arith, a, b))) (λ p. let g = p.1 in lt-ltb depth_limit (links + 2) (omega (arith, g, long))),
    )

-- Clause 8: the list is shorter than the result.
pub clause_8 : (l all : List ℕ) → Decides (ltb (length l) (length all)) (length l < length all)
clause_8 l all = decides_below (length l) (length all)

-- Clause 10: an odd count, more than 64 pairs, or fewer bytes than pairs.
pub clause_10 : (ps bs : List ℕ) → Decides (bad_pairs (length ps) (length bs)) ((length ps % 2 ≡ 1) ⊎ ((64 < pairs_in ps) ⊎ (length bs < pairs_in ps)))
clause_10 ps bs = decides_either _ _ (decides_equal (length ps % 2) 1) (decides_either _ _ (decides_below pair_limit (pairs_in ps)) (decides_below (length bs) (pairs_in ps)))

-- What a set chooses of a net that is read with it is a net of plain words.
pub chosen_of : (o k : ℕ) (ws : List ℕ) (set : ℕ) → Read o k ws set → Net o k (chosen set ws)
chosen_of o k ws set r = chosen_net set o k ws r.net
