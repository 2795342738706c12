-- The two checks say yes exactly to nets, and give each refusal exactly where its clause says.
use Rattle.std.specs.Prelude.{Err, Ok}
use Prim.Native.Nat.{ℕ, suc, ◌+◌, ◌<◌, ◌≤◌, zero-le, suc-le-suc}
use mathlib.Core.Path.{◌≡◌, refl, sym, ap, subst, ◌∙◌}
use mathlib.Core.Bool.{Bool, true, false, cond}
use mathlib.Core.List.{List, [], ◌∷◌, Memᴰ}
use mathlib.Core.Logic.{◌↔◌}
use native.Mathlib.Omega.{arith}
use native.Mathlib.Nat.{le_refl, le_of_lt}
use borrow.Author.Tests.{ltb-true, ltb-false, lt-ltb, le-ltb}
use lib.Dec.{ltb}
use lib.ListN.{length, get_or}
use Rattle.theory_laws.specs.Deciding.{Decides}
use Rattle.theory_laws.proofs.Booleans.{not_so, contradiction}
use Rattle.theory.specs.Words.{node_limit, word_limit}
use Rattle.theory.specs.Nets.{LegalWord, Net}
use Rattle.theory.specs.Origins.{origin_limit, set_limit, among, chosen, LegalFrom, NetFrom}
use Rattle.theory.proofs.Inside.{at_member}
use Rattle.theory.proofs.origins.Choosing.{chosen_plain}
use Rattle.theory.proofs.origins.Statements.{chosen_net, net_plain, net_from}
use Rattle.net_word.specs.Legal.{legal, legal_from, BecausePlain, Because, plain_cause, cause_of}
use Rattle.net_word.specs.declared.Cause.{Cause}
use Rattle.net_word.proofs.Legality.{legal_means, legal_from_means}
use Rattle.net_word.proofs.Causes.{plain_cause_exactly, cause_exactly}
use Rattle.net.specs.Passing.{passing, FirstFailing, FirstIllegal, FirstIllegalPlain}
use Rattle.net.specs.Table.{check_net, check_plain}
use Rattle.net.specs.declared.Refusal.TheVariants.{TooManyNodes, TooManyWords, BadSet, IllegalWord, BadQuestion, ShortBuffer}
use Rattle.net.specs.Table.{Checked}
use Rattle.net.proofs.Passing.{passing_passes, passing_fails, passing_is}

-- What holds at every place of a list holds of every member.
at_places : (P : ℕ → Type 0) (ws : List ℕ) → ((j : ℕ) → j < length ws → P (get_or ws j 0)) → (w : ℕ) → Memᴰ w ws → P w
at_places P [] f w m = elim m [ ]
at_places P (v ∷ ws) f w (Memᴰ.head e) = subst P (sym e) (f 0 (suc-le-suc zero-le))
at_places P (v ∷ ws) f w (Memᴰ.tail h) = at_places P ws (λ j l. f (suc j) (suc-le-suc l)) w h

-- ── both checks at once ──
-- P is what the test of a word decides, Why is when a word that is not so has a cause, and `bad` says that number 15 applies.
module _ (o k : ℕ) (ws : List ℕ) (bad : Bool) (P : ℕ → Type 0) (Why : ℕ → Cause → Type 0) where
  -- When each answer is given.
  abbrev Given : Checked → Type 0
  Given (Ok n) = (n ≡ o + k) × (o + k ≤ node_limit) × (length ws ≤ word_limit) × (bad ≡ false) × ((w : ℕ) → Memᴰ w ws → P w)
  Given (Err TooManyNodes) = node_limit < o + k
  Given (Err TooManyWords) = (o + k ≤ node_limit) × (word_limit < length ws)
  Given (Err BadSet) = (o + k ≤ node_limit) × (length ws ≤ word_limit) × (bad ≡ true)
  Given (Err (IllegalWord i c)) = (o + k ≤ node_limit) × (length ws ≤ word_limit) × (bad ≡ false) × FirstFailing P ws i × Why (get_or ws i 0) c
  Given (Err BadQuestion) = ⊥
  Given (Err ShortBuffer) = ⊥

  module _ (test : ℕ → Bool) (why : ℕ → Cause) (tested : (w : ℕ) → Decides (test w) (P w)) (caused : (w : ℕ) → (P w → ⊥) → (c : Cause) → (why w ≡ c) ↔ Why w c) where
    -- The four tests in a row.
    abbrev words : Bool → Checked
    words q = cond q (Err (IllegalWord (passing test ws) (why (get_or ws (passing test ws) 0)))) (Ok (o + k))

    abbrev set : Bool → Checked
    set q = cond q (Err BadSet) (words (ltb (passing test ws) (length ws)))

    abbrev long : Bool → Checked
    long q = cond q (Err TooManyWords) (set bad)

    abbrev many : Bool → Checked
    many q = cond q (Err TooManyNodes) (long (ltb word_limit (length ws)))

    first_failing : passing test ws < length ws → FirstFailing P ws (passing test ws)
    first_failing l = record {
      below = l;
      fails = λ p. contradiction (sym (passing_fails test ws l) ∙ (tested (get_or ws (passing test ws) 0)).1 p);
      before = λ j h. (tested (get_or ws j 0)).0 (passing_passes test ws j h);
    }

    all_pass : length ws ≤ passing test ws → (w : ℕ) → Memᴰ w ws → P w
    all_pass l = at_places P ws (λ j h. (tested (get_or ws j 0)).0 (passing_passes test ws j (omega arith)))

    -- The answer that is given is one that may be,
    given : Given (many (ltb node_limit (o + k)))
    given = at_many (ltb node_limit (o + k)) refl
      where
        at_words : o + k ≤ node_limit → length ws ≤ word_limit → bad ≡ false → (q : Bool) → ltb (passing test ws) (length ws) ≡ q → Given (words q)
        at_words few short fine true e =
            let f = first_failing (ltb-true (passing test ws) (length ws) e) in
            (few, short, fine, f, (caused (get_or ws (passing test ws) 0) f.fails (why (get_or ws (passing test ws) 0))).0 refl)
        at_words few short fine false e = (refl, few, short, fine, all_pass (ltb-false (passing test ws) (length ws) e))

        at_set : o + k ≤ node_limit → length ws ≤ word_limit → (q : Bool) → bad ≡ q → Given (set q)
        at_set few short true e = (few, short, e)
        at_set few short false e = at_words few short e (ltb (passing test ws) (length ws)) refl

        at_long : o + k ≤ node_limit → (q : Bool) → ltb word_limit (length ws) ≡ q → Given (long q)
        at_long few true e = (few, ltb-true word_limit (length ws) e)
        at_long few false e = at_set few (ltb-false word_limit (length ws) e) bad refl

        at_many : (q : Bool) → ltb node_limit (o + k) ≡ q → Given (many q)
        at_many true e = ltb-true node_limit (o + k) e
        at_many false e = at_long (ltb-false node_limit (o + k) e) (ltb word_limit (length ws)) refl

    first_is : (i : ℕ) → FirstFailing P ws i → passing test ws ≡ i
    first_is i f =
        passing_is test ws i (le_of_lt f.below) (λ l. not_so (test (get_or ws i 0)) (λ (e : test (get_or ws i 0) ≡ true). f.fails ((tested (get_or ws i 0)).0 e)))
        (λ j l. (tested (get_or ws j 0)).1 (f.before j l))

    to_the_end : ((w : ℕ) → Memᴰ w ws → P w) → passing test ws ≡ length ws
    to_the_end all =
        passing_is test ws (length ws) (le_refl (length ws)) (λ l. absurd (omega arith)) (λ j l. (tested (get_or ws j 0)).1 (all (get_or ws j 0) (at_member ws j l)))

    -- and an answer that may be given is.
    is_given : (r : Checked) → Given r → many (ltb node_limit (o + k)) ≡ r
    is_given (Ok n) g =
        rw (le-ltb node_limit (o + k) g.1, le-ltb word_limit (length ws) g.2, g.3, to_the_end g.4, le-ltb (length ws) (length ws) (le_refl (length ws))) (ap Ok (sym g.0))
    is_given (Err TooManyNodes) g = rw (lt-ltb node_limit (o + k) g)
    is_given (Err TooManyWords) g = rw (le-ltb node_limit (o + k) g.0, lt-ltb word_limit (length ws) g.1)
    is_given (Err BadSet) g = rw (le-ltb node_limit (o + k) g.0, le-ltb word_limit (length ws) g.1, g.2)
    is_given (Err (IllegalWord i c)) g =
        let f = g.3 in
        rw (le-ltb node_limit (o + k) g.0, le-ltb word_limit (length ws) g.1, g.2, first_is i f, lt-ltb i (length ws) f.below)
        (ap (λ (d : Cause). Err (IllegalWord i d)) ((caused (get_or ws i 0) f.fails c).1 g.4))
    is_given (Err BadQuestion) g = absurd g
    is_given (Err ShortBuffer) g = absurd g

    exactly : (r : Checked) → (many (ltb node_limit (o + k)) ≡ r) ↔ Given r
    exactly r = ((λ e. subst Given e given), is_given r)

-- ── the check of a net ──
module _ (o k : ℕ) (ws : List ℕ) (set : ℕ) where
  net_exactly : (r : Checked) → (check_net o k ws set ≡ r) ↔ Given o k ws (ltb set_limit set) (LegalFrom o k) (Because o k) r
  unfolding check_net
  net_exactly =
      exactly o k ws (ltb set_limit set) (LegalFrom o k) (Because o k) (legal_from origin_limit o (o + k)) (cause_of (o + k)) (legal_from_means o k) (cause_exactly o k)

  -- Number 1 is given exactly if there are too many nodes.
  pub many_nodes_exactly : (check_net o k ws set ≡ Err TooManyNodes) ↔ (node_limit < o + k)
  many_nodes_exactly = net_exactly (Err TooManyNodes)

  -- Number 2 is given exactly if the nodes are few enough and there are too many words.
  pub many_words_exactly : (check_net o k ws set ≡ Err TooManyWords) ↔ ((o + k ≤ node_limit) × (word_limit < length ws))
  many_words_exactly = net_exactly (Err TooManyWords)

  -- Number 15 is given exactly if nodes and words are few enough, and the set is above 15.
  pub bad_set_exactly : (check_net o k ws set ≡ Err BadSet) ↔ ((o + k ≤ node_limit) × (length ws ≤ word_limit) × (set_limit < set))
  bad_set_exactly =
      let e = net_exactly (Err BadSet) in
      ((λ h. let g = e.0 h in (g.0, g.1, ltb-true set_limit set g.2)), λ g. e.1 (g.0, g.1, lt-ltb set_limit set g.2))

  -- Number 3 is given exactly if nodes and words are few enough and the set is at most 15, and then for the first illegal word, with its cause.
  pub illegal_word_exactly : (i : ℕ) (c : Cause)
      → (check_net o k ws set ≡ Err (IllegalWord i c)) ↔ ((o + k ≤ node_limit) × (length ws ≤ word_limit) × (set ≤ set_limit) × FirstIllegal o k ws i × Because o k (get_or ws i 0) c)
  illegal_word_exactly i c =
      let e = net_exactly (Err (IllegalWord i c)) in
      ((λ h. let g = e.0 h in (g.0, g.1, ltb-false set_limit set g.2, g.3, g.4)), λ g. e.1 (g.0, g.1, le-ltb set_limit set g.2, g.3, g.4))

  -- A number of nodes is given exactly for a net and a set of origins, and it is the net's.
  pub nodes_exactly : (n : ℕ) → (check_net o k ws set ≡ Ok n) ↔ ((n ≡ o + k) × (set ≤ set_limit) × NetFrom o k ws)
  nodes_exactly n =
      let e = net_exactly (Ok n) in (
        (λ h. let g = e.0 h in (g.0, ltb-false set_limit set g.3, record { few = g.1; short = g.2; legal = g.4 })),
        λ g. e.1 (g.0, g.2.few, g.2.short, le-ltb set_limit set g.1, g.2.legal),
      )

  -- What passes the check is a net with origins, and what the set chooses from it is a net.
  pub chosen_checked : {n : ℕ} → check_net o k ws set ≡ Ok n → (n ≡ o + k) × NetFrom o k ws × Net o k (chosen set ws)
  chosen_checked {n} e = let g = (nodes_exactly n).0 e in (g.0, g.2, chosen_net set o k ws g.2)

  -- Every net with origins passes it with every set of origins.
  pub net_is_checked : set ≤ set_limit → NetFrom o k ws → check_net o k ws set ≡ Ok (o + k)
  net_is_checked h net = (nodes_exactly (o + k)).1 (refl, h, net)

-- ── the check of a plain list ──
module _ (o k : ℕ) (ws : List ℕ) where
  plain_exactly : (r : Checked) → (check_plain o k ws ≡ r) ↔ Given o k ws false (LegalWord o k) (BecausePlain o k) r
  unfolding check_plain
  plain_exactly = exactly o k ws false (LegalWord o k) (BecausePlain o k) (legal o (o + k)) (plain_cause (o + k)) (legal_means o k) (plain_cause_exactly o k)

  pub plain_nodes_exactly : (check_plain o k ws ≡ Err TooManyNodes) ↔ (node_limit < o + k)
  plain_nodes_exactly = plain_exactly (Err TooManyNodes)

  pub plain_words_exactly : (check_plain o k ws ≡ Err TooManyWords) ↔ ((o + k ≤ node_limit) × (word_limit < length ws))
  plain_words_exactly = plain_exactly (Err TooManyWords)

  pub plain_illegal_exactly : (i : ℕ) (c : Cause)
      → (check_plain o k ws ≡ Err (IllegalWord i c)) ↔ ((o + k ≤ node_limit) × (length ws ≤ word_limit) × FirstIllegalPlain o k ws i × BecausePlain o k (get_or ws i 0) c)
  plain_illegal_exactly i c =
      let e = plain_exactly (Err (IllegalWord i c)) in
      ((λ h. let g = e.0 h in (g.0, g.1, g.3, g.4)), λ g. e.1 (g.0, g.1, refl, g.2, g.3))

  -- What passes is a net,
  pub plain_checked : {n : ℕ} → check_plain o k ws ≡ Ok n → (n ≡ o + k) × Net o k ws
  plain_checked {n} e = let g = (plain_exactly (Ok n)).0 e in (g.0, record { few = g.1; short = g.2; legal = g.4 })

  -- every net passes,
  pub plain_is_checked : Net o k ws → check_plain o k ws ≡ Ok (o + k)
  plain_is_checked net = (plain_exactly (Ok (o + k))).1 (refl, net.few, net.short, refl, net.legal)

  -- and read with a set that has 0, such as 1, what passes is a net with origins that is chosen whole.
  pub plain_chosen : {n : ℕ} → check_plain o k ws ≡ Ok n → (set : ℕ) → set ≤ set_limit → among set 0 ≡ true → (check_net o k ws set ≡ Ok n) × (chosen set ws ≡ ws)
  plain_chosen e set h z =
      let (a, net) = plain_checked e in
      (net_is_checked o k ws set h (net_from o k ws net) ∙ ap Ok (sym a), chosen_plain set z ws (net_plain o k ws net))
