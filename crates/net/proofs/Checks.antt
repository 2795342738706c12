-- The checks in the terms of the code: the sizes first, then the set, then the search for an illegal word.
use Rattle.std.specs.Prelude.{Err, Ok}
use Prim.Native.Nat.{ℕ, ◌+◌, ◌<◌, ◌≤◌}
use mathlib.Core.Path.{◌≡◌, refl, sym, subst, ◌∙◌}
use mathlib.Core.Bool.{Bool, true, false, cond}
use mathlib.Core.List.{List, [], ◌∷◌}
use borrow.Author.Tests.{ltb-false, lt-ltb, le-ltb}
use lib.Dec.{ltb}
use lib.ListN.{length, get_or}
use Rattle.theory.specs.Words.{node_limit, word_limit}
use Rattle.theory.specs.Origins.{origin_limit, set_limit}
use Rattle.net_word.specs.Legal.{legal, legal_from}
use Rattle.net_word.proofs.Legality.{legal_plain}
use Rattle.net.specs.Passing.{passing}
use Rattle.net.specs.Clauses.{Clause, clause, call}
use Rattle.net.specs.Table.{illegal_at, illegal_plain, word_clause, check_sizes, check_net, check_plain}
use Rattle.net.specs.declared.Refusal.{Refusal}
use Rattle.net.specs.declared.Refusal.TheVariants.{TooManyNodes, TooManyWords, BadSet}
use Rattle.net.specs.Table.{Checked}
use Rattle.net.proofs.Passing.{passing_same}
use Rattle.net.proofs.OnNet.{on_sizes, passed, gone}

-- ── the sizes ──
module _ (o k count : ℕ) where
  pub sizes_many : node_limit < o + k → Err TooManyNodes ≡ check_sizes o k count
  unfolding check_sizes
  sizes_many h = rw (lt-ltb node_limit (o + k) h)

  pub sizes_long : o + k ≤ node_limit → word_limit < count → Err TooManyWords ≡ check_sizes o k count
  unfolding check_sizes
  sizes_long few h = rw (le-ltb node_limit (o + k) few, lt-ltb word_limit count h)

  pub sizes_fine : o + k ≤ node_limit → count ≤ word_limit → Ok (o + k) ≡ check_sizes o k count
  unfolding check_sizes
  sizes_fine few short = rw (le-ltb node_limit (o + k) few, le-ltb word_limit count short)

  -- What they leave.
  abbrev Left : Checked → Type 0
  Left (Ok n) = (n ≤ node_limit) × (count ≤ word_limit)
  Left (Err r) = Unit {0}

  left : Left (check_sizes o k count)
  unfolding check_sizes
  left = at (ltb node_limit (o + k)) (ltb word_limit count) refl refl
    where
      at : (a b : Bool) → ltb node_limit (o + k) ≡ a → ltb word_limit count ≡ b → Left (cond a (Err TooManyNodes) (cond b (Err TooManyWords) (Ok (o + k))))
      at true b e f = tt
      at false true e f = tt
      at false false e f = (ltb-false node_limit (o + k) e, ltb-false word_limit count f)

  pub sizes_leave : {n : ℕ} → check_sizes o k count ≡ Ok n → (n ≤ node_limit) × (count ≤ word_limit)
  sizes_leave e = subst Left e left

-- ── the words: the search came to i, which is a place of the list, or its end ──
module _ (n : ℕ) (test : ℕ → Bool) (illegal : ℕ → ℕ → Refusal) (ws : List ℕ) {i : ℕ} (found : i ≡ passing test ws) where
  stops : i < length ws → {r : Refusal} → r ≡ illegal i (get_or ws i 0) → Err r ≡ call (word_clause Err test illegal ws ∷ []) (Ok n)
  stops l e = rw (← found, lt-ltb i (length ws) l, e)

  ends : length ws ≤ i → Ok n ≡ call (word_clause Err test illegal ws ∷ []) (Ok n)
  ends l = rw (← found, le-ltb i (length ws) l)

-- ── both checks, past the sizes ──
module _ (o k : ℕ) (ws : List ℕ) {sizes : Checked} (sized : sizes ≡ check_sizes o k (length ws)) where
  module _ (set : ℕ) where
    abbrev net_rest : ℕ → List (Clause Checked)
    net_rest n = clause 15 (ltb set_limit set) (Err BadSet) ∷ word_clause Err (legal_from origin_limit o n) (illegal_at n) ws ∷ []

    pub net_refused : {r : Refusal} → sizes ≡ Err r → sizes ≡ check_net o k ws set
    unfolding check_net
    net_refused e = e ∙ passed Err net_rest Ok (on_sizes Err o k (length ws) net_rest Ok) (sym sized ∙ e)

    module _ {n : ℕ} (nodes : sizes ≡ Ok n) where
      net_goes : {s : Checked} → s ≡ call (net_rest n) (Ok n) → s ≡ check_net o k ws set
      unfolding check_net
      net_goes h = gone Err net_rest Ok (on_sizes Err o k (length ws) net_rest Ok) (sym sized ∙ nodes) h

      pub net_bad_set : set_limit < set → Err BadSet ≡ check_net o k ws set
      net_bad_set h = net_goes (rw (lt-ltb set_limit set h))

      module _ (fine : set ≤ set_limit) {i : ℕ} (found : i ≡ passing (legal_from origin_limit o n) ws) where
        pub net_stops : i < length ws → {r : Refusal} → r ≡ illegal_at n i (get_or ws i 0) → Err r ≡ check_net o k ws set
        net_stops l e = net_goes (rw (le-ltb set_limit set fine) (stops n (legal_from origin_limit o n) (illegal_at n) ws found l e))

        pub net_ends : length ws ≤ i → Ok n ≡ check_net o k ws set
        net_ends l = net_goes (rw (le-ltb set_limit set fine) (ends n (legal_from origin_limit o n) (illegal_at n) ws found l))

  abbrev plain_rest : ℕ → List (Clause Checked)
  plain_rest n = word_clause Err (legal o n) (illegal_plain n) ws ∷ []

  pub plain_refused : {r : Refusal} → sizes ≡ Err r → sizes ≡ check_plain o k ws
  unfolding check_plain
  plain_refused e = e ∙ passed Err plain_rest Ok (on_sizes Err o k (length ws) plain_rest Ok) (sym sized ∙ e)

  module _ {n : ℕ} (nodes : sizes ≡ Ok n) {i : ℕ} (found : i ≡ passing (legal_from 0 o n) ws) where
    plain_goes : {s : Checked} → s ≡ call (plain_rest n) (Ok n) → s ≡ check_plain o k ws
    unfolding check_plain
    plain_goes h = gone Err plain_rest Ok (on_sizes Err o k (length ws) plain_rest Ok) (sym sized ∙ nodes) h

    -- The search with 0 as the largest origin is the one among plain words.
    plain_found : i ≡ passing (legal o n) ws
    plain_found = found ∙ passing_same (legal_from 0 o n) (legal o n) (λ w. legal_plain o n w (sizes_leave o k (length ws) (sym sized ∙ nodes)).0) ws

    pub plain_stops : i < length ws → {r : Refusal} → r ≡ illegal_plain n i (get_or ws i 0) → Err r ≡ check_plain o k ws
    plain_stops l e = plain_goes (stops n (legal o n) (illegal_plain n) ws plain_found l e)

    pub plain_ends : length ws ≤ i → Ok n ≡ check_plain o k ws
    plain_ends l = plain_goes (ends n (legal o n) (illegal_plain n) ws plain_found l)
