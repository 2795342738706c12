-- A call that begins with a check: a refusal is passed on, and what the check lets pass goes on to the operation's own clauses.
use Rattle.std.specs.Prelude.{Err, Ok}
use Prim.Native.Nat.{ℕ, ◌+◌}
use mathlib.Core.Path.{◌≡◌, refl, sym, ap, ◌∙◌}
use mathlib.Core.Bool.{Bool, true, false, cond}
use mathlib.Core.List.{List, [], ◌∷◌}
use Rattle.net.specs.Clauses.{Clause, clause, call}
use Rattle.net.specs.Table.{size_clauses, net_clauses, plain_clauses, check_sizes, check_net, check_plain}
use Rattle.net.specs.declared.Refusal.{Refusal}
use Rattle.net.specs.Table.{Checked}

-- Clauses that refuse, in front of the others.
abbrev refusing : {A : Type 0} → (Refusal → A) → List (Clause Refusal) → List (Clause A) → List (Clause A)
refusing refused [] rest = rest
refusing refused (r ∷ rs) rest = clause r.number r.applies (refused r.outcome) ∷ refusing refused rs rest

module _ {A : Type 0} (refused : Refusal → A) (clauses : ℕ → List (Clause A)) (done : ℕ → A) where
  -- What the call gives, by the answer of its check.
  abbrev pub by_check : Checked → A
  by_check (Ok n) = call (clauses n) (done n)
  by_check (Err r) = refused r

  by_clauses : (n : ℕ) (rs : List (Clause Refusal)) → by_check (call (refusing Err rs []) (Ok n)) ≡ call (refusing refused rs (clauses n)) (done n)
  by_clauses n [] = refl
  by_clauses n (r ∷ rs) = at r.applies (by_clauses n rs)
    where
      at : (q : Bool) → by_check (call (refusing Err rs []) (Ok n)) ≡ call (refusing refused rs (clauses n)) (done n)
          → by_check (cond q (Err r.outcome) (call (refusing Err rs []) (Ok n))) ≡ cond q (refused r.outcome) (call (refusing refused rs (clauses n)) (done n))
      at true e = refl
      at false e = e

  module _ {check : Checked} {whole : A} (by : by_check check ≡ whole) where
    -- A refusal is passed on.
    pub passed : {r : Refusal} → check ≡ Err r → refused r ≡ whole
    passed e = sym (ap by_check e) ∙ by

    -- A net of n nodes goes on.
    pub gone : {n : ℕ} {s : A} → check ≡ Ok n → s ≡ call (clauses n) (done n) → s ≡ whole
    gone e h = h ∙ sym (ap by_check e) ∙ by

-- The three checks: of the sizes, of a net, of a plain list.
module _ {A : Type 0} (refused : Refusal → A) (o k : ℕ) where
  pub on_sizes : (count : ℕ) (clauses : ℕ → List (Clause A)) (done : ℕ → A)
      → by_check refused clauses done (check_sizes o k count) ≡ call (size_clauses refused o k count (clauses (o + k))) (done (o + k))
  unfolding check_sizes
  on_sizes count clauses done = by_clauses refused clauses done (o + k) (size_clauses (λ r. r) o k count [])

  module _ (ws : List ℕ) where
    module _ (set : ℕ) (clauses : ℕ → List (Clause A)) (done : ℕ → A) where
      pub on_net : by_check refused clauses done (check_net o k ws set) ≡ call (net_clauses refused o k ws set (clauses (o + k))) (done (o + k))
      unfolding check_net
      on_net = by_clauses refused clauses done (o + k) (net_clauses (λ r. r) o k ws set [])

      pub passed_on : {r : Refusal} → check_net o k ws set ≡ Err r → refused r ≡ call (net_clauses refused o k ws set (clauses (o + k))) (done (o + k))
      passed_on = passed refused clauses done on_net

      pub gone_on : {n : ℕ} {s : A} → check_net o k ws set ≡ Ok n → s ≡ call (clauses n) (done n)
          → s ≡ call (net_clauses refused o k ws set (clauses (o + k))) (done (o + k))
      gone_on = gone refused clauses done on_net

    module _ (clauses : ℕ → List (Clause A)) (done : ℕ → A) where
      pub on_plain : by_check refused clauses done (check_plain o k ws) ≡ call (plain_clauses refused o k ws (clauses (o + k))) (done (o + k))
      unfolding check_plain
      on_plain = by_clauses refused clauses done (o + k) (plain_clauses (λ r. r) o k ws [])

      pub plain_passed_on : {r : Refusal} → check_plain o k ws ≡ Err r → refused r ≡ call (plain_clauses refused o k ws (clauses (o + k))) (done (o + k))
      plain_passed_on = passed refused clauses done on_plain

      pub plain_gone_on : {n : ℕ} {s : A} → check_plain o k ws ≡ Ok n → s ≡ call (clauses n) (done n)
          → s ≡ call (plain_clauses refused o k ws (clauses (o + k))) (done (o + k))
      plain_gone_on = gone refused clauses done on_plain
