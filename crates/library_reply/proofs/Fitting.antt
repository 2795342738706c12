-- Replies whose values fit into 32 bits, from the check of a net on.
use Rattle.std.specs.Prelude.{Err, Ok}
use Prim.Native.Nat.{ℕ, ◌+◌, ◌<◌}
use mathlib.Core.Path.{◌≡◌, refl, sym, subst}
use mathlib.Core.Bool.{Bool, true, false, cond}
use mathlib.Core.List.{List}
use native.Mathlib.Omega.{arith}
use borrow.Author.Tests.{ltb-true, ltb-false}
use lib.Dec.{ltb}
use lib.ListN.{length, get_or}
use Rattle.theory.specs.Words.{node_limit, word_limit}
use Rattle.theory.specs.Origins.{origin_limit, set_limit}
use Rattle.net_word.specs.Legal.{legal_from, cause_of, cause_number}
use Rattle.net_word.specs.declared.Cause.{Cause}
use Rattle.net_word.specs.declared.Cause.TheVariants.{Tail, Head, Origin}
use Rattle.net.specs.Passing.{passing}
use Rattle.net.specs.Clauses.{Clause, call}
use Rattle.net.proofs.OnNet.{by_check, on_net}
use Rattle.net.specs.Table.{Reply, reply, net_clauses, check_net, checked_reply, refusal_reply}
use Rattle.net.specs.declared.Refusal.{Refusal}
use Rattle.net.specs.Table.{Checked}
use Rattle.library_reply.specs.Fits.{Fits}

-- A reply that fits on both sides of a test fits after it.
pub either : {A : Type 0} (f : A → Reply) (t : Bool) {u v : A} → (t ≡ true → Fits (f u)) → (t ≡ false → Fits (f v)) → Fits (f (cond t u v))
either f true h i = h refl
either f false h i = i refl

-- A reply whose values are below 2^32.
pub fits : {n a b : ℕ} → a < 4294967296 → b < 4294967296 → Fits (reply n a b)
fits h i = record { first = h; second = i }

-- A reply without values.
pub bare : {n : ℕ} → Fits (reply n 0 0)
bare = fits (omega arith) (omega arith)

-- The number of a cause is small.
pub cause_low : (c : Cause) → cause_number c < 4294967296
cause_low Tail = omega arith
cause_low Head = omega arith
cause_low Origin = omega arith

-- Where the reply of an answer fits, so does the reply of an equal one; f gives the replies.
pub carry_fits : {A : Type 0} (f : A → Reply) {a v : A} → a ≡ v → Fits (f a) → Fits (f v)
carry_fits {A} f e = subst (λ (u : A). Fits (f u)) e

module _ (o k : ℕ) (ws : List ℕ) (set : ℕ) where
  -- The check of a net: it has at most 1,024 nodes, and an illegal word stands below the limit of words.
  pub checked_fits : Fits (checked_reply (check_net o k ws set))
  unfolding check_net
  checked_fits =
      either checked_reply (ltb node_limit (o + k)) (λ _. bare)
      (λ few. either checked_reply (ltb word_limit (length ws)) (λ _. bare)
      (λ short. either checked_reply (ltb set_limit set) (λ _. bare)
      (λ _. either checked_reply (ltb first (length ws))
      (λ stops. fits (omega (arith, ltb-false word_limit (length ws) short, ltb-true first (length ws) stops)) (cause_low (cause_of (o + k) (get_or ws first 0))))
      (λ _. fits (omega (arith, ltb-false node_limit (o + k) few)) (omega arith)))))
    where
      first : ℕ
      first = passing (legal_from origin_limit o (o + k)) ws

  -- An operation that passes refusals on has a reply that fits, if it has one for every net.
  module _ (f : Checked → Reply) (passed : (r : Refusal) → f (Err r) ≡ refusal_reply r) (nets : (n : ℕ) → check_net o k ws set ≡ Ok n → Fits (f (Ok n))) where
    reply_fits : (net : Checked) → check_net o k ws set ≡ net → Fits (f net)
    reply_fits (Ok n) e = nets n e
    reply_fits (Err r) e = subst Fits (sym (passed r)) (carry_fits checked_reply e checked_fits)

    pub operation_fits : Fits (f (check_net o k ws set))
    operation_fits = reply_fits (check_net o k ws set) refl

  -- The same of an operation whose table is a list of clauses.
  module _ {A : Type 0} (f : A → Reply) (refused : Refusal → A) (clauses : ℕ → List (Clause A)) (done : ℕ → A) where
    pub table_fits : ((r : Refusal) → f (refused r) ≡ refusal_reply r) → ((n : ℕ) → check_net o k ws set ≡ Ok n → Fits (f (call (clauses n) (done n))))
        → Fits (f (call (net_clauses refused o k ws set (clauses (o + k))) (done (o + k))))
    table_fits passed nets =
        subst (λ (a : A). Fits (f a)) (on_net refused o k ws set clauses done) (operation_fits (λ (net : Checked). f (by_check refused clauses done net)) passed nets)
