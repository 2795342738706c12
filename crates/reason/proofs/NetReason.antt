-- The table's clauses for a net of n nodes, and the net's facts that the search and the walk ask for.
use Rattle.reason.specs.declared.ReasonError.TheVariants.{Refused}
use Rattle.std.specs.Prelude.{Ok, Err}
use Prim.Native.Nat.{ℕ, ◌+◌, ◌≤◌, ◌<◌}
use mathlib.Core.Path.{◌≡◌, sym, ap, ◌∙◌}
use mathlib.Core.Bool.{Bool, true, false}
use mathlib.Core.List.{List, ◌++◌}
use native.Mathlib.Omega.{arith}
use borrow.Author.Tests.{lt-ltb, le-ltb}
use lib.ListN.{length, take, drop}
use lib.Seq.{take_at}
use Rattle.theory.specs.Words.{Sign, sign_at}
use Rattle.theory.specs.Nets.{Net}
use Rattle.theory.specs.Origins.{NetFrom}
use Rattle.theory.specs.Searches.{distances, reason_states}
use Rattle.theory.proofs.reason.Distances.{distances_length}
use Rattle.theory.proofs.reason.Searching.{next_state}
use Rattle.net.specs.Clauses.{call}
use Rattle.net.specs.Table.{check_net, bad_statement}
use Rattle.net.specs.declared.Refusal.TheVariants.{BadQuestion, ShortBuffer}
use Rattle.net.proofs.NetCheck.{chosen_checked}
use Rattle.reason_walk.specs.Walk.{Leads}
use Rattle.reason.specs.Table.{reason_outcome, reason_clauses, reason_done}
use Rattle.reason.specs.Searched.{reason_from}
use Rattle.reason.specs.Table.{Reasoned}

-- What passes the check is a net for the search too, where every node counts as a kind.
pub searched_net : (o k : ℕ) (ws : List ℕ) (set n : ℕ) → check_net o k ws set ≡ Ok n → NetFrom 0 n ws
searched_net o k ws set n e =
    let (same, net, _) = chosen_checked o k ws set e in
    record {
      few = omega (arith, net.few);
      short = net.short;
      legal = λ w m.
          let g = net.legal w m in
          record {
            origin = g.origin;
            plain = record { tail = omega (arith, g.plain.tail); head = record { low = omega arith; high = omega (arith, g.plain.head.high) } };
          };
    }

-- The distances lead from every state that has one.
pub distances_lead : (n : ℕ) (s : Sign) (ws : List ℕ) (y : ℕ) → Net 0 n ws → y < n → Leads n s ws (distances n s ws y)
distances_lead n s ws y net h =
    let all : 0 + n ≡ n = omega arith in
    rw all at (next_state 0 n ws net y (record { low = omega arith; high = omega arith }) s)

-- The part of the scratch that was lent for the distances, lent once more.
module _ (n : ℕ) (s : Sign) (ws : List ℕ) (y : ℕ) (d b : List ℕ) (found : b ≡ distances n s ws y) where
  front : take (n + n) (b ++ drop (n + n) d) ≡ distances n s ws y
  front = take_at b (drop (n + n) d) (n + n) (ap length found ∙ distances_length n s ws y) ∙ found

  pub front_length : length (take (n + n) (b ++ drop (n + n) d)) ≡ n + n
  front_length = ap length front ∙ distances_length n s ws y

  pub front_leads : Net 0 n ws → y < n → Leads n s ws (take (n + n) (b ++ drop (n + n) d))
  front_leads net h = rw front (distances_lead n s ws y net h)

-- The code's test of the statement said `bad`.
module _ (o n : ℕ) (ws : List ℕ) (x y sign : ℕ) (d l : List ℕ) {bad : Bool} (told : bad ≡ bad_statement o n x y sign) where
  -- Number 4.
  pub net_bad : bad ≡ true → reason_outcome (Err (Refused BadQuestion)) d l ≡ call (reason_clauses o ws x y sign d l n) (reason_done ws x y sign d l n)
  net_bad h = rw (← told, h)

  module _ (said : bad ≡ false) where
    good : bad_statement o n x y sign ≡ false
    good = sym told ∙ said

    -- Number 5.
    pub net_short : length d < n + n → reason_outcome (Err (Refused ShortBuffer)) d l ≡ call (reason_clauses o ws x y sign d l n) (reason_done ws x y sign d l n)
    net_short h = rw (good, lt-ltb (length d) (n + n) h)

    -- Numbers 7, 8 and 0 over the distances.
    pub net_searched : n + n ≤ length d → (b : List ℕ) → b ≡ distances n (sign_at sign) ws y → (r : Reasoned) (m : List ℕ)
        → ((past : List ℕ) → reason_outcome r past m ≡ reason_from n (sign_at sign) ws x (take (n + n) (b ++ drop (n + n) d)) past l)
        → reason_outcome r (b ++ drop (n + n) d) m ≡ call (reason_clauses o ws x y sign d l n) (reason_done ws x y sign d l n)
    unfolding reason_states
    net_searched h b e r m f =
        let g = rw (front n (sign_at sign) ws y d b e) at f in
        rw (good, le-ltb (length d) (n + n) h, e) (g (distances n (sign_at sign) ws y ++ drop (n + n) d))
