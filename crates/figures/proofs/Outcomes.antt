-- Each outcome, in the terms of the code.
use Rattle.std.specs.Prelude.{Err, Ok}
use Prim.Native.Nat.{ℕ, ◌+◌}
use mathlib.Core.Path.{◌≡◌}
use mathlib.Core.List.{List}
use Rattle.theory.specs.Origins.{chosen, NetFrom}
use Rattle.net.specs.Table.{Reply, refusal_reply, check_net}
use Rattle.net.specs.declared.Refusal.{Refusal}
use Rattle.net.specs.Table.{Checked}
use Rattle.net.proofs.NetCheck.{chosen_checked}
use Rattle.figures_counts.specs.Counting.{figures}
use Rattle.figures.specs.Figured.{done, refused, figured_by}
use Rattle.figures.specs.declared.Figured.{Figured}

-- What is counted is a net with origins.
pub counted_net : (o k : ℕ) (ws : List ℕ) (set : ℕ) {n : ℕ} → check_net o k ws set ≡ Ok n → NetFrom o k ws × (n ≡ o + k)
counted_net o k ws set e = let t = chosen_checked o k ws set e in (t.1, t.0)

module _ (o k : ℕ) (ws : List ℕ) (set : ℕ) {c : Checked} where
  pub net_done_lem : {n : ℕ} {counts : List ℕ} → c ≡ Ok n → counts ≡ figures o k (chosen set ws) → done counts ≡ figured_by o k ws set c
  unfolding figured_by
  net_done_lem f g = rw (f, g)

  pub net_refused : {r : Refusal} {given : Reply} → c ≡ Err r → given ≡ refusal_reply r → refused given.number ≡ figured_by o k ws set c
  unfolding figured_by
  net_refused f g = rw (f, g)

-- What is given by an answer that the code has is given by the check.
pub figured_as : (o k : ℕ) (ws : List ℕ) (set : ℕ) {c d : Checked} {r : Figured} → c ≡ d → r ≡ figured_by o k ws set c → r ≡ figured_by o k ws set d
figured_as o k ws set e f = rw (← e) f
