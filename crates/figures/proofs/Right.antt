-- What a net gives that is not refused: its figures, by the meaning of them.
use Rattle.std.specs.Prelude.{Err, Ok}
use Prim.Native.Nat.{ℕ}
use mathlib.Core.Path.{◌≡◌, refl, subst}
use mathlib.Core.List.{List}
use native.Mathlib.Omega.{arith}
use Rattle.theory.specs.Origins.{chosen}
use Rattle.theory.proofs.origins.Statements.{chosen_net}
use Rattle.net.specs.Table.{check_net, check_plain}
use Rattle.net.specs.declared.Refusal.{Refusal}
use Rattle.net.specs.Table.{Checked}
use Rattle.net.proofs.Replies.{refusal_numbers}
use Rattle.net.proofs.NetCheck.{plain_chosen}
use Rattle.figures_counts.specs.Meaning.{Figures}
use Rattle.figures_counts.proofs.Figures.{figures_right}
use Rattle.figures.specs.Figured.{figured_by, figured_net, figured_plain}
use Rattle.figures.proofs.Outcomes.{counted_net}

module _ (o k : ℕ) (ws : List ℕ) where
  -- A refusal has another number.
  not_refused : (set : ℕ) (r : Refusal) → (figured_by o k ws set (Err r)).number ≡ 0 → ⊥
  unfolding figured_by
  not_refused set r e = omega (arith, refusal_numbers r)

  counted : (set n : ℕ) → check_net o k ws set ≡ Ok n → Figures o k (chosen set ws) (figured_by o k ws set (Ok n)).counts
  unfolding figured_by
  counted set n net = figures_right o k (chosen set ws) (chosen_net set o k ws (counted_net o k ws set net).0)

  -- With origins: those of the words that the set chooses.
  pub net_right : (set : ℕ) → (figured_net o k ws set).number ≡ 0 → Figures o k (chosen set ws) (figured_net o k ws set).counts
  net_right set e = at (check_net o k ws set) refl e
    where
      at : (c : Checked) → check_net o k ws set ≡ c → (figured_by o k ws set c).number ≡ 0 → Figures o k (chosen set ws) (figured_by o k ws set c).counts
      at (Ok n) f e = counted set n f
      at (Err r) f e = absurd (not_refused set r e)

  -- Of plain words: those of all of them.
  pub plain_right : (figured_plain o k ws).number ≡ 0 → Figures o k ws (figured_plain o k ws).counts
  plain_right e = at (check_plain o k ws) refl e
    where
      at : (c : Checked) → check_plain o k ws ≡ c → (figured_by o k ws 1 c).number ≡ 0 → Figures o k ws (figured_by o k ws 1 c).counts
      at (Ok n) f e =
          let t = plain_chosen o k ws f 1 (omega arith) refl in
          subst (λ (z : List ℕ). Figures o k z (figured_by o k ws 1 (Ok n)).counts) t.1 (counted 1 n t.0)
      at (Err r) f e = absurd (not_refused 1 r e)
