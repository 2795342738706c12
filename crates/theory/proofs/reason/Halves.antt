-- The second half of the scratch: empty for the sign 0, and at every object.
use Prim.Native.Nat.{ℕ, ◌+◌, ◌<◌}
use mathlib.Core.Path.{◌≡◌, refl, ap}
use mathlib.Core.List.{List, [], ◌∷◌}
use native.Mathlib.Omega.{arith}
use lib.ListN.{get_or}
use Rattle.theory.specs.Words.{Sign, is, isnt, sign_number}
use Rattle.theory.specs.Nets.{Kind, Links, Net}
use Rattle.theory.specs.Reasons.{Moves, up, across, down, Route, goal, never, Distance, reached, lost}
use Rattle.theory.specs.Searches.{distances}
use Rattle.theory.proofs.Legal.{Legal, legal_links}
use Rattle.theory.proofs.reason.Moves.{crossing_in}
use Rattle.theory.proofs.reason.Distances.{distances_right}

no_route : (E : ℕ → ℕ → Type 0) (t s d : ℕ) → Distance E t s d → ((q : List ℕ) → Route E t s q → ⊥) → d ≡ never
no_route E t s d (reached h p r e w) f = absurd (f p r)
no_route E t s d (lost e w) f = e

module _ (o k : ℕ) (ws : List ℕ) (net : Net o k ws) (y : ℕ) (kind : Kind o k y) where
  abbrev n : ℕ
  n = o + k

  legal : Legal o k (Links ws)
  legal = legal_links o k ws net.legal

  -- Without a crossing no path stands in the second part.
  pub is_second_never : (v : ℕ) → v < n → get_or (distances n is ws y) (n + v) never ≡ never
  is_second_never v h = no_route (Moves n (Links ws) is) y (n + v) _ (distances_right o k ws net y kind is (n + v) (omega arith)) none
    where
      first : {s : Sign} {a b : ℕ} → s ≡ is → Moves n (Links ws) s a b → a < n
      first {s} {a} {b} e (up l) = legal.tail a b is l
      first e (across b q c) = absurd (omega (arith, ap sign_number e))
      first e (down a b p q l) = absurd (omega (arith, ap sign_number e))

      none : (q : List ℕ) → Route (Moves n (Links ws) is) y (n + v) q → ⊥
      none [] r = omega (arith, kind.high)
      none (b ∷ q) r = omega (arith, first refl r.0)

  -- No object stands in a second part.
  pub object_second_never : (s : Sign) (a : ℕ) → a < o → get_or (distances n s ws y) (n + a) never ≡ never
  object_second_never s a h = no_route (Moves n (Links ws) s) (goal n s y) (n + a) _ (distances_right o k ws net y kind s (n + a) (omega arith)) (none s)
    where
      stuck : {s : Sign} {u b : ℕ} → u ≡ n + a → Moves n (Links ws) s u b → ⊥
      stuck {s} {u} {b} e (up l) = omega (arith, legal.tail u b is l)
      stuck {s} {u} {b} e (across c q x) = omega (arith, (crossing_in o k (Links ws) legal u c x).0)
      stuck {s} {u} {b} e (down c d p q l) = omega (arith, (legal.head d c is l).low)

      none : (s : Sign) (q : List ℕ) → Route (Moves n (Links ws) s) (goal n s y) (n + a) q → ⊥
      none is [] r = omega (arith, kind.high)
      none isnt [] r = omega (arith, kind.low)
      none s (b ∷ q) r = stuck refl r.0
