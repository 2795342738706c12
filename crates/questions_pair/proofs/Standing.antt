-- What stands in a buffer, in the terms of the code.
use Prim.Native.Nat.{ℕ, ◌<◌}
use mathlib.Core.Path.{◌≡◌, sym, ap, subst, ◌∙◌}
use mathlib.Core.List.{List}
use lib.ListN.{take}
use Rattle.theory.specs.Scans.{full_scan}
use Rattle.questions_pair.specs.Holding.{Stands, Known}
use Rattle.questions_pair.specs.declared.Held.{Held}

module _ (n : ℕ) (ws : List ℕ) (h : Held) (m : List ℕ) (x : ℕ) (e : h.node ≡ x) where
  -- The scan from a node that is held stands there.
  pub held_stands : x < n → Known n ws h m → Stands n ws h m
  held_stands l k = k (subst (λ (v : ℕ). v < n) (sym e) l)

  -- What stands there is the scan from x.
  pub stands_from : Stands n ws h m → (h.count ≡ (full_scan n ws x).count) × (take n m ≡ (full_scan n ws x).marks)
  stands_from s = (s.count ∙ ap (λ (v : ℕ). (full_scan n ws v).count) e, s.marks ∙ ap (λ (v : ℕ). (full_scan n ws v).marks) e)
