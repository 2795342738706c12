-- A link of the path, return by return.
use Prim.Native.Nat.{ℕ, suc, ◌+◌, ◌*◌, ◌≤◌, ◌<◌}
use mathlib.Core.Path.{◌≡◌, sym, ◌∙◌}
use mathlib.Core.Bool.{Bool, true, false}
use mathlib.Core.List.{List}
use native.Mathlib.Omega.{arith}
use lib.ListN.{get_or}
use borrow.Author.Tests.{eq-eqb, ne_eqb, lt-ltb, le-ltb}
use Rattle.proof_form.specs.Checker.{stands_in}
use Rattle.proof_form.specs.FromReason.{hop_at}
use Rattle.proof_link.specs.Numbered.{link_of}
use Rattle.proof_link.specs.declared.Link.{Link}

module _ (ws p : List ℕ) (i a : ℕ) (ea : a ≡ get_or p 0 0) where
  pub link_climbs : i + 1 < a → ◌≡◌ {A = Link} (record { rule = 4; tail = get_or p (i + 2) 0; head = get_or p (i + 3) 0 }) (link_of (hop_at ws p i))
  link_climbs h = rw (← ea, lt-ltb (suc i) a (omega arith))

  pub link_falls : a ≤ i + 1 → (i + 1 ≡ a → ⊥) → ◌≡◌ {A = Link} (record { rule = 5; tail = get_or p (i + 3) 0; head = get_or p (i + 2) 0 }) (link_of (hop_at ws p i))
  link_falls h n = rw (← ea, le-ltb (suc i) a (omega arith), ne_eqb (suc i) a (λ e. n (omega (arith, e))))

  pub link_crosses : (w : ℕ) (r : Bool) → i + 1 ≡ a → w ≡ get_or p (i + 2) 0 * 2048 + get_or p (i + 3) 0 * 2 + 1 → r ≡ stands_in w ws → r ≡ true
      → ◌≡◌ {A = Link} (record { rule = 6; tail = get_or p (i + 2) 0; head = get_or p (i + 3) 0 }) (link_of (hop_at ws p i))
  link_crosses w r h ew er et = rw (← ea, le-ltb (suc i) a (omega arith), eq-eqb (suc i) a (omega arith), ← ew, sym er ∙ et)

  pub link_crosses_back : (w : ℕ) (r : Bool) → i + 1 ≡ a → w ≡ get_or p (i + 2) 0 * 2048 + get_or p (i + 3) 0 * 2 + 1 → r ≡ stands_in w ws → r ≡ false
      → ◌≡◌ {A = Link} (record { rule = 7; tail = get_or p (i + 3) 0; head = get_or p (i + 2) 0 }) (link_of (hop_at ws p i))
  link_crosses_back w r h ew er et = rw (← ea, le-ltb (suc i) a (omega arith), eq-eqb (suc i) a (omega arith), ← ew, sym er ∙ et)
