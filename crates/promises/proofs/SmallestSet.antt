-- Demand 2 speaks of the smallest set: the supported set is one, and there is no other.
use Prim.Native.Nat.{ℕ}
use mathlib.Core.Logic.{◌↔◌}
use Rattle.theory.specs.Words.{Sign}
use Rattle.theory.specs.Nets.{Statements}
use Rattle.theory.specs.Support.{Supported}
use Rattle.theory.proofs.support.Smallest.{closed, smallest}
use Rattle.promises.specs.Demand2.{Smallest}

-- The supported set is the smallest.
pub supported_smallest : (o k : ℕ) (L : Statements) → Smallest o k L (Supported o k L)
supported_smallest o k L = record { closed = closed o k L; inside = λ Q c x y s p. smallest o k L Q c p }

-- And every smallest set has its members and no others.
pub smallest_is_supported : (o k : ℕ) (L P : Statements) → Smallest o k L P → (x y : ℕ) (s : Sign) → P x y s ↔ Supported o k L x y s
smallest_is_supported o k L P h x y s = (h.inside (Supported o k L) (closed o k L) x y s, λ p. smallest o k L P h.closed p)
