-- The supported set contains the links, is closed under (3.1) to (3.5), and lies inside every set that does both.
use Prim.Native.Nat.{ℕ}
use Rattle.theory.specs.Words.{Sign}
use Rattle.theory.specs.Nets.{Statements}
use Rattle.theory.specs.Support.{Supported, Closed, linked, r1, r2, r3, r4, r5}

module _ (o k : ℕ) (L : Statements) where
  pub closed : Closed o k L (Supported o k L)
  closed = record { links = linked; r1 = r1; r2 = r2; r3 = r3; r4 = r4; r5 = r5 }

  pub smallest : (P : Statements) → Closed o k L P → {x y : ℕ} {s : Sign} → Supported o k L x y s → P x y s
  smallest P c (linked l) = c.links l
  smallest P c (r1 p) = c.r1 p
  smallest P c (r2 q r a b) = c.r2 q r (smallest P c a) (smallest P c b)
  smallest P c (r3 p q a) = c.r3 p q (smallest P c a)
  smallest P c (r4 q r a b) = c.r4 q r (smallest P c a) (smallest P c b)
  smallest P c (r5 p q h a b) = c.r5 p q h (smallest P c a) (smallest P c b)
