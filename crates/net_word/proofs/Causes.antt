-- Why a word is illegal: an illegal word has one cause, and it is the one that is told.
use Prim.Native.Nat.{ℕ, ◌+◌, ◌≤◌}
use mathlib.Core.Path.{◌≡◌, refl, subst}
use mathlib.Core.Bool.{Bool, true, false, cond}
use mathlib.Core.Logic.{◌↔◌}
use native.Mathlib.Omega.{arith}
use borrow.Author.Tests.{leb-true, leb-false, le-leb}
use lib.Dec.{leb}
use Rattle.theory.specs.Words.{tail_of, node_limit}
use Rattle.theory.specs.Nets.{LegalWord}
use Rattle.theory.specs.Origins.{origin_unit, origin_of, plain_of, origin_limit, LegalFrom}
use Rattle.net_word.specs.Legal.{BecausePlain, Because, plain_cause, cause_of, cause_number}
use Rattle.net_word.specs.declared.Cause.{Cause}
use Rattle.net_word.specs.declared.Cause.TheVariants.{Tail, Head, Origin}

-- A cause is told by its number.
pub one_cause : (c d : Cause) → cause_number c ≡ cause_number d → c ≡ d
one_cause Tail Tail e = refl
one_cause Tail Head e = absurd (omega (arith, e))
one_cause Tail Origin e = absurd (omega (arith, e))
one_cause Head Tail e = absurd (omega (arith, e))
one_cause Head Head e = refl
one_cause Head Origin e = absurd (omega (arith, e))
one_cause Origin Tail e = absurd (omega (arith, e))
one_cause Origin Head e = absurd (omega (arith, e))
one_cause Origin Origin e = refl

module _ (o k w : ℕ) where
  -- ── plain words ──
  -- A word with a cause is illegal.
  pub plain_because_illegal : (c : Cause) → BecausePlain o k w c → LegalWord o k w → ⊥
  plain_because_illegal Tail b l = b l.tail
  plain_because_illegal Head b l = b.1 l.head
  plain_because_illegal Origin b l = b

  -- It has no second one.
  plain_because_one : (c d : Cause) → BecausePlain o k w c → BecausePlain o k w d → c ≡ d
  plain_because_one Tail Tail b e = refl
  plain_because_one Tail Head b e = absurd (b e.0)
  plain_because_one Head Tail b e = absurd (e b.0)
  plain_because_one Head Head b e = refl
  plain_because_one Tail Origin b e = absurd e
  plain_because_one Head Origin b e = absurd e
  plain_because_one Origin d b e = absurd b

  -- The cause that is told of an illegal word is its cause.
  pub plain_cause_because : (LegalWord o k w → ⊥) → BecausePlain o k w (plain_cause (o + k) w)
  plain_cause_because h = at (leb (o + k) (tail_of w)) refl
    where
      at : (q : Bool) → leb (o + k) (tail_of w) ≡ q → BecausePlain o k w (cond q Tail Head)
      at true e = λ l. omega (arith, leb-true (o + k) (tail_of w) e)
      at false e = let l = leb-false (o + k) (tail_of w) e in (l, λ h'. h (record { tail = l; head = h' }))

  -- And no other.
  pub plain_cause_exactly : (LegalWord o k w → ⊥) → (c : Cause) → (plain_cause (o + k) w ≡ c) ↔ BecausePlain o k w c
  plain_cause_exactly h c = ((λ e. subst (BecausePlain o k w) e (plain_cause_because h)), λ b. plain_because_one (plain_cause (o + k) w) c (plain_cause_because h) b)

  -- Among plain words one of 2,097,152 or more has cause 1.
  pub plain_large : o + k ≤ node_limit → origin_unit ≤ w → plain_cause (o + k) w ≡ Tail
  plain_large few h = rw (le-leb (o + k) (tail_of w) (omega arith))

-- ── words with an origin: the same, the origin first ──
module _ (o k w : ℕ) where
  pub because_illegal : (c : Cause) → Because o k w c → LegalFrom o k w → ⊥
  because_illegal Tail b l = b.1 l.plain.tail
  because_illegal Head b l = b.2 l.plain.head
  because_illegal Origin b l = b l.origin

  because_one : (c d : Cause) → Because o k w c → Because o k w d → c ≡ d
  because_one Tail Tail b e = refl
  because_one Tail Head b e = absurd (b.1 e.1)
  because_one Tail Origin b e = absurd (e b.0)
  because_one Head Tail b e = absurd (e.1 b.1)
  because_one Head Head b e = refl
  because_one Head Origin b e = absurd (e b.0)
  because_one Origin Tail b e = absurd (b e.0)
  because_one Origin Head b e = absurd (b e.0)
  because_one Origin Origin b e = refl

  pub cause_because : (LegalFrom o k w → ⊥) → Because o k w (cause_of (o + k) w)
  cause_because h = at (leb (origin_of w) origin_limit) refl
    where
      plain : origin_of w ≤ origin_limit → (c : Cause) → BecausePlain o k (plain_of w) c → Because o k w c
      plain l Tail b = (l, b)
      plain l Head b = (l, b.0, b.1)
      plain l Origin b = absurd b

      at : (q : Bool) → leb (origin_of w) origin_limit ≡ q → Because o k w (cond q (plain_cause (o + k) (plain_of w)) Origin)
      at true e =
          let l = leb-true (origin_of w) origin_limit e in
          plain l (plain_cause (o + k) (plain_of w)) (plain_cause_because o k (plain_of w) (λ p. h (record { origin = l; plain = p })))
      at false e = λ l. omega (arith, leb-false (origin_of w) origin_limit e)

  pub cause_exactly : (LegalFrom o k w → ⊥) → (c : Cause) → (cause_of (o + k) w ≡ c) ↔ Because o k w c
  cause_exactly h c = ((λ e. subst (Because o k w) e (cause_because h)), λ b. because_one (cause_of (o + k) w) c (cause_because h) b)
