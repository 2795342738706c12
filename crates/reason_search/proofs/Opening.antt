-- One move of a level, two of them, and the flag that goes with them, in the terms of the code.
use Prim.Native.Nat.{ℕ, zero, suc, ◌+◌, ◌*◌, ◌<◌}
use mathlib.Core.Path.{◌≡◌, refl, sym, ◌∙◌}
use mathlib.Core.Bool.{Bool, true, false, ◌||◌}
use mathlib.Core.List.{List, [], ◌∷◌}
use native.Mathlib.Omega.{arith}
use native.Mathlib.Nat.{le_of_suc-le-suc, not-suc-le-zero}
use native.Mathlib.Numerals.{add-one}
use borrow.Author.Tests.{eq-eqb, ne_eqb, eqb-true}
use lib.Dec.{eqb}
use lib.ListN.{length, get_or, set}
use Rattle.theory_laws.proofs.Booleans.{contradiction, and_left, and_right, and_both, same_test}
use Rattle.theory.specs.Reasons.{never}
use Rattle.theory.specs.Searches.{Arc, arc, opens, level}
use Rattle.reason_search.specs.Search.{Kept}

-- A place of a list is the same whatever stands for a place past it.
pub at_place : (l : List ℕ) (i d e : ℕ) → i < length l → get_or l i d ≡ get_or l i e
at_place [] i d e h = absurd (not-suc-le-zero h)
at_place (x ∷ l) zero d e h = refl
at_place (x ∷ l) (suc i) d e h = at_place l i d e (le_of_suc-le-suc h)

-- Two numbers below 65,536 as one.
abbrev Pair : ℕ → ℕ → ℕ → Type 0
Pair a b x = (x ≡ a * 65536 + b) × ((a < 65536) × (b < 65536))

module _ (i a b : ℕ) (d : List ℕ) (from : a < length d) (to : b < length d) where
  -- The code compares both places of a move with what it wants there, as one number.
  pub pair_opens : {x y : ℕ} → Pair (get_or d a 0) (get_or d b 0) x → Pair never i y → eqb x y ≡ opens i (arc a b) d
  pair_opens {x} {y} h g = same_test (eqb x y) (opens i (arc a b) d) there back
    where
      there : eqb x y ≡ true → opens i (arc a b) d ≡ true
      there e =
          let q : x ≡ y = eqb-true x y e in
          let high : get_or d a 0 ≡ never = omega (arith, h.0, h.1.0, h.1.1, g.0, g.1.1, q) in
          let low : get_or d b 0 ≡ i = omega (arith, h.0, h.1.0, h.1.1, g.0, g.1.1, q) in
          and_both (eqb (get_or d b never) i) (eqb (get_or d a never) never) (eq-eqb (get_or d b never) i (at_place d b never 0 to ∙ low)) (eq-eqb (get_or d a never) never (at_place d a never 0 from ∙ high))

      back : opens i (arc a b) d ≡ true → eqb x y ≡ true
      back e =
          let low : get_or d b 0 ≡ i = at_place d b 0 never to ∙ eqb-true (get_or d b never) i (and_left (eqb (get_or d b never) i) (eqb (get_or d a never) never) e) in
          let high : get_or d a 0 ≡ never = at_place d a 0 never from ∙ eqb-true (get_or d a never) never (and_right (eqb (get_or d b never) i) (eqb (get_or d a never) never) e) in
          eq-eqb x y (omega (arith, h.0, g.0, low, high))

-- A move to a state that is not at distance i does nothing.
pub not_at_level : (i a b : ℕ) (d : List ℕ) → b < length d → (get_or d b 0 ≡ i → ⊥) → d ≡ level i (arc a b ∷ []) d
unfolding level
not_at_level i a b d to h = rw (ne_eqb (get_or d b never) i (λ (e : get_or d b never ≡ i). h (at_place d b 0 never to ∙ e)))

-- What a move does, by what the code found: r tells whether it is open.
module _ (i a b : ℕ) (d : List ℕ) {r : Bool} (told : r ≡ opens i (arc a b) d) where
  pub not_open : r ≡ false → d ≡ level i (arc a b ∷ []) d
  unfolding level
  not_open h = rw (sym told ∙ h)

  pub now_open : r ≡ true → set d a (i + 1) ≡ level i (arc a b ∷ []) d
  unfolding level
  now_open h = rw (add-one i, sym told ∙ h)

-- Two moves are one after the other.
pub level_two : (i : ℕ) (e f : Arc) (d : List ℕ) → level i (e ∷ f ∷ []) d ≡ level i (f ∷ []) (level i (e ∷ []) d)
unfolding level
level_two i e f d = refl

pub level_none : (i : ℕ) (d : List ℕ) → level i [] d ≡ d
unfolding level
level_none i d = refl

-- One flag after another.
pub kept_then : (f g : Bool) {a b c : List ℕ} → Kept f a b → Kept g b c → Kept (f || g) a c
kept_then true g p q h = contradiction (sym h)
kept_then false g p q h = q h ∙ p refl
