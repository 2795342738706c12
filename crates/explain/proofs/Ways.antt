-- The derivation and its size, by the way that the second part is gone down, in the terms of the code.
use Prim.Native.Nat.{ℕ, suc, ◌+◌, ◌-◌, ◌*◌, ◌≤◌}
use mathlib.Core.Path.{◌≡◌, refl, sym, ap, ◌∙◌}
use mathlib.Core.Bool.{Bool, true, false}
use mathlib.Core.List.{List, [], ◌∷◌}
use native.Mathlib.Omega.{arith}
use native.Mathlib.Decide.{ℕ_discrete}
use borrow.Author.Tests.{lt-ltb, le-ltb, ne_eqb}
use lib.Dec.{ltb}
use lib.ListN.{length, get_or, drop, length-drop}
use Rattle.theory_laws.proofs.Booleans.{contradiction}
use Rattle.derivation_lines.specs.Deriving.{rise, sink, swing, derive, cross_size, derived_size}
use Rattle.derivation_lines.proofs.Sizes.{derive_size}
use Rattle.explain_path.proofs.Written.{sink_total, swing_total}
use Rattle.explain.specs.Straight.{straight}

empty : (s : List ℕ) → length s ≡ 0 → s ≡ []
empty [] h = refl
empty (v ∷ s) h = absurd (omega arith)

-- Two nodes and more are gone straight down exactly if x is an object.
longer : (o x n : ℕ) (b : Bool) → straight o x (suc (suc n)) ≡ b → ltb x o ≡ b
longer o x n b e = rw (ne_eqb (suc (suc n)) 1 (λ (q : suc (suc n) ≡ 1). omega arith)) at e

module _ (o set : ℕ) (ws : List ℕ) (x : ℕ) (xs : List ℕ) where
  pub derive_rise : (s : List ℕ) → length s ≡ 0 → derive o set ws x xs s ≡ rise set ws x xs
  unfolding derive
  derive_rise s h = rw (empty s h)

  pub derive_straight : (s : List ℕ) → (length s ≡ 0 → ⊥) → straight o x (length s) ≡ true → derive o set ws x xs s ≡ sink set ws x xs (get_or s 0 0) (drop 1 s)
  unfolding derive
  derive_straight [] h e = absurd (h refl)
  derive_straight (y ∷ []) h e = refl
  derive_straight (y ∷ z ∷ zs) h e = rw (longer o x (length zs) true e)

  pub derive_turned : (s : List ℕ) → (length s ≡ 0 → ⊥) → straight o x (length s) ≡ false → derive o set ws x xs s ≡ swing set ws x xs (get_or s 0 0) (drop 1 s)
  unfolding derive
  derive_turned [] h e = absurd (h refl)
  derive_turned (y ∷ []) h e = contradiction (sym e)
  derive_turned (y ∷ z ∷ zs) h e = rw (longer o x (length zs) false e)

-- The two parts of a path, as lists of their nodes.
module _ (o set : ℕ) (ws p s : List ℕ) where
  abbrev x : ℕ
  x = get_or p 0 0

  abbrev xs : List ℕ
  xs = drop 1 p

  abbrev u : ℕ
  u = get_or p (length p - 1) 0

  abbrev y : ℕ
  y = get_or s 0 0

  pub count_itself : length s ≡ 0 → length p - 1 ≡ 0 → 1 ≡ derived_size o set ws x xs s
  unfolding derived_size
  count_itself h e = rw (empty s h, length-drop 1 p, le-ltb 0 (length p - 1) (omega arith))

  pub count_rise : length s ≡ 0 → (length p - 1 ≡ 0 → ⊥) → 2 * (length p - 1) - 1 ≡ derived_size o set ws x xs s
  unfolding derived_size
  count_rise h e = rw (empty s h, length-drop 1 p, lt-ltb 0 (length p - 1) (omega arith)) (omega arith)

  module _ (first : 1 ≤ length p) where
    -- What a rise asks for.
    pub rise_room : length s ≡ 0 → {m : ℕ} → 4 * length (derive o set ws x xs s) ≤ m → (8 * (length p - 1) ≤ m + 4) × (4 ≤ m)
    rise_room h {m} r = at (ℕ_discrete (length p - 1) 0)
      where
        at : Dec (length p - 1 ≡ 0) → (8 * (length p - 1) ≤ m + 4) × (4 ≤ m)
        at (yes e) = let c = count_itself h e in let d = derive_size set ws o x xs s in (omega arith, omega arith)
        at (no e) = let c = count_rise h e in let d = derive_size set ws o x xs s in (omega arith, omega arith)

    module _ (second : length s ≡ 0 → ⊥) {r : Bool} (told : r ≡ straight o x (length s)) where
      pub count_straight : r ≡ true → {t : ℕ} → t ≡ cross_size set ws u y → 2 * (length p - 1) + 2 * (length s - 1) + t ≡ derived_size o set ws x xs s
      count_straight e f =
          let d = sym (derive_size set ws o x xs s) ∙ ap length (derive_straight o set ws x xs s second (sym told ∙ e)) in
          omega (arith, d, sink_total set ws [] p s first (omega arith))

      pub count_turned : r ≡ false → {t : ℕ} → t ≡ cross_size set ws y u → 2 * (length p - 1) + 2 * (length s - 1) + t + 1 ≡ derived_size o set ws x xs s
      count_turned e f =
          let d = sym (derive_size set ws o x xs s) ∙ ap length (derive_turned o set ws x xs s second (sym told ∙ e)) in
          omega (arith, d, swing_total set ws [] p s first (omega arith))
