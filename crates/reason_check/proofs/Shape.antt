-- The shape of a written path, read from the list by its places.
use Prim.Native.Nat.{ℕ, zero, suc, ◌+◌, ◌-◌, ◌<◌, ◌≤◌}
use mathlib.Core.Path.{◌≡◌, refl, sym, ◌∙◌}
use mathlib.Core.Bool.{Bool, true, false, not, ◌&&◌}
use mathlib.Core.List.{List, [], ◌∷◌}
use native.Mathlib.Omega.{arith}
use borrow.Author.Tests.{not-true, not-false, eqb-true, eq-eqb, ne_eqb, lt-ltb}
use lib.Dec.{eqb, ltb}
use lib.ListN.{length, get_or, drop}
use Rattle.theory_laws.proofs.Booleans.{same_test}
use Rattle.theory.specs.Words.{Sign, sign_at}
use Rattle.theory.specs.Paths.{last_of}
use Rattle.theory.specs.Checks.{all_steps, goes_with, passes}

-- A sign that is not 0 asks for a second part.
pub goes_with_isnt : (sign b : ℕ) → (sign ≡ 0 → ⊥) → ltb 0 b ≡ goes_with (sign_at sign) b
goes_with_isnt zero b h = absurd (h refl)
goes_with_isnt (suc n) b h = refl

-- The last node stands at the last place.
last_place : (u : ℕ) (p : List ℕ) → last_of u p ≡ get_or (u ∷ p) (length p) 0
last_place u [] = refl
last_place u (v ∷ p) = last_place v p

-- The two sizes and their own places make up the list.
same_sizes : (a b n : ℕ) → eqb (a + b) (suc n) ≡ eqb (a + b + 2) (suc (suc (suc n)))
same_sizes a b n = same_test _ _ there back
  where
    there : eqb (a + b) (suc n) ≡ true → eqb (a + b + 2) (suc (suc (suc n))) ≡ true
    there e = eq-eqb (a + b + 2) (suc (suc (suc n))) (omega (arith, eqb-true (a + b) (suc n) e))

    back : eqb (a + b + 2) (suc (suc (suc n))) ≡ true → eqb (a + b) (suc n) ≡ true
    back e = eq-eqb (a + b) (suc n) (omega (arith, eqb-true (a + b + 2) (suc (suc (suc n))) e))

module _ (o k : ℕ) (ws : List ℕ) (x y : ℕ) (s : Sign) where
  -- A list cut short is no path.
  pub short_fails : (l : List ℕ) → length l < 3 → passes o k ws x y s l ≡ false
  unfolding passes
  short_fails [] h = refl
  short_fails (a ∷ []) h = refl
  short_fails (a ∷ b ∷ []) h = refl
  short_fails (a ∷ b ∷ u ∷ p) h = absurd (omega arith)

  -- A longer one is tested by its places.
  pub passes_places : (l : List ℕ) → 3 ≤ length l
      → passes o k ws x y s l
      ≡ (ltb 0 (get_or l 0 0) && (eqb (get_or l 0 0 + get_or l 1 0 + 2) (length l) && (goes_with s (get_or l 1 0)
      && (eqb (get_or l 2 0) x && (eqb (get_or l (length l - 1) 0) y && all_steps o k ws (get_or l 0 0) 0 (get_or l 2 0) (drop 3 l))))))
  unfolding passes
  passes_places [] h = absurd (omega arith)
  passes_places (a ∷ []) h = absurd (omega arith)
  passes_places (a ∷ b ∷ []) h = absurd (omega arith)
  passes_places (a ∷ b ∷ u ∷ p) h =
      let e : length (a ∷ b ∷ u ∷ p) - 1 ≡ suc (suc (length p)) = omega arith in
      rw (e, last_place u p, same_sizes a b (length p))

  -- The tests in their order: the first that fails decides, and past them all the steps do.
  module _ (l : List ℕ) (long : 3 ≤ length l) where
    pub first_part_fails : get_or l 0 0 ≡ 0 → false ≡ passes o k ws x y s l
    first_part_fails e = rw (passes_places l long, e)

    module _ (some : get_or l 0 0 ≡ 0 → ⊥) where
      some_first : ltb 0 (get_or l 0 0) ≡ true
      some_first = lt-ltb 0 (get_or l 0 0) (omega arith)

      pub length_fails : (get_or l 0 0 + get_or l 1 0 + 2 ≡ length l → ⊥) → false ≡ passes o k ws x y s l
      length_fails n = rw (passes_places l long, some_first, ne_eqb (get_or l 0 0 + get_or l 1 0 + 2) (length l) n)

      module _ (sizes : get_or l 0 0 + get_or l 1 0 + 2 ≡ length l) where
        same_length : eqb (get_or l 0 0 + get_or l 1 0 + 2) (length l) ≡ true
        same_length = eq-eqb (get_or l 0 0 + get_or l 1 0 + 2) (length l) sizes

        module _ {r : Bool} (asked : r ≡ goes_with s (get_or l 1 0)) where
          pub sign_fails : not r ≡ true → false ≡ passes o k ws x y s l
          sign_fails n = rw (passes_places l long, some_first, same_length, sym asked ∙ not-true r n)

          module _ (goes : not r ≡ false) where
            same_sign : goes_with s (get_or l 1 0) ≡ true
            same_sign = sym asked ∙ not-false r goes

            pub start_fails : (get_or l 2 0 ≡ x → ⊥) → false ≡ passes o k ws x y s l
            start_fails n = rw (passes_places l long, some_first, same_length, same_sign, ne_eqb (get_or l 2 0) x n)

            module _ (start : get_or l 2 0 ≡ x) where
              same_start : eqb (get_or l 2 0) x ≡ true
              same_start = eq-eqb (get_or l 2 0) x start

              pub end_fails : (get_or l (length l - 1) 0 ≡ y → ⊥) → false ≡ passes o k ws x y s l
              end_fails n =
                  rw (passes_places l long, some_first, same_length, same_sign, same_start, ne_eqb (get_or l (length l - 1) 0) y n)

              pub steps_decide : get_or l (length l - 1) 0 ≡ y → {r : Bool} → r ≡ all_steps o k ws (get_or l 0 0) 0 (get_or l 2 0) (drop 3 l)
                  → r ≡ passes o k ws x y s l
              steps_decide e d =
                  rw (passes_places l long, some_first, same_length, same_sign, same_start, eq-eqb (get_or l (length l - 1) 0) y e) d
