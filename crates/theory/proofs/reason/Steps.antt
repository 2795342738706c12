-- The tests of a path's steps pass exactly if the steps are steps of the net.
use Prim.Native.Nat.{ℕ, suc, ◌+◌, ◌≤◌}
use mathlib.Core.Path.{◌≡◌, refl, sym}
use mathlib.Core.Bool.{◌&&◌, ◌||◌, false≢true}
use mathlib.Core.List.Memᴰ
use mathlib.Core.List.{List, [], ◌∷◌, ◌++◌, Memᴰ}
use mathlib.Core.Logic.{◌⊎◌, inl, inr}
use native.Mathlib.Omega.{arith}
use lib.Dec.{eqb, ltb, leb}
use lib.ListN.{length}
use borrow.Author.Tests.{lt-ltb, le-ltb, eq-eqb, ne_eqb}
use Rattle.theory.specs.Words.{Sign, is, isnt, sign_number, tail_of, head_of, parity}
use Rattle.theory.specs.Nets.{Links}
use Rattle.theory.specs.Paths.{Step, last_of, First, Crossing, Second}
use Rattle.theory.specs.Checks.{listed, steps_to, step_at, all_steps}
use Rattle.theory_laws.specs.Deciding.{Decides}
use Rattle.theory_laws.proofs.Deciding.{decides_equal, decides_below, decides_most, decides_both, decides_either, decides_same}

-- A word of the list says the statement exactly if the net links it.
pub listed_exactly : (x y : ℕ) (s : Sign) (ws : List ℕ) → Decides (listed x y (sign_number s) ws) (Links ws x y s)
unfolding listed
listed_exactly x y s [] = (λ e. absurd (false≢true e), λ l. elim l.listed [ ])
listed_exactly x y s (w ∷ ws) =
    decides_same _
    (decides_either _ _ (decides_both _ _ (decides_equal (tail_of w) x) (decides_both _ _ (decides_equal (head_of w) y) (decides_equal (parity w) (sign_number s)))) (listed_exactly x y s ws)) there back
  where
    there : ((tail_of w ≡ x) × ((head_of w ≡ y) × (parity w ≡ sign_number s))) ⊎ Links ws x y s → Links (w ∷ ws) x y s
    there (inl (a, (b, c))) = record { it = w; listed = Memᴰ.head refl; tail = a; head = b; sign = c }
    there (inr l) = record { it = l.it; listed = Memᴰ.tail l.listed; tail = l.tail; head = l.head; sign = l.sign }

    back : Links (w ∷ ws) x y s → ((tail_of w ≡ x) × ((head_of w ≡ y) × (parity w ≡ sign_number s))) ⊎ Links ws x y s
    back l = pick (Memᴰ.cases_cons l.listed)
      where
        pick : (l.it ≡ w) ⊎ Memᴰ l.it ws → ((tail_of w ≡ x) × ((head_of w ≡ y) × (parity w ≡ sign_number s))) ⊎ Links ws x y s
        pick (inl e) = inl (rw e at l.tail, (rw e at l.head, rw e at l.sign))
        pick (inr m) = inr (record { it = l.it; listed = m; tail = l.tail; head = l.head; sign = l.sign })

module _ (o k : ℕ) (ws : List ℕ) where
  steps_exactly : (a b : ℕ) → Decides (steps_to o k ws a b) (Step o k (Links ws) a b)
  steps_exactly a b =
      decides_either (listed a b 0 ws) _ (listed_exactly a b is ws)
      (decides_both (eqb a b) _ (decides_equal a b)
      (decides_same (leb o a && ltb a (o + k)) (decides_both (leb o a) (ltb a (o + k)) (decides_most o a) (decides_below a (o + k))) (λ p. record { low = p.0; high = p.1 }) (λ h. (h.low, h.high))))

  crossing_exactly : (u v : ℕ) → Decides (listed u v 1 ws || listed v u 1 ws) (Crossing (Links ws) u v)
  crossing_exactly u v = decides_either (listed u v 1 ws) (listed v u 1 ws) (listed_exactly u v isnt ws) (listed_exactly v u isnt ws)

  second_exactly : (a i : ℕ) → a ≤ i → (u : ℕ) (zs : List ℕ) → Decides (all_steps o k ws a i u zs) (Second o k (Links ws) u zs)
  unfolding all_steps
  second_exactly a i h u [] = (λ e. tt, λ p. refl)
  second_exactly a i h u (z ∷ zs) =
      let e : step_at o k ws a i u z ≡ steps_to o k ws z u = rw (le-ltb (suc i) a (omega arith), ne_eqb (suc i) a (λ q. omega arith)) refl in
      decides_both (step_at o k ws a i u z) _ (rw e (steps_exactly z u)) (second_exactly a (suc i) (omega arith) z zs)

  -- What follows the first part's last node u: nothing, or a crossing and a second part.
  abbrev pub Rest : ℕ → List ℕ → Type 0
  Rest u [] = Unit {0}
  Rest u (z ∷ zs) = Crossing (Links ws) u z × Second o k (Links ws) z zs

  rest_exactly : (a i : ℕ) → a ≡ suc i → (u : ℕ) (ys : List ℕ) → Decides (all_steps o k ws a i u ys) (Rest u ys)
  unfolding all_steps
  rest_exactly a i h u [] = (λ e. tt, λ p. refl)
  rest_exactly a i h u (z ∷ zs) =
      let e : step_at o k ws a i u z ≡ (listed u z 1 ws || listed z u 1 ws) = rw (le-ltb (suc i) a (omega arith), eq-eqb (suc i) a (sym h)) refl in
      decides_both (step_at o k ws a i u z) _ (rw e (crossing_exactly u z)) (second_exactly a (suc i) (omega arith) z zs)

  -- All steps of a path, from node i of its first part on.
  pub all_steps_exactly : (a i u : ℕ) (xs ys : List ℕ) → a ≡ suc (i + length xs) → Decides (all_steps o k ws a i u (xs ++ ys)) (First o k (Links ws) u xs × Rest (last_of u xs) ys)
  unfolding all_steps
  all_steps_exactly a i u [] ys h = decides_same _ (rest_exactly a i (omega arith) u ys) (λ p. (tt, p)) (λ p. p.1)
  all_steps_exactly a i u (x ∷ xs) ys h =
      let e : step_at o k ws a i u x ≡ steps_to o k ws u x = rw (lt-ltb (suc i) a (omega arith)) refl in
      decides_same _ (decides_both (step_at o k ws a i u x) _ (rw e (steps_exactly u x)) (all_steps_exactly a (suc i) x xs ys (omega arith))) there back
    where
      there : Step o k (Links ws) u x × (First o k (Links ws) x xs × Rest (last_of x xs) ys) → (Step o k (Links ws) u x × First o k (Links ws) x xs) × Rest (last_of x xs) ys
      there (a, (b, c)) = ((a, b), c)

      back : (Step o k (Links ws) u x × First o k (Links ws) x xs) × Rest (last_of x xs) ys → Step o k (Links ws) u x × (First o k (Links ws) x xs × Rest (last_of x xs) ys)
      back ((a, b), c) = (a, (b, c))
