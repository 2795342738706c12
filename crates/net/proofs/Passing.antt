-- The words of a list that pass a test before the first that fails it.
use Prim.Native.Nat.{ℕ, zero, suc, ◌+◌, ◌<◌, ◌≤◌, zero-le, suc-le-suc}
use mathlib.Core.Path.{◌≡◌, refl, ap}
use mathlib.Core.Bool.{Bool, true, false, cond}
use mathlib.Core.List.{List, [], ◌∷◌}
use native.Mathlib.Numerals.{add-one}
use native.Mathlib.Omega.{arith}
use native.Mathlib.Nat.{le_of_suc-le-suc, not-suc-le-zero}
use lib.ListN.{length, get_or, drop, drop_of_length-le}
use lib.Seq.{drop-cons}
use Rattle.net.specs.Passing.{passing}

-- In the terms of a loop that has come to word i: it goes on, it stops, it has come to the end.
module _ (test : ℕ → Bool) (ws : List ℕ) (i : ℕ) where
  pub passing_go : i < length ws → test (get_or ws i 0) ≡ true → passing test (drop i ws) ≡ 1 + passing test (drop (i + 1) ws)
  unfolding passing
  passing_go h t = rw (add-one i, drop-cons ws i 0, t) (omega arith)

  pub passing_stop : i < length ws → test (get_or ws i 0) ≡ false → passing test (drop i ws) ≡ 0
  unfolding passing
  passing_stop h t = rw (drop-cons ws i 0, t)

  pub passing_end : length ws ≤ i → passing test (drop i ws) ≡ 0
  unfolding passing
  passing_end h = rw (drop_of_length-le ws h)

-- Every word before the first that fails passes; it does not; and nothing else is so.
module _ (test : ℕ → Bool) where
  pub passing_passes : (ws : List ℕ) (j : ℕ) → j < passing test ws → test (get_or ws j 0) ≡ true
  unfolding passing
  passing_passes [] j l = absurd (not-suc-le-zero l)
  passing_passes (w ∷ ws) j l = at (test w) refl j l (passing_passes ws)
    where
      at : (q : Bool) → test w ≡ q → (j : ℕ) → j < cond q (suc (passing test ws)) zero → ((j : ℕ) → j < passing test ws → test (get_or ws j 0) ≡ true)
          → test (get_or (w ∷ ws) j 0) ≡ true
      at true e zero l f = e
      at true e (suc j) l f = f j (le_of_suc-le-suc l)
      at false e j l f = absurd (not-suc-le-zero l)

  pub passing_fails : (ws : List ℕ) → passing test ws < length ws → test (get_or ws (passing test ws) 0) ≡ false
  unfolding passing
  passing_fails [] l = absurd (not-suc-le-zero l)
  passing_fails (w ∷ ws) l = at (test w) refl l (passing_fails ws)
    where
      at : (q : Bool) → test w ≡ q → cond q (suc (passing test ws)) zero < suc (length ws)
          → (passing test ws < length ws → test (get_or ws (passing test ws) 0) ≡ false)
          → test (get_or (w ∷ ws) (cond q (suc (passing test ws)) zero) 0) ≡ false
      at true e l f = f (le_of_suc-le-suc l)
      at false e l f = e

  -- A place before which all words pass, and which is the end or holds a word that fails, is their number.
  pub passing_is : (ws : List ℕ) (i : ℕ) → i ≤ length ws → (i < length ws → test (get_or ws i 0) ≡ false)
      → ((j : ℕ) → j < i → test (get_or ws j 0) ≡ true) → passing test ws ≡ i
  unfolding passing
  passing_is [] zero l h f = refl
  passing_is [] (suc i) l h f = absurd (not-suc-le-zero l)
  passing_is (w ∷ ws) zero l h f = rw (h (suc-le-suc zero-le))
  passing_is (w ∷ ws) (suc i) l h f =
      rw (f 0 (suc-le-suc zero-le))
      (ap suc (passing_is ws i (le_of_suc-le-suc l) (λ k. h (suc-le-suc k)) (λ j k. f (suc j) (suc-le-suc k))))

-- Tests that say the same of every word have one number.
pub passing_same : (test other : ℕ → Bool) → ((w : ℕ) → test w ≡ other w) → (ws : List ℕ) → passing test ws ≡ passing other ws
unfolding passing
passing_same test other e [] = refl
passing_same test other e (w ∷ ws) = rw (e w, passing_same test other e ws)
