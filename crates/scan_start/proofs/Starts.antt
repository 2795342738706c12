-- The marks at the start of a scan, with the bytes past the nodes behind them.
use Prim.Native.Nat.{ℕ, ◌<◌}
use mathlib.Core.Path.{◌≡◌, refl, sym, ap, ◌∙◌}
use mathlib.Core.Bool.{Bool, true, false}
use mathlib.Core.List.{List, ◌++◌}
use native.Mathlib.Omega.{arith}
use borrow.Author.Tests.{eqb-true, eqb-false}
use lib.Dec.{eqb}
use lib.ListN.{length, get_or, set, replicate, length-replicate, get_or-replicate, get_or-append}
use lib.Seq.{get_or-set_same, get_or-set_other, set-append_left, set-set}
use Rattle.theory.specs.Marks.{mark, blank, scan_start}
use Rattle.theory.proofs.machine.Starts.{start_long}
use Rattle.scan_start.specs.Starts.{Low}

module _ (n x : ℕ) (l : x < n) where
  room : x < length (blank n)
  room = omega (arith, length-replicate {A = ℕ} n 0)

  -- The start is one byte on blank marks: T and U.
  start_set : scan_start n x ≡ set (blank n) x 5
  unfolding mark
  start_set = rw (get_or-replicate {A = ℕ} n x 0 0 l, get_or-set_same (blank n) x 1 0 room) (set-set (blank n) x 1 5)

  -- In the terms of the code: the byte is set where the nodes' bytes were cleared.
  pub start_put : (past : List ℕ) → set (replicate n 0 ++ past) x 5 ≡ scan_start n x ++ past
  start_put past = set-append_left (blank n) past x 5 room ∙ ap (λ (m : List ℕ). m ++ past) (sym start_set)

  start_low : Low n (scan_start n x)
  start_low v i = rw start_set (at (eqb x v) refl)
    where
      at : (q : Bool) → eqb x v ≡ q → get_or (set (blank n) x 5) v 0 < 8
      at true e =
          let s : x ≡ v = eqb-true x v e in
          rw (← s, get_or-set_same (blank n) x 5 0 room) (omega arith)
      at false e =
          rw (get_or-set_other (blank n) x v 5 0 (λ (s : v ≡ x). eqb-false x v e (sym s)), get_or-replicate {A = ℕ} n v 0 0 i)
          (omega arith)

  -- The bytes of the nodes are below 8, whatever stands past them.
  pub started_low : (past : List ℕ) → Low n (scan_start n x ++ past)
  started_low past v i = rw (get_or-append (scan_start n x) past 0 v (omega (arith, start_long n x l))) (start_low v i)
