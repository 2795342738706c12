-- The marks at the start of a scan, and what any scan from them keeps.
use Prim.Native.Nat.{ℕ, zero, suc, ◌^◌, ◌<◌}
use mathlib.Core.Path.{◌≡◌, refl, subst, sym, ◌∙◌, ap}
use mathlib.Core.Bool.{Bool, false, ◌&&◌, ◌||◌}
use mathlib.Core.List.{List}
use native.Mathlib.Omega.{arith}
use native.Mathlib.Nat.{zero-div}
use lib.Dec.{eqb}
use lib.ListN.{length, get_or, length-replicate}
use borrow.Author.Tests.{eqb-true, eq-eqb}
use Rattle.theory_laws.proofs.Booleans.{contradiction, and_left, and_right, or_split, or_true}
use Rattle.theory.specs.Marks.{T, U, has, mark, blank, commands, scan_start, At}
use Rattle.theory.proofs.machine.Growth.{Puts}
use Rattle.theory.proofs.machine.Commands.{mark_at, mark_length}
use Rattle.theory.proofs.machine.Soundness.{Within}

pub blank_byte : (n z : ℕ) → get_or (blank n) z 0 ≡ 0
blank_byte zero z = refl
blank_byte (suc n) zero = refl
blank_byte (suc n) (suc z) = blank_byte n z

no_marker : (j : ℕ) → has j 0 ≡ false
no_marker j = rw (zero-div (2 ^ j))

pub blank_none : (n j v : ℕ) → At (blank n) j v → ⊥
blank_none n j v a = contradiction (sym (no_marker j) ∙ (rw (blank_byte n v) at a))

pub mark_within : (P : ℕ → ℕ → Type 0) (k t : ℕ) (m : List ℕ) → t < length m → P k t → Within P m → Within P (mark k t m)
mark_within P k t m l p i j v a =
    or_split (has j (get_or m v 0)) (eqb t v && eqb j k) (sym (mark_at j k t v m l) ∙ a) (i j v)
    (λ b. subst (λ (u : ℕ). P u v) (sym (eqb-true j k (and_right (eqb t v) (eqb j k) b)))
    (subst (λ (u : ℕ). P k u) (eqb-true t v (and_left (eqb t v) (eqb j k) b)) p))

pub mark_has : (k t : ℕ) (m : List ℕ) → t < length m → At (mark k t m) k t
mark_has k t m l = mark_at k k t t m l ∙ rw (eq-eqb t t refl, eq-eqb k k refl) (or_true (has k (get_or m t 0)))

pub mark_keeps : (k t : ℕ) (m : List ℕ) → t < length m → Within (At (mark k t m)) m
mark_keeps k t m l j v a = mark_at j k t v m l ∙ ap (λ (q : Bool). q || (eqb t v && eqb j k)) a

module _ (n x : ℕ) (h : x < n) where
  pub blank_room : x < length (blank n)
  blank_room = omega (arith, length-replicate {A = ℕ} n 0)

  pub T_long : length (mark T x (blank n)) ≡ n
  T_long = mark_length T x (blank n) ∙ length-replicate {A = ℕ} n 0

  T_room : x < length (mark T x (blank n))
  T_room = omega (arith, T_long)

  pub start_long : length (scan_start n x) ≡ n
  start_long = mark_length U x (mark T x (blank n)) ∙ T_long

  pub start_within : (P : ℕ → ℕ → Type 0) → P T x → P U x → Within P (scan_start n x)
  start_within P p q = mark_within P U x (mark T x (blank n)) T_room q (mark_within P T x (blank n) blank_room p (λ j v a. absurd (blank_none n j v a)))

  pub start_has_T : At (scan_start n x) T x
  start_has_T = mark_keeps U x (mark T x (blank n)) T_room T x (mark_has T x (blank n) blank_room)

  pub start_has_U : At (scan_start n x) U x
  start_has_U = mark_has U x (mark T x (blank n)) T_room

-- The commands put T, F and U alone.
pub commands_put : Puts 3 commands
commands_put = (omega arith, (omega arith, (omega arith, (omega arith, (omega arith, tt)))))

pub commands_put_8 : Puts 8 commands
commands_put_8 = (omega arith, (omega arith, (omega arith, (omega arith, (omega arith, tt)))))
