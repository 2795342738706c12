-- The lowest bit of a number, by its trailing zeros, and the number without it.
use Prim.Native.Nat.{ℕ, zero, suc, ◌-◌, ◌*◌, ◌/◌, ◌%◌, ◌^◌, ◌<◌}
use mathlib.Core.Path.{◌≡◌, refl, sym, ap, ◌∙◌}
use mathlib.Core.Bool.{true, false}
use native.Mathlib.Nat.{pow-suc, pow-zero, not-suc-le-zero}
use native.Mathlib.Omega.{arith}
use lib.Bits.{bit_and, and_step, and_self}
use lib.Count.{count_trailing_zeros, under}
use Rattle.theory_laws.proofs.Bits.{bit_first, bit_next}
use Rattle.theory.specs.Marks.{has}

-- t is the lowest of k bits of n.
pub record Lowest (n t k : ℕ) : Type 0 where
  pub below : t < k
  pub set : has t n ≡ true
  pub clear : (j : ℕ) → j < t → has j n ≡ false

odd : (k n : ℕ) → n % 2 ≡ 1 → Lowest n 0 (suc k)
odd k n e = record { below = omega arith; set = bit_first n ∙ rw e; clear = λ j h. absurd (not-suc-le-zero h) }

even_clear : (n t : ℕ) → n % 2 ≡ 0 → ((j : ℕ) → j < t → has j (n / 2) ≡ false) → (j : ℕ) → j < suc t → has j n ≡ false
even_clear n t e f zero h = bit_first n ∙ rw e
even_clear n t e f (suc j) h = bit_next n j ∙ f j (omega arith)

even : (k n t : ℕ) → n % 2 ≡ 0 → Lowest (n / 2) t k → Lowest n (suc t) (suc k)
even k n t e r = record { below = omega (arith, r.below); set = bit_next n t ∙ r.set; clear = even_clear n t e r.clear }

split : (k n d : ℕ) → n % 2 ≡ d → d < 2 → (n % 2 ≡ 0 → Lowest (n / 2) (count_trailing_zeros k (n / 2)) k) → Lowest n (under d (count_trailing_zeros k (n / 2))) (suc k)
split k n zero e h f = even k n (count_trailing_zeros k (n / 2)) e (f e)
split k n (suc zero) e h f = odd k n e
split k n (suc (suc d)) e h f = absurd (omega arith)

-- The trailing zeros of a number that is not 0 are the place of its lowest bit.
pub lowest : (k n : ℕ) → 0 < n → n < 2 ^ k → Lowest n (count_trailing_zeros k n) k
unfolding count_trailing_zeros
lowest zero n h l = absurd (omega (arith, simp pow-zero at l))
lowest (suc k) n h l = split k n (n % 2) refl (omega arith) (λ e. lowest k (n / 2) (omega arith) (omega (arith, simp pow-suc at l)))

-- ── without the lowest bit ──
-- m is n without its bit t.
pub record Dropped (n t m : ℕ) : Type 0 where
  pub gone : has t m ≡ false
  pub kept : (j : ℕ) → (j ≡ t → ⊥) → has j m ≡ has j n
  pub less : m < n

odd_and : (n : ℕ) → n % 2 ≡ 1 → bit_and n (n - 1) ≡ n / 2 * 2
odd_and n e =
    let p : (n - 1) / 2 ≡ n / 2 = omega arith in
    let q : (n - 1) % 2 ≡ 0 = omega arith in
    and_step n (n - 1) ∙ simp (p, q, e, and_self) (omega arith)

even_and : (n : ℕ) → n % 2 ≡ 0 → 0 < n → bit_and n (n - 1) ≡ bit_and (n / 2) (n / 2 - 1) * 2
even_and n e h =
    let p : (n - 1) / 2 ≡ n / 2 - 1 = omega arith in
    let q : (n - 1) % 2 ≡ 1 = omega arith in
    and_step n (n - 1) ∙ simp (p, q, e) (omega arith)

double_next : (m j : ℕ) → has (suc j) (m * 2) ≡ has j m
double_next m j = bit_next (m * 2) j ∙ ap (λ (x : ℕ). has j x) (omega arith)

double_first : (m : ℕ) → has 0 (m * 2) ≡ false
double_first m = let e : m * 2 % 2 ≡ 0 = omega arith in bit_first (m * 2) ∙ rw e

odd_kept : (n j : ℕ) → (j ≡ 0 → ⊥) → has j (n / 2 * 2) ≡ has j n
odd_kept n zero f = absurd (f refl)
odd_kept n (suc j) f = double_next (n / 2) j ∙ sym (bit_next n j)

even_kept : (n t m : ℕ) → n % 2 ≡ 0 → ((j : ℕ) → (j ≡ t → ⊥) → has j m ≡ has j (n / 2)) → (j : ℕ) → (j ≡ suc t → ⊥) → has j (m * 2) ≡ has j n
even_kept n t m e f zero g = double_first m ∙ sym (bit_first n ∙ rw e)
even_kept n t m e f (suc j) g = double_next m j ∙ f j (λ p. g (ap suc p)) ∙ sym (bit_next n j)

drop_odd : (n : ℕ) → n % 2 ≡ 1 → Dropped n 0 (n / 2 * 2)
drop_odd n e = record { gone = double_first (n / 2); kept = odd_kept n; less = omega arith }

drop_even : (n t m : ℕ) → n % 2 ≡ 0 → Dropped (n / 2) t m → Dropped n (suc t) (m * 2)
drop_even n t m e r = record { gone = double_next m t ∙ r.gone; kept = even_kept n t m e r.kept; less = omega (arith, r.less) }

drop_split : (k n d : ℕ) → n % 2 ≡ d → d < 2 → 0 < n → (n % 2 ≡ 0 → Dropped (n / 2) (count_trailing_zeros k (n / 2)) (bit_and (n / 2) (n / 2 - 1)))
    → Dropped n (under d (count_trailing_zeros k (n / 2))) (bit_and n (n - 1))
drop_split k n zero e h l f = rw (even_and n e l) (drop_even n (count_trailing_zeros k (n / 2)) (bit_and (n / 2) (n / 2 - 1)) e (f e))
drop_split k n (suc zero) e h l f = rw (odd_and n e) (drop_odd n e)
drop_split k n (suc (suc d)) e h l f = absurd (omega arith)

-- A number and itself less one leave the number without its lowest bit.
pub dropped : (k n : ℕ) → 0 < n → n < 2 ^ k → Dropped n (count_trailing_zeros k n) (bit_and n (n - 1))
unfolding count_trailing_zeros
dropped zero n h l = absurd (omega (arith, simp pow-zero at l))
dropped (suc k) n h l = drop_split k n (n % 2) refl (omega arith) h (λ e. dropped k (n / 2) (omega arith) (omega (arith, simp pow-suc at l)))
