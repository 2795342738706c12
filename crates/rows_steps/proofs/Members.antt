-- The members of a word: the first by trailing zeros, the others without the lowest bit, their number by counting ones.
use Prim.Native.Nat.{ℕ, zero, suc, ◌+◌, ◌-◌, ◌/◌, ◌%◌, ◌^◌, ◌≤◌, ◌<◌}
use mathlib.Core.Path.{◌≡◌, refl, sym, ap, ◌∙◌}
use mathlib.Core.Bool.{Bool, true, false, cond}
use mathlib.Core.List.Memᴰ
use mathlib.Core.List.{List, [], ◌∷◌, ◌++◌, Memᴰ}
use mathlib.Core.Logic.{◌↔◌, ⊎_elim}
use native.Mathlib.Nat.{pow-suc, pow-zero, div-one}
use native.Mathlib.Omega.{arith}
use native.Mathlib.Decide.{ℕ_discrete}
use lib.Dec.{eqb}
use lib.ListN.{length}
use lib.Pow.{shr-shr}
use lib.Bits.{bit_and}
use lib.Count.{ones, ones_step, count_trailing_zeros}
use Rattle.theory_laws.proofs.Bits.{bit_zero}
use Rattle.theory.specs.Marks.{has}
use Rattle.rows_steps.specs.Members.{members_from, members}
use Rattle.rows_steps.proofs.Lowest.{Lowest, lowest, Dropped, dropped}

-- Places that are clear are passed over.
pass : (n b d j c l : ℕ) → b + d ≡ c → d + j ≡ l → ((i : ℕ) → b ≤ i → i < c → has i n ≡ false) → members_from n b l ≡ members_from n c j
unfolding members_from
pass n b zero j c l e g f =
    let p : l ≡ j = omega arith in
    let q : c ≡ b = omega arith in
    rw (p, q)
pass n b (suc d) j c l e g f =
    let p : l ≡ suc (d + j) = omega arith in
    rw (p, f b (omega arith) (omega arith)) (pass n (suc b) d j c (d + j) (omega arith) refl (λ i h k. f i (omega arith) (omega arith)))

-- Words with the same bits have the same members.
alike : (n m b j : ℕ) → ((i : ℕ) → b ≤ i → i < b + j → has i n ≡ has i m) → members_from n b j ≡ members_from m b j
unfolding members_from
alike n m b zero f = refl
alike n m b (suc j) f = rw (f b (omega arith) (omega arith), alike n m (suc b) j (λ i h g. f i (omega arith) (omega arith)))

here : (n t j : ℕ) → has t n ≡ true → members_from n t (suc j) ≡ t ∷ members_from n (suc t) j
unfolding members_from
here n t j e = rw e

next_at : (n t m k : ℕ) → Lowest n t k → Dropped n t m → members_from n 0 k ≡ t ∷ members_from m 0 k
next_at n t m k l d =
    let below = l.below in
    let a : members_from n 0 k ≡ members_from n t (suc (k - suc t)) = pass n 0 t (suc (k - suc t)) t k (omega arith) (omega arith) (λ i h g. l.clear i g) in
    let b : members_from m 0 k ≡ members_from m (suc t) (k - suc t) = pass m 0 (suc t) (k - suc t) (suc t) k (omega arith) (omega arith) (λ i h g. low i (ℕ_discrete i t) g) in
    a ∙ here n t (k - suc t) l.set ∙ ap (λ (q : List ℕ). t ∷ q) (alike n m (suc t) (k - suc t) (λ i h g. sym (d.kept i (λ q. omega arith))) ∙ sym b)
  where
    low : (i : ℕ) → Dec (i ≡ t) → i < suc t → has i m ≡ false
    low i (yes e) h = rw e d.gone
    low i (no f) h = d.kept i f ∙ l.clear i (omega arith)

-- The next member is given by the trailing zeros; the others are those of the word without its lowest bit.
pub members_next : (n : ℕ) → 0 < n → n < 2 ^ 64 → members n ≡ count_trailing_zeros 64 n ∷ members (bit_and n (n - 1))
members_next n h l = next_at n (count_trailing_zeros 64 n) (bit_and n (n - 1)) 64 (lowest 64 n h l) (dropped 64 n h l)

-- A word with a member: the next one is below 64, and the word without it is less.
module _ (n : ℕ) (some : n ≡ 0 → ⊥) (small : n < 2 ^ 64) where
  pub next_small : count_trailing_zeros 64 n < 64
  next_small = (lowest 64 n (omega arith) small).below

  pub rest_less : bit_and n (n - 1) < n
  rest_less = (dropped 64 n (omega arith) small).less

pub members_none : members 0 ≡ []
unfolding members_from
members_none = pass 0 0 64 0 64 64 (omega arith) (omega arith) (λ i h g. bit_zero i)

-- ── what a member is ──
one_of : (n b t : ℕ) (p : Bool) → has b n ≡ p → Memᴰ t (cond p (b ∷ []) []) → (t ≡ b) × (has b n ≡ true)
one_of n b t true e m = (⊎_elim (λ q. q) (λ q. elim q [ ]) (Memᴰ.cases_cons m), e)
one_of n b t false e m = elim m [ ]

pub from_has : (n b j t : ℕ) → Memᴰ t (members_from n b j) → (has t n ≡ true) × (b ≤ t) × (t < b + j)
unfolding members_from
from_has n b zero t m = elim m [ ]
from_has n b (suc j) t m = ⊎_elim
    (λ a. let r = one_of n b t (has b n) refl a in (rw r.0 r.1, omega (arith, r.0), omega (arith, r.0)))
    (λ a. let r = from_has n (suc b) j t a in (r.0, omega (arith, r.1), omega (arith, r.2)))
    (Memᴰ.append_cases (cond (has b n) (b ∷ []) []) m)

pub has_from : (n b j t : ℕ) → has t n ≡ true → b ≤ t → t < b + j → Memᴰ t (members_from n b j)
unfolding members_from
has_from n b zero t e h g = absurd (omega arith)
has_from n b (suc j) t e h g = pick (ℕ_discrete t b) (λ f. has_from n (suc b) j t e (omega arith) (omega arith))
  where
    pick : Dec (t ≡ b) → ((t ≡ b → ⊥) → Memᴰ t (members_from n (suc b) j)) → Memᴰ t (cond (has b n) (b ∷ []) [] ++ members_from n (suc b) j)
    pick (yes q) f =
        let e2 : has b n ≡ true = rw q at e in
        Memᴰ.append_left {s = cond (has b n) (b ∷ []) []} (members_from n (suc b) j) (rw e2 (Memᴰ.head q))
    pick (no q) f = Memᴰ.append_right (cond (has b n) (b ∷ []) []) (f q)

-- A place below 64 is a member exactly if its bit is set.
pub member_is : (n t : ℕ) → Memᴰ t (members n) ↔ ((has t n ≡ true) × (t < 64))
member_is n t = ((λ m. let r = from_has n 0 64 t m in (r.0, r.2)), λ h. has_from n 0 64 t h.0 (omega arith) h.1)

-- ── their number ──
low_one : (d : ℕ) → d < 2 → (r : List ℕ) (b : ℕ) → length (cond (eqb d 1) (b ∷ []) [] ++ r) ≡ d + length r
low_one zero h r b = omega arith
low_one (suc zero) h r b = omega arith
low_one (suc (suc d)) h r b = absurd (omega arith)

count_from : (n b j : ℕ) → n / 2 ^ b < 2 ^ j → ones (n / 2 ^ b) ≡ length (members_from n b j)
unfolding members_from ones
count_from n b zero h =
    let e : n / 2 ^ b ≡ 0 = omega (arith, simp pow-zero at h) in
    rw e
count_from n b (suc j) h =
    let e : n / 2 ^ b / 2 ≡ n / 2 ^ suc b = shr-shr n b 1 ∙ ap (λ (x : ℕ). n / 2 ^ x) (omega arith) in
    let g : n / 2 ^ suc b < 2 ^ j = omega (arith, simp pow-suc at h) in
    ones_step (n / 2 ^ b) ∙ ap (λ (x : ℕ). n / 2 ^ b % 2 + x) (ap ones e ∙ count_from n (suc b) j g)
    ∙ sym (low_one (n / 2 ^ b % 2) (omega arith) (members_from n (suc b) j) b)

-- Counting ones counts the members.
pub members_count : (n : ℕ) → n < 2 ^ 64 → ones n ≡ length (members n)
members_count n h =
    let e : n / 2 ^ 0 ≡ n = rw (pow-zero, div-one) in
    let r = count_from n 0 64 (rw e h) in
    rw e at r
