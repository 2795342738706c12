-- What the two loops between passes leave, whatever function of bytes they apply.
use Prim.Native.Nat.{ℕ, zero, suc, ◌+◌, ◌-◌, ◌<◌, ◌≤◌, zero-le, suc-le-suc}
use mathlib.Core.Path.{◌≡◌, refl, sym, ap}
use mathlib.Core.Bool.{Bool, true, false, not, ◌&&◌}
use mathlib.Core.List.{List, [], ◌∷◌}
use native.Mathlib.Omega.{arith}
use native.Mathlib.Nat.{not-suc-le-zero, le_of_suc-le-suc, suc_inj}
use borrow.Author.Count.{below_more}
use lib.ListN.{length, get_or, set, drop}
use lib.Seq.{get_or-set_same, get_or-set_other}
use lib.Bits.{bit_and, bit_or}
use Rattle.theory_laws.specs.Deciding.{Decides}
use Rattle.theory_laws.proofs.Booleans.{neither}
use Rattle.theory_laws.proofs.Bits.{bit_or_lem, bit_zero}
use Rattle.theory_laws.proofs.Deciding.{decides_both, decides_same}
use Rattle.theory.specs.Marks.{has}
use Rattle.scan_lanes.specs.Codes.{on_nodes, is_code, NoneNew}
use Rattle.scan_fold.specs.Gained.{NoneGained}

-- Where f made each byte of n nodes, and the others are as they were, that is all bytes.
pub nodes_each : (f : ℕ → ℕ) (n : ℕ) (m₀ m : List ℕ) → length m ≡ length m₀ → n ≤ length m₀ → ((v : ℕ) → v < n → get_or m v 0 ≡ f (get_or m₀ v 0))
    → drop n m ≡ drop n m₀ → m ≡ on_nodes f n m₀
unfolding on_nodes
nodes_each f zero m₀ m e r h d = d
nodes_each f (suc n) [] m e r h d = absurd (not-suc-le-zero r)
nodes_each f (suc n) (x ∷ m₀) [] e r h d = absurd (omega arith)
nodes_each f (suc n) (x ∷ m₀) (y ∷ m) e r h d =
    rw (h 0 (suc-le-suc zero-le), nodes_each f n m₀ m (suc_inj e) (le_of_suc-le-suc r) (λ v l. h (suc v) (suc-le-suc l)) d)

-- The test that b is false.
decides_false : (b : Bool) → Decides (not b) (b ≡ false)
decides_false true = (λ e. sym e, λ e. sym e)
decides_false false = (λ e. refl, λ e. refl)

pub gained_none : (i : ℕ) (m₀ m : List ℕ) → NoneGained i 0 m₀ m 0
gained_none i m₀ m = (λ e v l. absurd (not-suc-le-zero l), λ f. ap not (bit_zero i))

-- The byte at v becomes x, and what it gains joins r.
pub gained_more : (i : ℕ) (m₀ m : List ℕ) (v x r : ℕ) → v < length m → get_or m v 0 ≡ get_or m₀ v 0 → NoneGained i v m₀ m r
    → NoneGained i (v + 1) m₀ (set m v x) (bit_or r (bit_and x (255 - get_or m v 0)))
gained_more i m₀ m v x r l same h =
    let b = has i r in
    let y = bit_and x (255 - get_or m v 0) in
    let Old = λ (u : ℕ). has i (bit_and (get_or (set m v x) u 0) (255 - get_or m₀ u 0)) ≡ false in
    let here : bit_and (get_or (set m v x) v 0) (255 - get_or m₀ v 0) ≡ y = rw (get_or-set_same m v x 0 l, same) in
    let there : (u : ℕ) → u < v → get_or (set m v x) u 0 ≡ get_or m u 0 = λ u k. get_or-set_other m v u x 0 (λ (e : u ≡ v). omega arith) in
    rw (bit_or_lem i r y, neither b (has i y))
    (decides_same (not b && not (has i y)) (decides_both (not b) (not (has i y)) h (decides_false (has i y)))
    (λ p. below_more Old v (λ u k. rw (there u k) (p.0 u k)) (rw here p.1))
    (λ f. (λ u k. rw (there u k) at (f u (omega arith)), rw here at (f v (omega arith)))))

-- Where bytes, whose marks g reads, are written anew for the pass over "is", what they gain is what is new.
pub gained_new : (g : ℕ → ℕ) (i n r : ℕ) (m₀ m : List ℕ) → ((v : ℕ) → v < n → get_or m v 0 ≡ is_code (g (get_or m₀ v 0))) → NoneGained i n m₀ m r
    → NoneNew g i n m₀ r
gained_new g i n r m₀ m e h = decides_same (not (has i r)) h (λ f v l. rw (e v l) at (f v l)) (λ f v l. rw (e v l) (f v l))
