-- The loop that moves words down by one place.
use Prim.Native.Nat.{ℕ, suc, ◌+◌, ◌-◌, ◌≤◌, ◌<◌}
use mathlib.Core.Path.{◌≡◌, sym, ap, ◌∙◌}
use mathlib.Core.List.{List, ◌++◌}
use native.Mathlib.Omega.{arith}
use native.Mathlib.Decide.{dec_lt}
use lib.ListN.{length, get_or, take, drop, length-append, length-drop, get_or-append}
use lib.Seq.{length-take-le, get_or-take, get_or-drop, get_or-append-add, ext_get_or}
use Rattle.std.specs.List.{CopiedTo, SameBelow, SameFrom}
use Rattle.theory.specs.Compaction.{without}
use Rattle.theory.proofs.compaction.Places.{without_long, without_below, without_above}

-- The words from i + 1 on below `end` have moved down by one place, the others stand where they stood.
pub record Shifts (i end : ℕ) (l₀ l : List ℕ) : Type 0 where
  pub low : i < end
  pub long : length l ≡ length l₀
  pub before : (u : ℕ) → u < i → get_or l u 0 ≡ get_or l₀ u 0
  pub down : (u : ℕ) → i ≤ u → u < end - 1 → get_or l u 0 ≡ get_or l₀ (suc u) 0
  pub after : (u : ℕ) → end - 1 ≤ u → get_or l u 0 ≡ get_or l₀ u 0

-- What the library's copy leaves.
pub shifts : {i end : ℕ} {l₀ l : List ℕ} → i < end → length l ≡ length l₀ → CopiedTo l₀ l (i + 1) i (end - (i + 1)) × SameBelow l₀ l i × SameFrom l₀ l (i + (end - (i + 1))) → Shifts i end l₀ l
shifts {i} {end} {l₀} h long c = record {
  low = h;
  long = long;
  before = λ u p. c.1 u 0 p;
  down = λ u p q. let e : i + 1 + (u - i) ≡ suc u = omega arith in rw e at (c.0 u 0 p (omega arith));
  after = λ u p. c.2 u 0 (omega arith);
}

module _ {i end : ℕ} {l₀ l : List ℕ} (s : Shifts i end l₀ l) (fits : end ≤ length l₀) where
  -- The word at place i is out.
  pub shifted : l ≡ without i (take end l₀) ++ drop (end - 1) l₀
  shifted = ext_get_or 0 l (A ++ B) total (λ u p. pick u p (dec_lt u (end - 1)) (dec_lt u i))
    where
      A : List ℕ
      A = without i (take end l₀)

      B : List ℕ
      B = drop (end - 1) l₀

      taken : length (take end l₀) ≡ end
      taken = length-take-le end l₀ fits

      in_it : i < length (take end l₀)
      in_it = let a = s.low in omega (arith, taken)

      A_long : length A ≡ end - 1
      A_long = without_long i (take end l₀) in_it ∙ ap (λ (v : ℕ). v - 1) taken

      total : length l ≡ length (A ++ B)
      total = let b = s.low in omega (arith, s.long, length-append A B, A_long, length-drop (end - 1) l₀)

      pick : (u : ℕ) → u < length l → Dec (u < end - 1) → Dec (u < i) → get_or l u 0 ≡ get_or (A ++ B) u 0
      pick u p (yes z) (yes y) =
          s.before u y
          ∙ sym (get_or-append A B 0 u (omega (arith, A_long)) ∙ without_below i (take end l₀) in_it u y ∙ get_or-take end l₀ u 0 (omega arith))
      pick u p (yes z) (no y) =
          s.down u (omega arith) (omega arith)
          ∙ sym (get_or-append A B 0 u (omega (arith, A_long)) ∙ without_above i (take end l₀) in_it u (omega arith) ∙ get_or-take end l₀ (suc u) 0 (omega arith))
      pick u p (no z) y =
          let b = s.low in
          let e : length A + (u - (end - 1)) ≡ u = omega (arith, A_long) in
          let d : end - 1 + (u - (end - 1)) ≡ u = omega arith in
          let a : get_or (A ++ B) u 0 ≡ get_or B (u - (end - 1)) 0 = rw e at (get_or-append-add A B (u - (end - 1)) 0) in
          let t : get_or B (u - (end - 1)) 0 ≡ get_or l₀ u 0 = rw d at (get_or-drop (end - 1) l₀ (u - (end - 1)) 0) in
          s.after u (omega arith) ∙ sym (a ∙ t)
