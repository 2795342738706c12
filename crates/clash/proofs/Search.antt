-- The search for a node that clashes, in the terms of a loop that has come to node x.
use Rattle.std.specs.Prelude.{Ok, Some, None}
use Prim.Native.Nat.{ℕ, zero, suc, ◌+◌, ◌-◌, ◌<◌, ◌≤◌}
use mathlib.Core.Path.{◌≡◌, refl, sym, ap, ◌∙◌}
use mathlib.Core.Bool.{cond, ◌&&◌}
use mathlib.Core.List.{List}
use native.Mathlib.Omega.{arith}
use native.Mathlib.Numerals.{add-one}
use borrow.Author.Tests.{lt-ltb, le-ltb}
use lib.ListN.{get_or, take}
use lib.Seq.{get_or-take}
use Rattle.theory.specs.Marks.{says_yes, says_no}
use Rattle.theory.specs.Scans.{full_scan}
use Rattle.theory.specs.Completion.{full_marks}
use Rattle.clash.specs.Table.{first_both, first_clash}

-- Bytes past the nodes play no part in the search over kinds.
both_frame : (m : List ℕ) (n y j : ℕ) → y + j ≤ n → first_both (take n m) y j ≡ first_both m y j
unfolding first_both
both_frame m n y zero h = refl
both_frame m n y (suc j) h =
    rw (get_or-take n m y 0 (omega arith)) (ap (λ (q : ℕ). cond (says_yes (get_or m y 0) && says_no (get_or m y 0)) y q) (both_frame m n (suc y) j (omega arith)))

-- The first kind with both marks, read off the marks m that the code has.
pub read_both : (o k n : ℕ) (ws : List ℕ) (x : ℕ) (m : List ℕ) → n ≡ o + k → take n m ≡ (full_scan n ws x).marks → first_both m o (n - o) ≡ first_both (full_marks o k ws x) o k
read_both o k n ws x m e l =
    let a : n - o ≡ k = omega arith in
    sym (both_frame m n o (n - o) (omega arith))
    ∙ ap (λ (q : List ℕ). first_both q o (n - o)) (l ∙ ap (λ (i : ℕ). (full_scan i ws x).marks) e)
    ∙ ap (first_both (full_marks o k ws x) o) a

-- The loop runs to the number `end`.
module _ (o k : ℕ) (ws : List ℕ) (end : ℕ) where
  pub clash_whole : first_clash o k ws 0 end ≡ first_clash o k ws 0 (end - 0)
  clash_whole = let e : end ≡ end - 0 = omega arith in ap (first_clash o k ws 0) e

  module _ (x : ℕ) where
    pub clash_stop : (y : ℕ) → x < end → y ≡ first_both (full_marks o k ws x) o k → y < o + k → Ok (Some (x, y)) ≡ first_clash o k ws x (end - x)
    unfolding first_clash
    clash_stop y h e l =
        let i : end - x ≡ suc (end - suc x) = omega arith in
        rw (i, ← e, lt-ltb y (o + k) l)

    pub clash_go : (y : ℕ) → x < end → y ≡ first_both (full_marks o k ws x) o k → o + k ≤ y → first_clash o k ws x (end - x) ≡ first_clash o k ws (x + 1) (end - (x + 1))
    unfolding first_clash
    clash_go y h e l =
        let i : end - x ≡ suc (end - suc x) = omega arith in
        rw (add-one x, i, ← e, le-ltb y (o + k) l)

    pub clash_end : end ≤ x → first_clash o k ws x (end - x) ≡ Ok None
    unfolding first_clash
    clash_end h =
        let i : end - x ≡ 0 = omega arith in
        rw i
