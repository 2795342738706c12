-- All lines, in the terms of the loop that goes over them.
use Prim.Native.Nat.{ℕ, suc, ◌+◌, ◌*◌, ◌/◌, ◌<◌, ◌≤◌}
use mathlib.Core.Path.{◌≡◌, ◌∙◌}
use mathlib.Core.Bool.{Bool, true, false, ◌&&◌}
use mathlib.Core.List.{List}
use native.Mathlib.Omega.{arith}
use native.Mathlib.Numerals.{add-one}
use lib.ListN.{length, get_or, drop, drop_of_length-le}
use lib.Seq.{drop-cons}
use Rattle.theory.specs.Words.{tail_of, head_of, sign_of}
use Rattle.derivation_lines.specs.Lines.{blank}
use Rattle.derivation_lines.specs.Tests.{grounds, follows, all_follow}
use Rattle.derivation_lines.specs.Flat.{ground_at, lines_of}
use Rattle.derivation_lines.proofs.Flatness.{line_read, lines_length}

module _ (o k set : ℕ) (ws l : List ℕ) (n : ℕ) where
  -- A line is made of its four numbers.
  pub line_holds : 4 * n + 4 ≤ length l → {i j : ℕ} {b : Bool} → i ≡ get_or l (4 * n + 2) 0 → j ≡ get_or l (4 * n + 3) 0
      → b ≡ grounds o k set ws (lines_of l) n (tail_of (get_or l (4 * n) 0)) (head_of (get_or l (4 * n) 0)) (sign_of (get_or l (4 * n) 0)) (ground_at (get_or l (4 * n + 1) 0) i j)
      → b ≡ follows o k set ws (lines_of l) n (get_or (lines_of l) n blank)
  line_holds h e f g = rw (line_read l n h, ← e, ← f) g

  -- The loop has come to line n: it follows, or does not, or there is none.
  module _ (h : n < length l / 4) {b : Bool} (told : b ≡ follows o k set ws (lines_of l) n (get_or (lines_of l) n blank)) where
    here : all_follow o k set ws (lines_of l) n (drop n (lines_of l)) ≡ (b && all_follow o k set ws (lines_of l) (suc n) (drop (suc n) (lines_of l)))
    unfolding all_follow
    here = rw (drop-cons (lines_of l) n blank (omega (arith, lines_length l)), told)

    pub lines_go : b ≡ true → all_follow o k set ws (lines_of l) n (drop n (lines_of l)) ≡ all_follow o k set ws (lines_of l) (n + 1) (drop (n + 1) (lines_of l))
    lines_go e = here ∙ rw (add-one n, e)

    pub lines_stop : b ≡ false → all_follow o k set ws (lines_of l) n (drop n (lines_of l)) ≡ false
    lines_stop e = here ∙ rw e

  pub lines_end : length l / 4 ≤ n → all_follow o k set ws (lines_of l) n (drop n (lines_of l)) ≡ true
  unfolding all_follow
  lines_end h = rw (drop_of_length-le (lines_of l) {i = n} (omega (arith, lines_length l)))
