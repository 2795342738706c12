-- Reading one byte more than the largest file is enough: what follows plays no part in the text.
use Prim.Native.Nat.{ℕ, ◌+◌, ◌≤◌, ◌<◌}
use mathlib.Core.Path.{◌≡◌, sym, ap, ◌∙◌}
use mathlib.Core.Logic.{inr}
use mathlib.Core.List.{List}
use native.Mathlib.Omega.{arith}
use native.Mathlib.Decide.{dec_le}
use lib.ListN.{length, take}
use lib.Seq.{take_all, length-take-le}
use Rattle.netfile.specs.Contents.{file_limit}
use Rattle.netfile.proofs.Places.{wrong_size}
use Rattle.why_text.specs.Text.{why_of}

-- The text of a file above the limit does not depend on its bytes.
above_text : (s t : List ℕ) → file_limit < length s → file_limit < length t → why_of s ≡ why_of t
unfolding why_of
above_text s t h g = wrong_size s (inr h) _ _ _ ∙ sym (wrong_size t (inr g) _ _ _)

-- What `why` prints for the bytes that it reads is what it should print for all of its input.
pub bounded_read : (s : List ℕ) → why_of (take (file_limit + 1) s) ≡ why_of s
bounded_read s = at (dec_le (length s) (file_limit + 1))
  where
    at : Dec (length s ≤ file_limit + 1) → why_of (take (file_limit + 1) s) ≡ why_of s
    at (yes h) = ap why_of (take_all (file_limit + 1) s h)
    at (no h) = above_text (take (file_limit + 1) s) s (omega (arith, length-take-le (file_limit + 1) s (omega arith))) (omega arith)
