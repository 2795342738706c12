-- What the writer asks of lines.
use Rattle.std.specs.Prelude.{ℕ, ◌+◌, ◌*◌, ◌≤◌, ◌<◌, ◌≡◌, List, length, get_or}
use Rattle.derivation_lines.specs.Lines.{none}
use Rattle.derivation_lines.specs.Flat.{ground_at}

-- Every line has a ground, and the numbers after its rule can be counted from 1 on.
pub record PrintableAt (l : List ℕ) (n : ℕ) : Type 0 where
  pub one : get_or l (4 * n + 2) 0 < 4294967295
  pub two : get_or l (4 * n + 3) 0 < 4294967295
  pub some : ground_at (get_or l (4 * n + 1) 0) (get_or l (4 * n + 2) 0) (get_or l (4 * n + 3) 0) ≡ none → ⊥

abbrev pub Printable : List ℕ → Type 0
Printable l = (n : ℕ) → 4 * n + 4 ≤ length l → PrintableAt l n
