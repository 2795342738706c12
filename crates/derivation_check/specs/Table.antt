-- The number table of the check of a derivation: that of the reason check, with the lines in place of the path.
use Rattle.std.specs.Prelude.{ℕ, ◌%◌, ◌≡◌, Bool, ◌&&◌, List, eqb, length, Ok}
use Rattle.theory.specs.Words.{Sign, sign_at}
use Rattle.net.specs.Clauses.{call}
use Rattle.reason_check.specs.Table.{check_table, Verdict}
use Rattle.derivation_lines.specs.Lines.{Derives}
use Rattle.derivation_lines.specs.Tests.{derives}
use Rattle.derivation_lines.specs.Flat.{lines_of}

-- The list is made of whole lines, and they derive x → y, or x ↛ y.
pub record DerivationOf (o k set : ℕ) (ws : List ℕ) (x y : ℕ) (s : Sign) (l : List ℕ) : Type 0 where
  pub whole : length l % 4 ≡ 0
  pub lines : Derives o k set ws (lines_of l) x y s

-- The same, computed.
abbrev pub accepts : ℕ → ℕ → ℕ → List ℕ → ℕ → ℕ → Sign → List ℕ → Bool
accepts o k set ws x y s l = eqb (length l % 4) 0 && derives o k set ws (lines_of l) x y s

-- Number 0: yes or no to the list.
abbrev pub lines_done : ℕ → ℕ → ℕ → List ℕ → ℕ → ℕ → ℕ → List ℕ → Verdict
lines_done o k set ws x y sign l = Ok (accepts o k set ws x y (sign_at sign) l)

-- Whether the list is a derivation of x → y (sign 0) or x ↛ y (sign 1) whose links are words that the set of origins chooses.
abbrev pub lines_verdict : ℕ → ℕ → List ℕ → ℕ → ℕ → ℕ → ℕ → List ℕ → Verdict
lines_verdict o k ws set x y sign l = call (check_table o k ws set x y sign) (lines_done o k set ws x y sign l)
