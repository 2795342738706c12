-- What a buffer of marks holds between questions.
use Rattle.std.specs.Prelude.{ℕ, ◌<◌, ◌≡◌, List, take}
use Rattle.theory.specs.Scans.{full_scan}
use Rattle.questions_pair.specs.declared.Held as struct

-- The full scan over n nodes and the plain words ws from h's node stands in front of the marks m, and h has its count.
pub record Stands (n : ℕ) (ws : List ℕ) (h : struct.Held) (m : List ℕ) : Type 0 where
  pub count : h.count ≡ (full_scan n ws h.node).count
  pub marks : take n m ≡ (full_scan n ws h.node).marks

-- It does where h names a node; any other number says nothing of the marks.
abbrev pub Known : ℕ → List ℕ → struct.Held → List ℕ → Type 0
Known n ws h m = h.node < n → Stands n ws h m
