-- The bytes before the index are changed, and those from it on are as they were.
use Rattle.std.proofs.Common.{◌≡◌, ℕ, ◌<◌, ◌≤◌, get_or}
use Rattle.scan_fold.proofs.change_each.Given as goal

abbrev pub invariant-loop-byte : goal.invariant-loop-byte
invariant-loop-byte g l = record {
  done : (v : ℕ) → v < l.byte-index → goal.F-post g l.change (get_or l.initial.byte-items v 0) (get_or l.byte-items v 0);
  rest : (v : ℕ) → l.byte-index ≤ v → get_or l.byte-items v 0 ≡ get_or l.initial.byte-items v 0;
}
