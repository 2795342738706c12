-- The bytes before the index are folded, those from it on are as they were, and `new` speaks for what the first have gained.
use Rattle.std.proofs.Common.{◌≡◌, ℕ, ◌<◌, ◌≤◌, get_or}
use Rattle.scan_fold.specs.Gained.{NoneGained}
use Rattle.scan_fold.proofs.fold_each.Given as goal

abbrev pub invariant-loop-byte : goal.invariant-loop-byte
invariant-loop-byte g l = record {
  done : (v : ℕ) → v < l.byte-index → goal.F-post g l.fold (get_or l.initial.byte-items v 0) (get_or l.byte-items v 0);
  rest : (v : ℕ) → l.byte-index ≤ v → get_or l.byte-items v 0 ≡ get_or l.initial.byte-items v 0;
  gained : (i : ℕ) → i < 8 → NoneGained i l.byte-index l.initial.byte-items l.byte-items l.new;
}
