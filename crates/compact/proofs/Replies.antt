-- The reply tells what a compaction answered.
use Rattle.std.specs.Prelude.{Err, Ok}
use mathlib.Core.Path.{◌≡◌, refl, sym, ap, ◌∙◌}
use mathlib.Core.Bool.{cond}
use lib.Dec.{eqb}
use Rattle.net.specs.Table.{Reply}
use Rattle.net.proofs.Replies.{refusal_at, refusal_at_reply, refusal_not}
use Rattle.compact.specs.Table.{compacted_reply}
use Rattle.compact.specs.Table.{CompactedList}

-- The answer of a reply.
abbrev compacted_at : Reply → CompactedList
compacted_at r = cond (eqb r.number 0) (Ok r.first) (Err (refusal_at r))

compacted_at_reply : (r : CompactedList) → compacted_at (compacted_reply r) ≡ r
compacted_at_reply (Ok size) = refl
compacted_at_reply (Err r) = rw (refusal_not r 0 refl, refusal_at_reply r)

-- No two answers have one reply.
pub compacted_reply_one_to_one : (r q : CompactedList) → compacted_reply r ≡ compacted_reply q → r ≡ q
compacted_reply_one_to_one r q e = sym (compacted_at_reply r) ∙ ap compacted_at e ∙ compacted_at_reply q
