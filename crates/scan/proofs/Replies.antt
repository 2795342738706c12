-- The reply tells what a scan answered.
use Rattle.scan.specs.declared.ScanError.TheVariants.{Refused, Spent}
use Rattle.std.specs.Prelude.{Err, Ok}
use mathlib.Core.Path.{◌≡◌, refl, sym, ap, ◌∙◌}
use mathlib.Core.Bool.{cond}
use lib.Dec.{eqb}
use Rattle.net.specs.Table.{Reply}
use Rattle.net.proofs.Replies.{refusal_at, refusal_at_reply, refusal_not}
use Rattle.scan.specs.Table.{scan_reply}
use Rattle.scan.specs.Table.{Scanned}

-- The answer of a reply.
abbrev pub scanned_at : Reply → Scanned
scanned_at r = cond (eqb r.number 0) (Ok r.first) (cond (eqb r.number 6) (Err (Spent r.first)) (Err (Refused (refusal_at r))))

pub scanned_at_reply : (r : Scanned) → scanned_at (scan_reply r) ≡ r
scanned_at_reply (Ok count) = refl
scanned_at_reply (Err (Spent count)) = refl
scanned_at_reply (Err (Refused r)) = rw (refusal_not r 0 refl, refusal_not r 6 refl, refusal_at_reply r)

-- No two answers have one reply.
pub scan_reply_one_to_one : (r q : Scanned) → scan_reply r ≡ scan_reply q → r ≡ q
scan_reply_one_to_one r q e = sym (scanned_at_reply r) ∙ ap scanned_at e ∙ scanned_at_reply q
