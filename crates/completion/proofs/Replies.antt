-- The reply tells what a completion answered.
use Rattle.completion.specs.declared.CompletionError.TheVariants.{Refused, Short}
use Rattle.std.specs.Prelude.{Err, Ok}
use mathlib.Core.Path.{◌≡◌, refl, sym, ap, ◌∙◌}
use mathlib.Core.Bool.{cond}
use lib.Dec.{eqb}
use Rattle.net.specs.Table.{Reply}
use Rattle.net.proofs.Replies.{refusal_at, refusal_at_reply, refusal_not}
use Rattle.completion.specs.Table.{completed_reply}
use Rattle.completion.specs.Table.{Completed}

-- The answer of a reply.
abbrev completed_at : Reply → Completed
completed_at r = cond (eqb r.number 0) (Ok r.first) (cond (eqb r.number 8) (Err (Short r.first)) (Err (Refused (refusal_at r))))

completed_at_reply : (r : Completed) → completed_at (completed_reply r) ≡ r
completed_at_reply (Ok size) = refl
completed_at_reply (Err (Short needed)) = refl
completed_at_reply (Err (Refused r)) = rw (refusal_not r 0 refl, refusal_not r 8 refl, refusal_at_reply r)

-- No two answers have one reply.
pub completed_reply_one_to_one : (r q : Completed) → completed_reply r ≡ completed_reply q → r ≡ q
completed_reply_one_to_one r q e = sym (completed_at_reply r) ∙ ap completed_at e ∙ completed_at_reply q
