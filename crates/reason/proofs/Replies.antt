-- The reply tells which answer it is.
use Rattle.reason.specs.declared.ReasonError.TheVariants.{Refused, Short, Unsupported}
use Rattle.std.specs.Prelude.{Err, Ok}
use mathlib.Core.Path.{◌≡◌, refl, sym, ap, ◌∙◌}
use mathlib.Core.Bool.{cond}
use lib.Dec.{eqb}
use Rattle.net.specs.Table.{Reply}
use Rattle.net.proofs.Replies.{refusal_at, refusal_at_reply, refusal_not}
use Rattle.reason.specs.Table.{reasoned_reply}
use Rattle.reason.specs.Table.{Reasoned}

-- The answer of a reply.
abbrev pub reasoned_at : Reply → Reasoned
reasoned_at r =
    cond (eqb r.number 0) (Ok r.first)
    (cond (eqb r.number 7) (Err Unsupported)
    (cond (eqb r.number 8) (Err (Short r.first))
    (Err (Refused (refusal_at r)))))

pub reasoned_at_reply : (r : Reasoned) → reasoned_at (reasoned_reply r) ≡ r
reasoned_at_reply (Ok places) = refl
reasoned_at_reply (Err Unsupported) = refl
reasoned_at_reply (Err (Short needed)) = refl
reasoned_at_reply (Err (Refused r)) =
    rw (refusal_not r 0 refl, refusal_not r 7 refl, refusal_not r 8 refl, refusal_at_reply r)

-- No two answers have one reply.
pub reasoned_reply_one_to_one : (r q : Reasoned) → reasoned_reply r ≡ reasoned_reply q → r ≡ q
reasoned_reply_one_to_one r q e = sym (reasoned_at_reply r) ∙ ap reasoned_at e ∙ reasoned_at_reply q
