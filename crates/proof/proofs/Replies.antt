-- The reply tells which answer it is.
use Rattle.proof.specs.declared.ProofError.TheVariants.{Refused, Short, TooDeep, Unsupported}
use Rattle.std.specs.Prelude.{Err, Ok}
use mathlib.Core.Path.{◌≡◌, refl, sym, ap, ◌∙◌}
use mathlib.Core.Bool.{cond}
use lib.Dec.{eqb}
use Rattle.net.specs.Table.{Reply}
use Rattle.net.proofs.Replies.{refusal_at, refusal_at_reply, refusal_not}
use Rattle.proof.specs.Table.{proved_reply}
use Rattle.proof.specs.Table.{Proved}

-- The answer of a reply.
abbrev pub proved_at : Reply → Proved
proved_at r =
    cond (eqb r.number 0) (Ok r.first)
    (cond (eqb r.number 7) (Err Unsupported)
    (cond (eqb r.number 11) (Err TooDeep)
    (cond (eqb r.number 8) (Err (Short r.first))
    (Err (Refused (refusal_at r))))))

pub proved_at_reply : (r : Proved) → proved_at (proved_reply r) ≡ r
proved_at_reply (Ok numbers) = refl
proved_at_reply (Err Unsupported) = refl
proved_at_reply (Err TooDeep) = refl
proved_at_reply (Err (Short needed)) = refl
proved_at_reply (Err (Refused r)) =
    rw (refusal_not r 0 refl, refusal_not r 7 refl, refusal_not r 11 refl, refusal_not r 8 refl, refusal_at_reply r)

-- No two answers have one reply.
pub proved_reply_one_to_one : (r q : Proved) → proved_reply r ≡ proved_reply q → r ≡ q
proved_reply_one_to_one r q e = sym (proved_at_reply r) ∙ ap proved_at e ∙ proved_at_reply q
