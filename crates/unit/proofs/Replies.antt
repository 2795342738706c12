-- The reply tells what a run of the unit answered.
use Rattle.unit.specs.declared.UnitError.TheVariants.{Faulty, Refused, Spent}
use Rattle.std.specs.Prelude.{Err, Ok}
use mathlib.Core.Path.{◌≡◌, refl, sym, ap, ◌∙◌}
use mathlib.Core.Bool.{cond}
use lib.Dec.{eqb}
use Rattle.net.specs.Table.{Reply}
use Rattle.net.proofs.Replies.{refusal_at, refusal_at_reply, refusal_not}
use Rattle.unit.specs.Table.{simulated_reply}
use Rattle.unit.specs.Table.{Simulated}

-- The answer of a reply.
abbrev pub simulated_at : Reply → Simulated
simulated_at r =
    cond (eqb r.number 0) (Ok r.first)
    (cond (eqb r.number 6) (Err (Spent r.first))
    (cond (eqb r.number 16) (Err (Faulty r.first))
    (Err (Refused (refusal_at r)))))

pub simulated_at_reply : (r : Simulated) → simulated_at (simulated_reply r) ≡ r
simulated_at_reply (Ok count) = refl
simulated_at_reply (Err (Spent count)) = refl
simulated_at_reply (Err (Faulty place)) = refl
simulated_at_reply (Err (Refused r)) = rw (refusal_not r 0 refl, refusal_not r 6 refl, refusal_not r 16 refl, refusal_at_reply r)

-- No two answers have one reply.
pub simulated_reply_one_to_one : (r q : Simulated) → simulated_reply r ≡ simulated_reply q → r ≡ q
simulated_reply_one_to_one r q e = sym (simulated_at_reply r) ∙ ap simulated_at e ∙ simulated_at_reply q
