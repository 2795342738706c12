-- The reply tells what a screenful answered.
use Rattle.questions.specs.declared.PairsError.TheVariants.{BadPairs, Refused}
use Rattle.std.specs.Prelude.{Err, Ok}
use mathlib.Core.Path.{◌≡◌, refl, sym, ap, ◌∙◌}
use mathlib.Core.Bool.{cond}
use lib.Dec.{eqb}
use Rattle.net.specs.Table.{Reply}
use Rattle.net.proofs.Replies.{refusal_at, refusal_at_reply, refusal_not}
use Rattle.questions.specs.Table.{asked_all_reply}
use Rattle.questions.specs.Table.{AskedAll}

-- The answer of a reply.
abbrev asked_all_at : Reply → AskedAll
asked_all_at r = cond (eqb r.number 0) (Ok tt) (cond (eqb r.number 10) (Err BadPairs) (Err (Refused (refusal_at r))))

asked_all_at_reply : (r : AskedAll) → asked_all_at (asked_all_reply r) ≡ r
asked_all_at_reply (Ok tt) = refl
asked_all_at_reply (Err BadPairs) = refl
asked_all_at_reply (Err (Refused r)) = rw (refusal_not r 0 refl, refusal_not r 10 refl, refusal_at_reply r)

-- No two answers of a screenful have one reply.
pub asked_all_reply_one_to_one : (r q : AskedAll) → asked_all_reply r ≡ asked_all_reply q → r ≡ q
asked_all_reply_one_to_one r q e = sym (asked_all_at_reply r) ∙ ap asked_all_at e ∙ asked_all_at_reply q
