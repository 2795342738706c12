-- The reply tells which answer it is.
use Rattle.proof_check.specs.declared.JudgeError.TheVariants.{Faulty, Refused}
use Rattle.std.specs.Prelude.{Err, Ok}
use mathlib.Core.Path.{◌≡◌, refl, sym, ap, ◌∙◌}
use mathlib.Core.Bool.{cond}
use lib.Dec.{eqb}
use Rattle.net.specs.Table.{Reply}
use Rattle.net.proofs.Replies.{refusal_at, refusal_at_reply, refusal_not}
use Rattle.proof_check.specs.Table.{judged_reply}
use Rattle.proof_check.specs.Table.{Judged}

-- The answer of a reply.
abbrev pub judged_at : Reply → Judged
judged_at r = cond (eqb r.number 0) (Ok tt) (cond (eqb r.number 12) (Err (Faulty r.first)) (Err (Refused (refusal_at r))))

pub judged_at_reply : (j : Judged) → judged_at (judged_reply j) ≡ j
judged_at_reply (Ok tt) = refl
judged_at_reply (Err (Faulty i)) = refl
judged_at_reply (Err (Refused r)) = rw (refusal_not r 0 refl, refusal_not r 12 refl, refusal_at_reply r)

-- No two answers have one reply.
pub judged_reply_one_to_one : (j q : Judged) → judged_reply j ≡ judged_reply q → j ≡ q
judged_reply_one_to_one j q e = sym (judged_at_reply j) ∙ ap judged_at e ∙ judged_at_reply q
