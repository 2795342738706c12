-- The reply tells what a question answered.
use Rattle.std.specs.Prelude.{Err, Ok}
use Prim.Native.Nat.{ℕ, zero, suc}
use mathlib.Core.Path.{◌≡◌, refl, sym, ap, ◌∙◌}
use mathlib.Core.Bool.{cond}
use lib.Dec.{eqb}
use Rattle.net.specs.Table.{Reply}
use Rattle.net.proofs.Replies.{refusal_at, refusal_at_reply, refusal_not}
use Rattle.question.specs.Table.{asked_reply}
use Rattle.question.specs.declared.Answer.{Answer}
use Rattle.question.specs.declared.Answer.TheVariants.{None, Yes, No, Both}
use Rattle.question.specs.Table.{Asked}

-- The answer of a number.
abbrev answer_of : ℕ → Answer
answer_of zero = None
answer_of (suc zero) = Yes
answer_of (suc (suc zero)) = No
answer_of (suc (suc (suc n))) = Both

-- The answer of a reply.
abbrev asked_at : Reply → Asked
asked_at r = cond (eqb r.number 0) (Ok ((answer_of r.first), r.second)) (Err (refusal_at r))

asked_at_reply : (r : Asked) → asked_at (asked_reply r) ≡ r
asked_at_reply (Ok (None, count)) = refl
asked_at_reply (Ok (Yes, count)) = refl
asked_at_reply (Ok (No, count)) = refl
asked_at_reply (Ok (Both, count)) = refl
asked_at_reply (Err r) = rw (refusal_not r 0 refl, refusal_at_reply r)

-- No two answers to a question have one reply.
pub asked_reply_one_to_one : (r q : Asked) → asked_reply r ≡ asked_reply q → r ≡ q
asked_reply_one_to_one r q e = sym (asked_at_reply r) ∙ ap asked_at e ∙ asked_at_reply q
