-- The reply tells what a question of rows answered.
use Rattle.std.specs.Prelude.{Err, Ok}
use mathlib.Core.Path.{◌≡◌, refl, sym, ap, ◌∙◌}
use Rattle.question.specs.Table.{asked_reply}
use Rattle.question.specs.Table.{Asked}
use Rattle.question.proofs.Replies.{asked_reply_one_to_one}
use Rattle.rows_answer.specs.Table.{answered_reply}
use Rattle.rows_answer.specs.Table.{Answered}
use Rattle.rows_answer.proofs.Alike.{without_count}

-- The question's answer that has the same reply: its count is 0.
abbrev counted : Answered → Asked
counted (Ok a) = Ok (a, 0)
counted (Err r) = Err r

same_reply : (r : Answered) → answered_reply r ≡ asked_reply (counted r)
same_reply (Ok a) = refl
same_reply (Err r) = refl

counted_back : (r : Answered) → without_count (counted r) ≡ r
counted_back (Ok a) = refl
counted_back (Err r) = refl

-- No two answers have one reply.
pub answered_reply_one_to_one : (r q : Answered) → answered_reply r ≡ answered_reply q → r ≡ q
answered_reply_one_to_one r q e =
    sym (counted_back r) ∙ ap without_count (asked_reply_one_to_one (counted r) (counted q) (sym (same_reply r) ∙ e ∙ same_reply q)) ∙ counted_back q
