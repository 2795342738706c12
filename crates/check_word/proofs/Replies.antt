-- The paper's reply tells which answer of the test it is.
use Rattle.std.specs.Prelude.{Err, Ok}
use mathlib.Core.Path.{◌≡◌, refl, sym, ap, ◌∙◌}
use mathlib.Core.Bool.{cond}
use lib.Dec.{eqb}
use Rattle.net.specs.Table.{Reply}
use Rattle.net.proofs.Replies.{refusal_at, refusal_not, refusal_at_reply}
use Rattle.check_word.specs.Table.{word_reply}
use Rattle.check_word.specs.Table.{WordChecked}

abbrev word_at : Reply → WordChecked
word_at r = cond (eqb r.number 0) (Ok tt) (Err (refusal_at r))

word_at_reply : (a : WordChecked) → word_at (word_reply a) ≡ a
word_at_reply (Ok tt) = refl
word_at_reply (Err r) = rw (refusal_not r 0 refl, refusal_at_reply r)

-- No two answers of the test have one reply.
pub word_reply_one_to_one : (a b : WordChecked) → word_reply a ≡ word_reply b → a ≡ b
word_reply_one_to_one a b e = sym (word_at_reply a) ∙ ap word_at e ∙ word_at_reply b
