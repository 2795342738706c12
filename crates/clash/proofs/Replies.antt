-- The reply tells what a clash test answered.
use Rattle.std.specs.Prelude.{Ok, Err, Some, None}
use mathlib.Core.Path.{◌≡◌, refl, sym, ap, ◌∙◌}
use mathlib.Core.Bool.{cond}
use lib.Dec.{eqb}
use Rattle.net.specs.Table.{Reply}
use Rattle.net.proofs.Replies.{refusal_at, refusal_at_reply, refusal_not}
use Rattle.clash.specs.Table.{Clashed, clashed_reply}

-- The answer of a reply.
abbrev clashed_at : Reply → Clashed
clashed_at r = cond (eqb r.number 0) (Ok (Some (r.first, r.second))) (cond (eqb r.number 7) (Ok None) (Err (refusal_at r)))

clashed_at_reply : (r : Clashed) → clashed_at (clashed_reply r) ≡ r
clashed_at_reply (Ok (Some (x, y))) = refl
clashed_at_reply (Ok None) = refl
clashed_at_reply (Err r) = rw (refusal_not r 0 refl, refusal_not r 7 refl, refusal_at_reply r)

-- No two answers of a clash test have one reply.
pub clashed_reply_one_to_one : (r q : Clashed) → clashed_reply r ≡ clashed_reply q → r ≡ q
clashed_reply_one_to_one r q e = sym (clashed_at_reply r) ∙ ap clashed_at e ∙ clashed_at_reply q
