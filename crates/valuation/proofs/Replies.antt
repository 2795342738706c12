-- The reply tells what a valuation answered.
use Rattle.valuation.specs.declared.ValuationError.TheVariants.{Refused, ShortTable}
use Rattle.std.specs.Prelude.{Err, Ok}
use mathlib.Core.Path.{◌≡◌, refl, sym, ap, ◌∙◌}
use mathlib.Core.Bool.{cond}
use lib.Dec.{eqb}
use Rattle.net.specs.Table.{Reply}
use Rattle.net.proofs.Replies.{refusal_at, refusal_at_reply, refusal_not}
use Rattle.valuation.specs.Table.{filled_reply}
use Rattle.valuation.specs.Table.{Filled}

-- The answer of a reply.
abbrev filled_at : Reply → Filled
filled_at r = cond (eqb r.number 0) (Ok tt) (cond (eqb r.number 13) (Err ShortTable) (Err (Refused (refusal_at r))))

filled_at_reply : (r : Filled) → filled_at (filled_reply r) ≡ r
filled_at_reply (Ok tt) = refl
filled_at_reply (Err ShortTable) = refl
filled_at_reply (Err (Refused r)) = rw (refusal_not r 0 refl, refusal_not r 13 refl, refusal_at_reply r)

-- No two answers have one reply.
pub filled_reply_one_to_one : (r q : Filled) → filled_reply r ≡ filled_reply q → r ≡ q
filled_reply_one_to_one r q e = sym (filled_at_reply r) ∙ ap filled_at e ∙ filled_at_reply q
