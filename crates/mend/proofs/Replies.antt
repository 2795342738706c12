-- The reply tells what mending answered.
use Rattle.mend.specs.declared.MendError.TheVariants.{Refused, Short}
use Rattle.std.specs.Prelude.{Err, Ok}
use mathlib.Core.Path.{◌≡◌, refl, sym, ap, ◌∙◌}
use mathlib.Core.Bool.{cond}
use lib.Dec.{eqb}
use Rattle.net.specs.Table.{Reply}
use Rattle.net.proofs.Replies.{refusal_at, refusal_at_reply, refusal_not}
use Rattle.mend.specs.Table.{mended_reply}
use Rattle.mend.specs.Table.{MendedNet}

-- The answer of a reply.
abbrev mended_at : Reply → MendedNet
mended_at r = cond (eqb r.number 0) (Ok (r.first, r.second)) (cond (eqb r.number 8) (Err (Short r.first)) (Err (Refused (refusal_at r))))

mended_at_reply : (r : MendedNet) → mended_at (mended_reply r) ≡ r
mended_at_reply (Ok (kept, dropped)) = refl
mended_at_reply (Err (Short needed)) = refl
mended_at_reply (Err (Refused r)) = rw (refusal_not r 0 refl, refusal_not r 8 refl, refusal_at_reply r)

-- No two answers have one reply.
pub mended_reply_one_to_one : (r q : MendedNet) → mended_reply r ≡ mended_reply q → r ≡ q
mended_reply_one_to_one r q e = sym (mended_at_reply r) ∙ ap mended_at e ∙ mended_at_reply q
