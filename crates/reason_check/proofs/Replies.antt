-- The reply tells which verdict it is.
use Rattle.std.specs.Prelude.{Err, Ok, false, true}
use Prim.Native.Nat.{ℕ, zero, suc}
use mathlib.Core.Path.{◌≡◌, refl, sym, ap, ◌∙◌}
use mathlib.Core.Bool.{cond}
use lib.Dec.{eqb}
use Rattle.net.specs.Table.{Reply}
use Rattle.net.proofs.Replies.{refusal_at, refusal_at_reply, refusal_not}
use Rattle.reason_check.specs.Table.{verdict_reply, Verdict}

-- The yes or no of a value.
abbrev verdict_of : ℕ → Verdict
verdict_of zero = Ok false
verdict_of (suc v) = Ok true

-- The verdict of a reply.
abbrev pub verdict_at : Reply → Verdict
verdict_at r = cond (eqb r.number 0) (verdict_of r.first) (Err (refusal_at r))

pub verdict_at_reply : (v : Verdict) → verdict_at (verdict_reply v) ≡ v
verdict_at_reply (Ok true) = refl
verdict_at_reply (Ok false) = refl
verdict_at_reply (Err r) = rw (refusal_not r 0 refl, refusal_at_reply r)

-- No two verdicts have one reply.
pub verdict_reply_one_to_one : (v u : Verdict) → verdict_reply v ≡ verdict_reply u → v ≡ u
verdict_reply_one_to_one v u e = sym (verdict_at_reply v) ∙ ap verdict_at e ∙ verdict_at_reply u
