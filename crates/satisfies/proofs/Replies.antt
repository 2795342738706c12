-- The reply tells what a test answered.
use Rattle.satisfies.specs.declared.TestError.TheVariants.{BadTable, Refused}
use Rattle.std.specs.Prelude.{Err, Ok, false, true}
use Prim.Native.Nat.{ℕ, zero, suc}
use mathlib.Core.Path.{◌≡◌, refl, sym, ap, ◌∙◌}
use mathlib.Core.Bool.{cond}
use lib.Dec.{eqb}
use Rattle.net.specs.Table.{Reply}
use Rattle.net.proofs.Replies.{refusal_at, refusal_at_reply, refusal_not}
use Rattle.satisfies.specs.Table.{tested_reply}
use Rattle.satisfies.specs.Table.{Tested}

-- The yes or no of a value.
abbrev tested_of : ℕ → Tested
tested_of zero = Ok false
tested_of (suc v) = Ok true

-- The answer of a reply.
abbrev tested_at : Reply → Tested
tested_at r = cond (eqb r.number 0) (tested_of r.first) (cond (eqb r.number 13) (Err BadTable) (Err (Refused (refusal_at r))))

tested_at_reply : (r : Tested) → tested_at (tested_reply r) ≡ r
tested_at_reply (Ok true) = refl
tested_at_reply (Ok false) = refl
tested_at_reply (Err BadTable) = refl
tested_at_reply (Err (Refused r)) = rw (refusal_not r 0 refl, refusal_not r 13 refl, refusal_at_reply r)

-- No two answers have one reply.
pub tested_reply_one_to_one : (r q : Tested) → tested_reply r ≡ tested_reply q → r ≡ q
tested_reply_one_to_one r q e = sym (tested_at_reply r) ∙ ap tested_at e ∙ tested_at_reply q
