-- The reply tells which answer it is.
use Rattle.explain.specs.declared.ExplainError.TheVariants.{Refused, ShortLines, ShortReason, Unsupported}
use Rattle.std.specs.Prelude.{Err, Ok}
use mathlib.Core.Path.{◌≡◌, refl, sym, ap, ◌∙◌}
use mathlib.Core.Bool.{cond}
use lib.Dec.{eqb}
use Rattle.net.specs.Table.{Reply}
use Rattle.net.proofs.Replies.{refusal_at, refusal_at_reply, refusal_not}
use Rattle.explain.specs.Table.{explained_reply, Explained}

-- The answer of a reply.
abbrev pub explained_at : Reply → Explained
explained_at r =
    cond (eqb r.number 0) (Ok (r.first, r.second))
    (cond (eqb r.number 7) (Err Unsupported)
    (cond (eqb r.number 8) (cond (eqb r.second 0) (Err (ShortReason r.first)) (Err (ShortLines r.first)))
    (Err (Refused (refusal_at r)))))

pub explained_at_reply : (r : Explained) → explained_at (explained_reply r) ≡ r
explained_at_reply (Ok (lines, places)) = refl
explained_at_reply (Err Unsupported) = refl
explained_at_reply (Err (ShortReason needed)) = refl
explained_at_reply (Err (ShortLines needed)) = refl
explained_at_reply (Err (Refused r)) =
    rw (refusal_not r 0 refl, refusal_not r 7 refl, refusal_not r 8 refl, refusal_at_reply r)

-- No two answers have one reply.
pub explained_reply_one_to_one : (r q : Explained) → explained_reply r ≡ explained_reply q → r ≡ q
explained_reply_one_to_one r q e = sym (explained_at_reply r) ∙ ap explained_at e ∙ explained_at_reply q
