-- The outcome by what the reason answered, as the code comes to it.
use Rattle.explain.specs.declared.ExplainError.TheVariants.{Refused, ShortLines, ShortReason, Unsupported}
use Rattle.reason.specs.declared.ReasonError.{ReasonError}
use Rattle.reason.specs.declared.ReasonError.TheVariants as found
use Rattle.std.specs.Prelude.{ℕ, ◌*◌, cond, List, ltb, length, take, Err, Ok}
use Rattle.theory_laws.specs.Over.{over}
use Rattle.reason.specs.Table.{Reasoned}
use Rattle.derivation_lines.specs.Lines.{Line}
use Rattle.derivation_lines.specs.Flat.{flat, derive_list}
use Rattle.explain.specs.declared.ExplainError.{ExplainError}
use Rattle.explain.specs.Table.{ExplainOutcome, explain_outcome}

-- Numbers 8 and 0 for lines, where the reason has `size` places: the lines in front of the list, which is unchanged where it is too short.
abbrev pub write_lines : List Line → ℕ → List ℕ → List ℕ → List ℕ → ExplainOutcome
write_lines ls size d m l =
    cond (ltb (length l) (4 * length ls)) (explain_outcome (Err (ShortLines (4 * length ls))) d m l)
    (explain_outcome (Ok (4 * length ls, size)) d m (over (flat ls) l))

-- Without a reason there is no explanation, for the same cause; the list that is too short is then that of the reason.
abbrev pub without_reason : ReasonError → ExplainError
without_reason found.Unsupported = Unsupported
without_reason (found.Short needed) = ShortReason needed
without_reason (found.Refused r) = Refused r

-- By what the reason answered.
unfoldable pub explained_by : ℕ → ℕ → List ℕ → Reasoned → List ℕ → List ℕ → List ℕ → ExplainOutcome
explained_by o set ws (Ok size) d m l = write_lines (derive_list o set ws (take size m)) size d m l
explained_by o set ws (Err e) d m l = explain_outcome (Err (without_reason e)) d m l
