use Prim.Native.Nat.{◌^◌, ◌<◌}
use mathlib.Core.Path.{◌≡◌}
use mathlib.Core.List.{◌++◌}
use lib.ListN.{length, drop}
use Rattle.text_field.specs.Decimal.{digits, decimal}
use Rattle.text_field.proofs.spell.Given as goal

abbrev pub invariant-loop-at : goal.invariant-loop-at
invariant-loop-at l = (length l.digits ≡ 10) × (l.rest < 10 ^ l.at) × (l.at < 10 → 0 < l.rest) × (decimal l.n ≡ digits l.at l.rest ++ drop l.at l.digits)
