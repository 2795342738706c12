use Prim.Native.Nat.{ℕ}
use mathlib.Core.Path.{◌≡◌, ap, ◌∙◌}
use mathlib.Core.List.{List, [], ◌∷◌, ◌++◌}
use native.Mathlib.Omega.{arith}
use lib.ListN.{length, take}
use Rattle.text_field.proofs.Writing.{wrote_as}
use Rattle.fleet_line.specs.Line.{wide}
use Rattle.fleet_line.proofs.Wides.{wide_spelled, wide_short}
use borrow.Author.Rules.{rules}
use Rattle.fleet_line.proofs.put_wide.Goals as goal

pub decimal-size-requires : goal.decimal-size-requires
decimal-size-requires c = search rules

pub slice_bounds-digits-end : goal.slice_bounds-digits-end
slice_bounds-digits-end c = search rules

pub slice_bounds-put_bytes-end : goal.slice_bounds-put_bytes-end
slice_bounds-put_bytes-end c = search rules

pub put_bytes-requires : goal.put_bytes-requires
put_bytes-requires c =
    let lent-c : take c.decimal-size.result c.decimal-size.new.out ≡ wide c.args.n = c.decimal-size.ensures.digits ∙ wide_spelled c.args.n c.decimal-size.result (omega arith) c.decimal-size.ensures.len in
    let e = ap length (lent-c) in
    let short = wide_short c.args.n in
    omega (arith, e, short)

pub returns : goal.returns
returns c =
    let lent-c : take c.decimal-size.result c.decimal-size.new.out ≡ wide c.args.n = c.decimal-size.ensures.digits ∙ wide_spelled c.args.n c.decimal-size.result (omega arith) c.decimal-size.ensures.len in
    wrote_as (ap (λ (f : List ℕ). f ++ c.args.after ∷ []) (lent-c)) c.put_bytes.ensures
