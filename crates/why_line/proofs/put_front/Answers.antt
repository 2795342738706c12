use Prim.Native.Nat.{◌+◌}
use mathlib.Core.List.{[], ◌∷◌}
use native.Mathlib.Omega.{arith}
use Rattle.text_field.proofs.Writing.{wrote_more, wrote_as}
use Rattle.why_line.proofs.Fields.{named_room, named_fits, named_left, front_joins}
use Rattle.why_line.proofs.put_front.Goals as goal

pub slice_bounds-put_named-count : goal.slice_bounds-put_named-count
slice_bounds-put_named-count c =
    omega (arith, named_left (32 ∷ []) (c.args.n + 1) 32 c.put_named-at.ensures (omega arith))

pub put_named-requires : goal.put_named-requires
put_named-requires c =
    omega (arith, named_left (32 ∷ []) (c.args.n + 1) 32 c.put_named-at.ensures (omega arith))

pub overflow_add-result : goal.overflow_add-result
overflow_add-result c =
    omega (arith, named_left (32 ∷ []) (c.args.n + 1) 32 c.put_named-at.ensures (omega arith), c.put_named.ensures.size, named_room [] c.args.x 32)

pub returns : goal.returns
returns c =
    wrote_as (front_joins c.args.n c.args.x) (wrote_more c.put_named-at.ensures (named_fits (32 ∷ []) (c.args.n + 1) 32 _ (omega arith)) c.put_named.ensures)
