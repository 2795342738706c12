use Prim.Native.Nat.{◌-◌}
use mathlib.Core.Path.{◌≡◌}
use lib.ListN.{length}
use Rattle.theory.specs.Growth.{Set}
use Rattle.unit_gather.specs.Aside.{spread}
use Rattle.unit_link.proofs.spread_marks.Given as goal

abbrev pub invariant-loop-v : goal.invariant-loop-v
invariant-loop-v l =
    record {
      long : length l.marks ≡ length l.initial.marks;
      left : spread l.put l.aside 0 l.n l.initial.marks ≡ spread l.put l.aside l.v (l.n - l.v) l.marks;
      new : Set l.changed l.initial.marks l.marks;
    }
