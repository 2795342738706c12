use Prim.Native.Nat.{◌-◌}
use mathlib.Core.Path.{◌≡◌}
use Rattle.rows_steps.specs.Steps.{through}
use Rattle.rows_links.proofs.pass_through.Given as goal

abbrev pub invariant-loop-x : goal.invariant-loop-x
invariant-loop-x l = through l.w l.m l.row 0 l.n l.initial.rows ≡ through l.w l.m l.row l.x (l.n - l.x) l.rows
