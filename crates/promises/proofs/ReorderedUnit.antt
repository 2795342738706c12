-- Over two nets of which the same words are chosen the marker unit does the same, in whatever order they stand.
use Prim.Native.Nat.{ℕ, ◌+◌}
use mathlib.Core.Path.{◌≡◌, refl, sym, ap, ◌∙◌}
use mathlib.Core.Bool.{cond, not}
use mathlib.Core.List.{List, ◌++◌}
use native.Mathlib.Omega.{arith}
use lib.Dec.{ltb}
use lib.ListN.{length, take, drop}
use lib.Seq.{length-take-le}
use borrow.Author.Tests.{ltb-false}
use Rattle.std.specs.Prelude.{Err, Ok}
use Rattle.theory.specs.Nets.{AllIn}
use Rattle.theory.specs.Origins.{chosen}
use Rattle.theory.specs.Scans.{Scan}
use Rattle.theory.proofs.Inside.{legal_inside}
use Rattle.net.specs.declared.Refusal.{Refusal}
use Rattle.net.proofs.NetCheck.{net_is_checked}
use Rattle.net.proofs.OnNet.{gone_on}
use Rattle.unit.specs.Table.{UnitOutcome, unit_outcome, bad_program, unit_clauses, unit_done, simulated}
use Rattle.unit.specs.declared.UnitError.TheVariants as simulatedAs
use Rattle.promises.specs.Engines.{Read}
use Rattle.promises.proofs.Tests.{chosen_of}
use Rattle.promises.proofs.Orders.{after_tests}
use Rattle.promises.proofs.UnitOrder.{run_same}

-- Two nets, each read with its set.
module _ (o k : ℕ) (ws : List ℕ) (set : ℕ) (vs : List ℕ) (set' : ℕ) (n : Read o k ws set) (p : Read o k vs set') (to : AllIn (chosen set ws) (chosen set' vs)) (from : AllIn (chosen set' vs) (chosen set ws)) where
  pub unit_order : (program : List ℕ) (budget : ℕ) (m : List ℕ) → simulated o k ws set program budget m ≡ simulated o k vs set' program budget m
  unit_order program budget m =
      let refused : Refusal → UnitOutcome = λ r. unit_outcome (Err (simulatedAs.Refused r)) m in
      let past : List ℕ = drop (o + k) m in
      let ended : Scan → UnitOutcome = λ s. cond (not s.done) (unit_outcome (Err (simulatedAs.Spent budget)) (s.marks ++ past)) (unit_outcome (Ok s.count) (s.marks ++ past)) in
      let ln = chosen_of o k ws set n in
      let rn = chosen_of o k vs set' p in
      sym (gone_on refused o k ws set (unit_clauses (chosen set ws) program budget m) (unit_done (chosen set ws) program budget m) (net_is_checked o k ws set n.allowed n.net) refl)
      ∙ after_tests (ltb (length m) (o + k)) (bad_program (o + k) program) _ _
      (λ e. let long = length-take-le (o + k) m (ltb-false (length m) (o + k) e) in
      ap ended (run_same (o + k) (chosen set ws) (chosen set' vs) (legal_inside o k (chosen set ws) ln.legal) (legal_inside o k (chosen set' vs) rn.legal) to from program budget (take (o + k) m)
      (omega (arith, long))))
      ∙ gone_on refused o k vs set' (unit_clauses (chosen set' vs) program budget m) (unit_done (chosen set' vs) program budget m) (net_is_checked o k vs set' p.allowed p.net) refl
