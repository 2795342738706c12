-- The written program for the merged scan, run by the operation: the scan's marks, and 3 + 5 × its count commands.
use Rattle.unit.specs.declared.UnitError.TheVariants.{Refused, Spent}
use Rattle.std.specs.Prelude.{Err, Ok}
use Prim.Native.Nat.{ℕ, ◌+◌, ◌-◌, ◌*◌, ◌/◌, ◌≤◌, ◌<◌}
use mathlib.Core.Path.{◌≡◌, sym, ap, ◌∙◌}
use mathlib.Core.Bool.{Bool, false, cond, not}
use mathlib.Core.List.{List, ◌++◌}
use borrow.Author.Tests.{le-ltb}
use lib.Dec.{ltb}
use lib.ListN.{length, take, drop}
use lib.Seq.{length-take-le}
use Rattle.theory.specs.Nets.{Net}
use Rattle.theory.specs.Scans.{Scan, scan, full_scan}
use Rattle.theory.specs.Origins.{set_limit, chosen, NetFrom}
use Rattle.theory.proofs.origins.Statements.{chosen_net}
use Rattle.net.proofs.NetCheck.{net_is_checked}
use Rattle.net.proofs.OnNet.{gone_on}
use Rattle.unit_program.specs.Faults.{first_fault}
use Rattle.unit_program.specs.Runs.{run}
use Rattle.unit_program.specs.Merged.{merged}
use Rattle.unit_program.proofs.MergedScan.{merged_sound, merged_done, merged_spent, merged_matches, merged_rounds}
use Rattle.unit.specs.Table.{UnitOutcome, unit_outcome, unit_clauses, unit_done, simulated}

module _ (o k : ℕ) (ws : List ℕ) (set : ℕ) (small : set ≤ set_limit) (net : NetFrom o k ws) (x : ℕ) (hx : x < o + k) (m : List ℕ) (room : o + k ≤ length m) where
  abbrev links : List ℕ
  links = chosen set ws

  plain : Net o k links
  plain = chosen_net set o k ws net

  -- The scan from x over the chosen links, with a budget that is never spent.
  abbrev whole : Scan
  whole = full_scan (o + k) links x

  abbrev ran : ℕ → Scan
  ran budget = run (o + k) links (merged x) budget (take (o + k) m)

  abbrev given : ℕ → Scan → UnitOutcome
  given budget r = cond (not r.done) (unit_outcome (Err (Spent budget)) (r.marks ++ drop (o + k) m)) (unit_outcome (Ok r.count) (r.marks ++ drop (o + k) m))

  -- No number before 6 is given.
  goes : (budget : ℕ) → given budget (ran budget) ≡ simulated o k ws set (merged x) budget m
  goes budget =
      let sound : ltb (first_fault (o + k) (merged x)) (length (merged x)) ≡ false = ap (λ (i : ℕ). ltb i (length (merged x))) (merged_sound (o + k) x hx net.few) in
      gone_on (λ r. unit_outcome (Err (Refused r)) m) o k ws set (unit_clauses links (merged x) budget m) (unit_done links (merged x) budget m) (net_is_checked o k ws set small net)
      (rw (le-ltb (length m) (o + k) room, sound))

  -- With budget enough it is done: so many commands, the scan's marks, and the bytes past the nodes as they were.
  pub merged_simulated : (budget : ℕ) → 3 + 5 * whole.count ≤ budget
      → simulated o k ws set (merged x) budget m ≡ unit_outcome (Ok (3 + 5 * whole.count)) (whole.marks ++ drop (o + k) m)
  merged_simulated budget h =
      sym (goes budget) ∙ ap (given budget) (merged_done o k links plain.legal net.few x hx (take (o + k) m) (length-take-le (o + k) m room) budget h)

  -- With less it is number 6, and the count is the budget.
  pub merged_short : (budget : ℕ) → budget < 3 + 5 * whole.count → (simulated o k ws set (merged x) budget m).answer ≡ Err (Spent budget)
  merged_short budget h =
      let t = merged_spent o k links plain.legal net.few x hx (take (o + k) m) (length-take-le (o + k) m room) budget h in
      ap (λ (q : UnitOutcome). q.answer) (sym (goes budget)) ∙ ap (λ (d : Bool). (cond (not d) (unit_outcome (Err (Spent budget)) ((ran budget).marks ++ drop (o + k) m)) (unit_outcome (Ok (ran budget).count) ((ran budget).marks ++ drop (o + k) m))).answer) t.0

  -- It is so exactly if the scan is spent whose budget is a round for every five commands after the first three.
  pub merged_as_scan : (budget : ℕ) → (ran budget).done ≡ (scan (o + k) links x ((budget - 3) / 5)).done
  merged_as_scan budget = merged_matches o k links plain.legal net.few x hx (take (o + k) m) (length-take-le (o + k) m room) budget

  -- With 3 commands and 5 for each of b rounds it leaves the marks of the scan with b rounds.
  pub merged_as_rounds : (b : ℕ) → (ran (3 + 5 * b)).marks ≡ (scan (o + k) links x b).marks
  merged_as_rounds b = (merged_rounds o k links plain.legal net.few x hx (take (o + k) m) (length-take-le (o + k) m room) b).1
