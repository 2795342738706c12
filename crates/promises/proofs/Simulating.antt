-- The marker unit does what is promised of it.
use Prim.Native.Nat.{ℕ, ◌+◌, ◌-◌, ◌*◌, ◌/◌, ◌≤◌, ◌<◌}
use mathlib.Core.Path.{◌≡◌, refl, sym, ap, ◌∙◌}
use mathlib.Core.Bool.{Bool, true, false, cond, not}
use mathlib.Core.List.{List, ◌++◌}
use mathlib.Core.Logic.{◌↔◌}
use native.Mathlib.Omega.{arith}
use lib.Dec.{ltb}
use lib.ListN.{length, take, drop}
use borrow.Author.Tests.{leb-false, ltb-true, ltb-false, le-ltb, lt-leb, not-true}
use Rattle.std.specs.Prelude.{Err, Ok}
use Rattle.theory.specs.Scans.{Scan, scan, full_budget, full_scan}
use Rattle.theory.specs.Origins.{chosen}
use Rattle.net.specs.declared.Refusal.{Refusal}
use Rattle.net.proofs.NetCheck.{net_is_checked}
use Rattle.net.proofs.OnNet.{gone_on}
use Rattle.scan.specs.Table.{ScanOutcome, scanned, scan_reply, Scanned}
use Rattle.scan.specs.declared.ScanError.TheVariants as answer
use Rattle.unit_program.specs.Faults.{first_fault}
use Rattle.unit_program.specs.Wrong.{FirstWrong}
use Rattle.unit_program.specs.Runs.{run}
use Rattle.unit_program.specs.Steps.{Runs}
use Rattle.unit_program.specs.Merged.{merged}
use Rattle.unit_program.proofs.FirstFault.{first_wrong, first_wrong_unique}
use Rattle.unit_program.proofs.Stepping.{run_steps}
use Rattle.unit_program.proofs.Determined.{runs_unique}
use Rattle.unit_program.proofs.MergedScan.{merged_sound}
use Rattle.unit.specs.Table.{UnitOutcome, unit_outcome, told_place, unit_clauses, unit_done, simulated, simulated_reply, Simulated}
use Rattle.unit.proofs.Outcomes.{told_near}
use Rattle.unit.proofs.Merged.{merged_simulated, merged_short, merged_as_scan}
use Rattle.unit.specs.declared.UnitError.TheVariants as simulatedAs
use Rattle.promises.specs.Engines.{Read, ours}
use Rattle.promises.specs.Simulating.{Simulating}
use Rattle.promises.proofs.Demand1.{scan_obeys, unit_obeys}
use Rattle.promises.proofs.Tests.{past_checks}
use Rattle.promises.proofs.PlainUnit.{whole, faulty_exactly, sound_exactly, unit_16}

module _ (o k : ℕ) (ws : List ℕ) (set : ℕ) (program : List ℕ) (budget : ℕ) (m : List ℕ) (read : Read o k ws set) (room : o + k ≤ length m) where
  -- Done or spent, with the marks z: the answer decides.
  told : (d : Bool) (count : ℕ) (z : List ℕ)
      → cond (not d) (unit_outcome (Err (simulatedAs.Spent budget)) z) (unit_outcome (Ok count) z) ≡ unit_outcome (cond d (Ok count) (Err (simulatedAs.Spent budget))) z
  told true count z = refl
  told false count z = refl

  -- What the steps come to.
  steps_given : ((p : ℕ) → FirstWrong (o + k) program p → ⊥) → (r : Scan) → Runs (o + k) (chosen set ws) program budget (take (o + k) m) r
      → simulated o k ws set program budget m ≡ unit_outcome (cond r.done (Ok r.count) (Err (simulatedAs.Spent budget))) (r.marks ++ drop (o + k) m)
  steps_given h r s =
      let refused : Refusal → UnitOutcome = λ q. unit_outcome (Err (simulatedAs.Refused q)) m in
      let sound : ltb (first_fault (o + k) program) (length program) ≡ false = (sound_exactly (o + k) program).1 h in
      let given : Scan → UnitOutcome = λ q. cond (not q.done) (unit_outcome (Err (simulatedAs.Spent budget)) (q.marks ++ drop (o + k) m)) (unit_outcome (Ok q.count) (q.marks ++ drop (o + k) m)) in
      let goes : given (run (o + k) (chosen set ws) program budget (take (o + k) m)) ≡ simulated o k ws set program budget m =
      gone_on refused o k ws set (unit_clauses (chosen set ws) program budget m) (unit_done (chosen set ws) program budget m) (net_is_checked o k ws set read.allowed read.net)
      (rw (le-ltb (length m) (o + k) room, sound)) in
      sym goes
      ∙ ap given (runs_unique (o + k) (chosen set ws) program (run_steps (o + k) (chosen set ws) program (whole (o + k) program sound) budget (take (o + k) m)) s)
      ∙ told r.done r.count (r.marks ++ drop (o + k) m)

  -- The first place at fault.
  fault_given : (p : ℕ) → FirstWrong (o + k) program p → p ≤ 4294967295 → simulated o k ws set program budget m ≡ unit_outcome (Err (simulatedAs.Faulty p)) m
  fault_given p w h =
      let due = ((unit_obeys o k ws set program budget m).exactly 16).0 ((unit_16 o k ws set program budget m).1 (read, (room, (p, w)))) in
      let below = ltb-true (first_fault (o + k) program) (length program) ((faulty_exactly (o + k) program).1 (p, w)) in
      (unit_obeys o k ws set program budget m).leaves 16 due
      ∙ ap (λ (q : ℕ). unit_outcome (Err (simulatedAs.Faulty (told_place q))) m) (first_wrong_unique (o + k) program (first_fault (o + k) program) p (first_wrong (o + k) program below) w)
      ∙ ap (λ (q : ℕ). unit_outcome (Err (simulatedAs.Faulty q)) m) (sym (told_near p h))

-- The written program, where the scan is done.
module _ (o k : ℕ) (ws : List ℕ) (set x budget : ℕ) (m : List ℕ) (count : ℕ) (e : (scanned o k ws set x (full_budget (o + k)) m).answer ≡ Ok count) where
  -- What that scan was.
  record ScanWas : Type 0 where
    read : Read o k ws set
    node : x < o + k
    room : o + k ≤ length m
    counted : (full_scan (o + k) (chosen set ws) x).count ≡ count
    left : (scanned o k ws set x (full_budget (o + k)) m).marks ≡ (full_scan (o + k) (chosen set ws) x).marks ++ drop (o + k) m

  was : ScanWas
  was =
      let d = ((scan_obeys o k ws set x (full_budget (o + k)) m).exactly 0).0 (ap (λ (r : Scanned). (scan_reply r).number) e) in
      let l = (scan_obeys o k ws set x (full_budget (o + k)) m).leaves 0 d in
      record {
        read = (past_checks o k ws set).0 (d.0, d.1.0, d.1.1.0, d.1.1.1.0);
        node = leb-false (o + k) x d.1.1.1.1.0;
        room = ltb-false (length m) (o + k) d.1.1.1.1.1.0;
        counted = ap (λ (r : Scanned). (scan_reply r).first) (sym (ap (λ (r : ScanOutcome). r.answer) l) ∙ e);
        left = ap (λ (r : ScanOutcome). r.marks) l;
      }

  written_given : 3 + 5 * count ≤ budget
      → simulated o k ws set (merged x) budget m ≡ unit_outcome (Ok (3 + 5 * count)) (scanned o k ws set x (full_budget (o + k)) m).marks
  written_given h =
      let t = was.counted in
      merged_simulated o k ws set was.read.allowed was.read.net x was.node m was.room budget (omega (arith, t, h))
      ∙ ap (λ (q : ℕ). unit_outcome (Ok (3 + 5 * q)) ((full_scan (o + k) (chosen set ws) x).marks ++ drop (o + k) m)) t
      ∙ ap (λ (z : List ℕ). unit_outcome (Ok (3 + 5 * count)) z) (sym was.left)

  short_given : budget < 3 + 5 * count → (simulated o k ws set (merged x) budget m).answer ≡ Err (simulatedAs.Spent budget)
  short_given h =
      let t = was.counted in
      merged_short o k ws set was.read.allowed was.read.net x was.node m was.room budget (omega (arith, t, h))

-- The written program, and the scan with as many rounds as its budget has fives.
module _ (o k : ℕ) (ws : List ℕ) (set x budget : ℕ) (m : List ℕ) (read : Read o k ws set) (node : x < o + k) (room : o + k ≤ length m) where
  abbrev rounds : ℕ
  rounds = (budget - 3) / 5

  abbrev ran : Scan
  ran = run (o + k) (chosen set ws) (merged x) budget (take (o + k) m)

  sound : ltb (first_fault (o + k) (merged x)) (length (merged x)) ≡ false
  sound = ap (λ (i : ℕ). ltb i (length (merged x))) (merged_sound (o + k) x node read.net.few)

  -- What the unit answers, by its run.
  by_run : (simulated o k ws set (merged x) budget m).answer ≡ cond ran.done (Ok ran.count) (Err (simulatedAs.Spent budget))
  by_run =
      ap (λ (q : UnitOutcome). q.answer)
      (steps_given o k ws set (merged x) budget m read room ((sound_exactly (o + k) (merged x)).0 sound) ran
      (run_steps (o + k) (chosen set ws) (merged x) (whole (o + k) (merged x) sound) budget (take (o + k) m)))

  spent_only : (d : Bool) (count : ℕ) → cond d (Ok count) (Err (simulatedAs.Spent budget)) ≡ Err (simulatedAs.Spent budget) → d ≡ false
  spent_only true count e = absurd (omega (arith, ap (λ (r : Simulated). (simulated_reply r).number) e))
  spent_only false count e = refl

  -- The scan is spent exactly if it is not done within its rounds.
  scan_spent_lem : ((scanned o k ws set x rounds m).answer ≡ Err (answer.Spent rounds)) ↔ ((scan (o + k) (chosen set ws) x rounds).done ≡ false)
  scan_spent_lem = (
    (λ e. not-true (scan (o + k) (chosen set ws) x rounds).done (((scan_obeys o k ws set x rounds m).exactly 6).0 (ap (λ (r : Scanned). (scan_reply r).number) e)).1.1.1.1.1.1),
    λ e.
        let t = (past_checks o k ws set).1 read in
        ap (λ (r : ScanOutcome). r.answer)
        ((scan_obeys o k ws set x rounds m).leaves 6 (t.0, (t.1, (t.2, (t.3, (lt-leb (o + k) x node, (le-ltb (length m) (o + k) room, rw e))))))),
  )

  matching_given : ((simulated o k ws set (merged x) budget m).answer ≡ Err (simulatedAs.Spent budget)) ↔ ((scanned o k ws set x rounds m).answer ≡ Err (answer.Spent rounds))
  matching_given =
      let same = merged_as_scan o k ws set read.allowed read.net x node m room budget in (
        (λ e. scan_spent_lem.1 (sym same ∙ spent_only ran.done ran.count (sym by_run ∙ e))),
        λ e. by_run ∙ ap (λ (d : Bool). cond d (Ok ran.count) (Err (simulatedAs.Spent budget))) (same ∙ scan_spent_lem.0 e),
      )

pub simulating : Simulating ours
simulating = record {
  steps = λ o k ws set program budget m read room h r s. steps_given o k ws set program budget m read room h r s;
  fault = λ o k ws set program budget m read room p w h. fault_given o k ws set program budget m read room p w h;
  written = λ o k ws set x budget m count e h. written_given o k ws set x budget m count e h;
  short = λ o k ws set x budget m count e h. short_given o k ws set x budget m count e h;
  matching = λ o k ws set x budget m read node room. matching_given o k ws set x budget m read node room;
}
