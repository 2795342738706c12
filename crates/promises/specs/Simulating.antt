-- What the marker unit promises ([13]): it gives what the steps of its program come to, it tells the first place at fault, and the program that is written for
-- the merged scan leaves the scan's marks.
use Rattle.unit.specs.declared.UnitError.TheVariants as simulated
use Rattle.scan.specs.declared.ScanError.TheVariants as scanned
use Rattle.std.specs.Prelude.{ℕ, ◌+◌, ◌-◌, ◌*◌, ◌/◌, ◌≤◌, ◌<◌, ◌≡◌, cond, List, ◌++◌, ◌↔◌, length, take, drop, Err, Ok}
use Rattle.theory.specs.Scans.{Scan, full_budget}
use Rattle.theory.specs.Origins.{chosen}
use Rattle.unit_program.specs.Wrong.{FirstWrong}
use Rattle.unit_program.specs.Steps.{Runs}
use Rattle.unit_program.specs.Merged.{merged}
use Rattle.unit.specs.Table.{unit_outcome}
use Rattle.promises.specs.Engines.{Engine, Read}

pub record Simulating (e : Engine) : Type 0 where
  -- Over a net and a set, with marks enough and a program in which nothing is wrong: where the steps over the chosen links come to its end, the commands run; where
  -- they come to a command for which the budget has nothing left, the budget; and in both cases their marks, with the bytes past the nodes as they were.
  pub steps : (o k : ℕ) (ws : List ℕ) (set : ℕ) (program : List ℕ) (budget : ℕ) (m : List ℕ) → Read o k ws set → o + k ≤ length m → ((p : ℕ) → FirstWrong (o + k) program p → ⊥)
      → (r : Scan) → Runs (o + k) (chosen set ws) program budget (take (o + k) m) r
      → e.unit o k ws set program budget m ≡ unit_outcome (cond r.done (Ok r.count) (Err (simulated.Spent budget))) (r.marks ++ drop (o + k) m)
  -- Where something is wrong with the program, its first place is told, up to the largest place that a reply can tell, and nothing is changed.
  pub fault : (o k : ℕ) (ws : List ℕ) (set : ℕ) (program : List ℕ) (budget : ℕ) (m : List ℕ) → Read o k ws set → o + k ≤ length m → (p : ℕ) → FirstWrong (o + k) program p → p ≤ 4294967295
      → e.unit o k ws set program budget m ≡ unit_outcome (Err (simulated.Faulty p)) m
  -- The written program from x runs 3 + 5 × the scan's count commands, and leaves the scan's marks.
  pub written : (o k : ℕ) (ws : List ℕ) (set x budget : ℕ) (m : List ℕ) (count : ℕ) → (e.scan o k ws set x (full_budget (o + k)) m).answer ≡ Ok count → 3 + 5 * count ≤ budget
      → e.unit o k ws set (merged x) budget m ≡ unit_outcome (Ok (3 + 5 * count)) (e.scan o k ws set x (full_budget (o + k)) m).marks
  -- A smaller budget is spent.
  pub short : (o k : ℕ) (ws : List ℕ) (set x budget : ℕ) (m : List ℕ) (count : ℕ) → (e.scan o k ws set x (full_budget (o + k)) m).answer ≡ Ok count → budget < 3 + 5 * count
      → (e.unit o k ws set (merged x) budget m).answer ≡ Err (simulated.Spent budget)
  -- Whatever the budget, it is spent exactly if the scan is that has a round for every five commands after the first three.
  pub matching : (o k : ℕ) (ws : List ℕ) (set x budget : ℕ) (m : List ℕ) → Read o k ws set → x < o + k → o + k ≤ length m
      → ((e.unit o k ws set (merged x) budget m).answer ≡ Err (simulated.Spent budget)) ↔ ((e.scan o k ws set x ((budget - 3) / 5) m).answer ≡ Err (scanned.Spent ((budget - 3) / 5)))
