-- Demand 2: what is not refused is answered by the rules. A statement gets its yes or its no just if it is in the smallest set around the links
-- that is closed under (3.1) to (3.5), from either end; and the count is how many rounds the marker machine runs.
use Rattle.scan.specs.declared.ScanError.TheVariants as scanned
use Rattle.std.specs.Prelude.{ℕ, suc, ◌+◌, ◌*◌, ◌-◌, ◌≤◌, ◌<◌, ◌≡◌, Bool, true, false, List, ◌↔◌, Err, Ok}
use Rattle.theory.specs.Words.{Sign, is, isnt}
use Rattle.theory.specs.Nets.{Statements, Kind, Links}
use Rattle.theory.specs.Support.{Supported, Closed}
use Rattle.theory.specs.Marks.{At, marker_of, marker_to, commands, scan_start}
use Rattle.theory.specs.Scans.{after, Count, full_budget}
use Rattle.theory.specs.Origins.{chosen}
use Rattle.theory.specs.declared.Command.{Command}
use Rattle.question.specs.declared.Answer.{Answer}
use Rattle.question.specs.declared.Answer.TheVariants.{None, Yes, No, Both}
use Rattle.promises.specs.Engines.{Engine}

-- P is the smallest set that contains the links L and is closed under the five rules.
pub record Smallest (o k : ℕ) (L P : Statements) : Type 1 where
  pub closed : Closed o k L P
  pub inside : (Q : Statements) → Closed o k L Q → (x y : ℕ) (s : Sign) → P x y s → Q x y s

-- Whether an answer says yes, or no: both says each.
abbrev pub says : Answer → Sign → Bool
says None s = false
says Yes is = true
says Yes isnt = false
says No is = false
says No isnt = true
says Both s = true

-- The rounds of a budget that was spent: all of them were run, and each of them set something, so that none was the last.
pub record SpentRounds (cs : List Command) (ws m : List ℕ) (budget count : ℕ) : Type 0 where
  pub all : count ≡ budget
  pub busy : (j : ℕ) → j < budget → after cs ws (suc j) m ≡ after cs ws j m → ⊥

pub record Demand2 (e : Engine) : Type 0 where
  -- The question: yes exactly if x → y is supported, no exactly if x ↛ y is; its rounds are those of the scan from x, within the question's budget.
  pub question : (o k : ℕ) (ws : List ℕ) (set x y : ℕ) (m : List ℕ) (a : Answer) (count : ℕ) → (e.question o k ws set x y m).answer ≡ Ok (a, count)
      → (s : Sign) → (says a s ≡ true) ↔ Supported o k (Links (chosen set ws)) x y s
  pub question_rounds : (o k : ℕ) (ws : List ℕ) (set x y : ℕ) (m : List ℕ) (a : Answer) (count : ℕ) → (e.question o k ws set x y m).answer ≡ Ok (a, count)
      → Count commands (chosen set ws) (scan_start (o + k) x) count × (count ≤ full_budget (o + k))
  -- The scan from x, object or kind, read at a kind y: U exactly if x → y is supported, F exactly if x ↛ y is.
  pub scan : (o k : ℕ) (ws : List ℕ) (set x budget : ℕ) (m : List ℕ) (count : ℕ) → (e.scan o k ws set x budget m).answer ≡ Ok count
      → (y : ℕ) → Kind o k y → (s : Sign) → At (e.scan o k ws set x budget m).marks (marker_of s) y ↔ Supported o k (Links (chosen set ws)) x y s
  -- From a kind x, read at any node z: T exactly if z → x is supported, F exactly if z ↛ x is.
  pub scan_to : (o k : ℕ) (ws : List ℕ) (set x budget : ℕ) (m : List ℕ) (count : ℕ) → (e.scan o k ws set x budget m).answer ≡ Ok count
      → Kind o k x → (z : ℕ) → z < o + k → (s : Sign) → At (e.scan o k ws set x budget m).marks (marker_to s) z ↔ Supported o k (Links (chosen set ws)) z x s
  -- Its rounds, at most 3N − 1.
  pub scan_rounds : (o k : ℕ) (ws : List ℕ) (set x budget : ℕ) (m : List ℕ) (count : ℕ) → (e.scan o k ws set x budget m).answer ≡ Ok count
      → Count commands (chosen set ws) (scan_start (o + k) x) count × (count ≤ 3 * (o + k) - 1)
  -- Where the budget is spent none of these marks is wrong, and there was no quiet round.
  pub scan_spent : (o k : ℕ) (ws : List ℕ) (set x budget : ℕ) (m : List ℕ) (count : ℕ) → (e.scan o k ws set x budget m).answer ≡ Err (scanned.Spent count)
      → (y : ℕ) → Kind o k y → (s : Sign) → At (e.scan o k ws set x budget m).marks (marker_of s) y → Supported o k (Links (chosen set ws)) x y s
  pub scan_spent_to : (o k : ℕ) (ws : List ℕ) (set x budget : ℕ) (m : List ℕ) (count : ℕ) → (e.scan o k ws set x budget m).answer ≡ Err (scanned.Spent count)
      → Kind o k x → (z : ℕ) → z < o + k → (s : Sign) → At (e.scan o k ws set x budget m).marks (marker_to s) z → Supported o k (Links (chosen set ws)) z x s
  pub scan_spent_rounds : (o k : ℕ) (ws : List ℕ) (set x budget : ℕ) (m : List ℕ) (count : ℕ) → (e.scan o k ws set x budget m).answer ≡ Err (scanned.Spent count)
      → SpentRounds commands (chosen set ws) (scan_start (o + k) x) budget count
