-- The marker unit step by step, over the words of its program.
use Rattle.std.specs.Prelude.{ℕ, suc, ◌-◌, ◌<◌, ◌≡◌, Bool, true, false, ◌||◌, List, length}
use Rattle.theory.specs.Scans.{Scan}
use Rattle.unit_program.specs.declared.Instruction.{Instruction}
use Rattle.unit_program.specs.declared.Instruction.TheVariants.{Clear, Set, Link, Loop, End, Unknown}
use Rattle.unit_program.specs.Wrong.{command_at}
use Rattle.unit_program.specs.Runs.{does, sets}

-- Where the unit stands: the place of its next command, the commands left in its budget, whether this pass set something new, and the marks.
pub record State : Type 0 where
  pub place : ℕ
  pub left : ℕ
  pub fresh : Bool
  pub marks : List ℕ

abbrev pub state : ℕ → ℕ → Bool → List ℕ → State
state p l f m = record { place = p; left = l; fresh = f; marks = m }

-- Clear, set and link are charged to the budget. The marks of a loop are not.
abbrev pub charged : Instruction → Bool
charged (Clear s) = true
charged (Set j v) = true
charged (Link c) = true
charged Loop = false
charged End = false
charged Unknown = false

-- The loop in which place i stands begins at place `start`: none but charged commands stand between them.
pub record Begins (n : ℕ) (ps : List ℕ) (start i : ℕ) : Type 0 where
  pub before : start < i
  pub opens : command_at n ps start ≡ Loop
  pub between : (j : ℕ) → start < j → j < i → charged (command_at n ps j) ≡ true

-- One step over the links ws. A charged command is run, if one is left in the budget; a loop is entered, and a pass begins that has set nothing; at
-- its end the next pass begins if this one set something new, and else the loop is left.
pub data Step (n : ℕ) (ws ps : List ℕ) (s t : State) : Type 0 where
  runs : charged (command_at n ps s.place) ≡ true → (l : ℕ) → s.left ≡ suc l
      → t ≡ state (suc s.place) l (s.fresh || sets ws (command_at n ps s.place) s.marks) (does ws (command_at n ps s.place) s.marks) → Step n ws ps s t
  enters : command_at n ps s.place ≡ Loop → t ≡ state (suc s.place) s.left false s.marks → Step n ws ps s t
  repeats : command_at n ps s.place ≡ End → s.fresh ≡ true → (start : ℕ) → Begins n ps start s.place → t ≡ state (suc start) s.left false s.marks
      → Step n ws ps s t
  leaves : command_at n ps s.place ≡ End → s.fresh ≡ false → t ≡ state (suc s.place) s.left false s.marks → Step n ws ps s t

-- Steps lead from one state to another.
pub data Leads (n : ℕ) (ws ps : List ℕ) : State → State → Type 0 where
  arrived : {s t : State} → s ≡ t → Leads n ws ps s t
  further : {s t : State} (u : State) → Step n ws ps s u → Leads n ws ps u t → Leads n ws ps s t

-- What a run from place 0 gives: it came to the end of the program, or to a charged command for which the budget has nothing left.
pub data Runs (n : ℕ) (ws ps : List ℕ) (budget : ℕ) (m : List ℕ) (r : Scan) : Type 0 where
  ended : (s : State) → Leads n ws ps (state 0 budget false m) s → s.place ≡ length ps
      → r ≡ record { done = true; count = budget - s.left; marks = s.marks } → Runs n ws ps budget m r
  spent : (s : State) → Leads n ws ps (state 0 budget false m) s → charged (command_at n ps s.place) ≡ true → s.left ≡ 0
      → r ≡ record { done = false; count = budget; marks = s.marks } → Runs n ws ps budget m r
