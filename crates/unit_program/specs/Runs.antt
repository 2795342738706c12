-- What the marker unit does: one command, a pass over commands, a loop, a program; each within a budget of commands.
use Rattle.std.specs.Prelude.{ℕ, zero, suc, ◌-◌, ◌≡◌, Bool, true, false, cond, not, ◌&&◌, ◌||◌, List, [], ◌∷◌, map}
use Rattle.std.specs.Int.Bits.{bit_and}
use Rattle.theory.specs.Marks.{mark, command}
use Rattle.theory.specs.Scans.{same, Scan}
use Rattle.unit_program.specs.declared.Instruction.{Instruction}
use Rattle.unit_program.specs.declared.Instruction.TheVariants.{Clear, Set, Link, Loop, End, Unknown}
use Rattle.unit_program.specs.Programs.{Item, one, loop, items}

-- What a command makes of the marks: a clear keeps the markers that are not in its set.
abbrev pub does : List ℕ → Instruction → List ℕ → List ℕ
does ws (Clear s) m = map (λ b. bit_and b (255 - s)) m
does ws (Set j v) m = mark j v m
does ws (Link c) m = command c ws m
does ws Loop m = m
does ws End m = m
does ws Unknown m = m

-- Whether it sets something new.
abbrev pub sets : List ℕ → Instruction → List ℕ → Bool
sets ws (Clear s) m = false
sets ws (Set j v) m = not (same m (mark j v m))
sets ws (Link c) m = not (same m (command c ws m))
sets ws Loop m = false
sets ws End m = false
sets ws Unknown m = false

-- Where a run stands: whether it still runs, the commands left in its budget, whether something new was set, and the marks.
pub record Stand : Type 0 where
  pub runs : Bool
  pub left : ℕ
  pub fresh : Bool
  pub marks : List ℕ

abbrev pub stand : Bool → ℕ → Bool → List ℕ → Stand
stand r l f m = record { runs = r; left = l; fresh = f; marks = m }

-- A pass over plain commands. Where the budget is spent before a command, the run stops there.
unfoldable pub pass : List ℕ → List Instruction → ℕ → Bool → List ℕ → Stand
pass ws [] left fresh m = stand true left fresh m
pass ws (i ∷ is) zero fresh m = stand false zero fresh m
pass ws (i ∷ is) (suc left) fresh m = pass ws is left (fresh || sets ws i m) (does ws i m)

-- What a loop leaves: its last pass is the first that set nothing new, or the one in which the budget is spent.
pub data Loops (ws : List ℕ) (is : List Instruction) : ℕ → List ℕ → Stand → Type 0 where
  last : {left : ℕ} {m : List ℕ} {s : Stand} → s ≡ pass ws is left false m → (s.runs && s.fresh) ≡ false → Loops ws is left m s
  again : {left : ℕ} {m : List ℕ} {p s : Stand} → p ≡ pass ws is left false m → (p.runs && p.fresh) ≡ true → Loops ws is p.left p.marks s → Loops ws is left m s

-- The same, computed: at most so many passes. A pass that sets something new runs a command, so one more than the budget are enough.
unfoldable pub passes : List ℕ → List Instruction → ℕ → ℕ → List ℕ → Stand
passes ws is zero left m = stand false left false m
passes ws is (suc most) left m =
    elim ((pass ws is left false m).runs && (pass ws is left false m).fresh) [
      | true ↦ passes ws is most (pass ws is left false m).left (pass ws is left false m).marks
      | false ↦ pass ws is left false m
    ]

abbrev pub item : List ℕ → Item → ℕ → List ℕ → Stand
item ws (one i) left m = pass ws (i ∷ []) left false m
item ws (loop is) left m = passes ws is (suc left) left m

-- What comes after a stand, if it still runs.
abbrev pub onward : Stand → (ℕ → List ℕ → Stand) → Stand
onward s go = cond s.runs (go s.left s.marks) s

-- The items one after another, as long as the budget lasts.
unfoldable pub run_items : List ℕ → List Item → ℕ → List ℕ → Stand
run_items ws [] left m = stand true left false m
run_items ws (t ∷ ts) left m = onward (item ws t left m) (λ l k. run_items ws ts l k)

-- A program run on the marks of n nodes with a budget of commands: done or spent, the commands run, and the marks left.
abbrev pub run : ℕ → List ℕ → List ℕ → ℕ → List ℕ → Scan
run n ws program budget m =
    let s = run_items ws (items n program) budget m in
    record { done = s.runs; count = budget - s.left; marks = s.marks }
