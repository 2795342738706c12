-- What is promised of compaction ([7]): which words are left, that each of them is needed, and that nothing that a net answers is changed.
use Rattle.std.specs.Prelude.{ℕ, ◌+◌, ◌≤◌, ◌≡◌, List, ◌↔◌, length, Ok}
use Rattle.theory.specs.Nets.{AllIn, Net}
use Rattle.theory.specs.Completion.{Ascending}
use Rattle.theory.specs.Compaction.{Compacted, Needed}
use Rattle.scan_start.specs.Starts.{cleared}
use Rattle.compact.specs.Table.{compaction_outcome, freed}
use Rattle.promises.specs.Engines.{Engine, HasZero}
use Rattle.promises.specs.Demand3.{CompletesTo, SameWord}

-- The engine compacts the list ws to `out`: whatever marks it is lent that are long enough, it leaves `out` in front of the list and zero in the places
-- freed, gives the length and clears the marks.
abbrev pub CompactsTo : Engine → ℕ → ℕ → List ℕ → List ℕ → Type 0
CompactsTo e o k ws out = (m : List ℕ) → o + k ≤ length m → e.compaction o k ws m ≡ compaction_outcome (Ok (length out)) (freed out ws) (cleared (o + k) m)

pub record Compacting (e : Engine) : Type 0 where
  -- A net is compacted to its words, sorted and each once, without those that the words still there support, tested from the highest down.
  pub lists : (o k : ℕ) (ws : List ℕ) → Net o k ws → (out : List ℕ) × CompactsTo e o k ws out × Compacted o k ws out
  -- What is left ascends, and all of it was there.
  pub part : (o k : ℕ) (ws : List ℕ) → Net o k ws → (out : List ℕ) → CompactsTo e o k ws out → Ascending 0 out × AllIn out ws
  -- No word left is supported by the others left.
  pub needed : (o k : ℕ) (ws : List ℕ) → Net o k ws → (out : List ℕ) → CompactsTo e o k ws out → Needed o k out
  -- The completed list is unchanged, and so is the word of every question.
  pub completed : (o k : ℕ) (ws : List ℕ) → Net o k ws → (out : List ℕ) → CompactsTo e o k ws out → (z : ℕ) → HasZero z
      → (all : List ℕ) → CompletesTo e o k out z all ↔ CompletesTo e o k ws z all
  pub words : (o k : ℕ) (ws : List ℕ) → Net o k ws → (out : List ℕ) → CompactsTo e o k ws out → (z : ℕ) → HasZero z → SameWord e o k z out ws
  -- Compacting again changes nothing.
  pub again : (o k : ℕ) (ws : List ℕ) → Net o k ws → (out : List ℕ) → CompactsTo e o k ws out → CompactsTo e o k out out
  -- The order of the words and their repeats play no part.
  pub order : (o k : ℕ) (ws vs : List ℕ) → Net o k ws → Net o k vs → AllIn ws vs → AllIn vs ws → (out : List ℕ) → CompactsTo e o k ws out → CompactsTo e o k vs out
