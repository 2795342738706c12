-- The report's own downscan (its section 7), kept so that what it loses can be shown. No operation uses it.
use Rattle.std.specs.Prelude.{ℕ, List, [], ◌∷◌}
use Rattle.theory.specs.Marks.{T, F, mark, blank, command, to_tail}
use Rattle.theory.specs.Scans.{Scan, rounds}
use Rattle.theory.specs.declared.Command.{Command}

-- T on y, then once F at the tail of each ↛ link whose head has T.
abbrev pub downscan_start : ℕ → List ℕ → ℕ → List ℕ
downscan_start n ws y = command (to_tail 1 T F) ws (mark T y (blank n))

-- Its loop: two commands, neither of which climbs above y.
abbrev pub downwards : List Command
downwards = to_tail 0 T T ∷ to_tail 0 F F ∷ []

-- The downscan from y.
abbrev pub downscan : ℕ → List ℕ → ℕ → ℕ → Scan
downscan n ws y budget = rounds downwards ws 0 budget (downscan_start n ws y)
