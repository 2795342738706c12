-- Document 01's forward scan, kept so that its words and rounds can be compared with the scan's. No operation uses it.
use Rattle.std.specs.Prelude.{ℕ, List, [], ◌∷◌}
use Rattle.theory.specs.Marks.{T, F, mark, blank, to_head, to_tail}
use Rattle.theory.specs.Scans.{Scan, rounds}
use Rattle.theory.specs.declared.Command.{Command}

-- Its four commands.
abbrev pub forward : List Command
forward = to_head 0 T T ∷ to_tail 0 F F ∷ to_head 1 T F ∷ to_tail 1 T F ∷ []

-- It starts with T on x.
abbrev pub forward_start : ℕ → ℕ → List ℕ
forward_start n x = mark T x (blank n)

-- The forward scan from x; after it T at a kind is yes and F is no.
abbrev pub forward_scan : ℕ → List ℕ → ℕ → ℕ → Scan
forward_scan n ws x budget = rounds forward ws 0 budget (forward_start n x)
