-- The text of the derivation that `explain` finds with room for any.
use Rattle.explain.specs.declared.ExplainError.TheVariants.{Refused, ShortLines, ShortReason, Unsupported}
use Rattle.std.specs.Prelude.{ℕ, ◌*◌, Bool, List, [], take, replicate, Err, Ok}
use Rattle.explain.specs.Table.{ExplainOutcome, explained}
use Rattle.explain.specs.Table.{Explained}
use Rattle.derivation_lines.specs.Flat.{lines_of}
use Rattle.why_line.specs.Text.{line_room, lines_text}

-- On 1,024 nodes a derivation that `explain` finds has at most so many lines,
abbrev pub most_lines : ℕ
most_lines = 4095

-- of four places each.
abbrev pub lines_room : ℕ
lines_room = 4 * most_lines

-- Places of scratch and of the reason that do on 1,024 nodes.
abbrev pub scratch_room : ℕ
scratch_room = 2048

abbrev pub reason_room : ℕ
reason_room = 2050

-- Bytes that do for all lines.
abbrev pub derivation_room : ℕ
derivation_room = most_lines * line_room

-- What is found in that room.
abbrev pub found : ℕ → ℕ → List ℕ → ℕ → ℕ → ℕ → ℕ → ExplainOutcome
found o k ws set x y sign = explained o k ws set x y sign (replicate scratch_room 0) (replicate reason_room 0) (replicate lines_room 0)

-- The lines by the answer, out of the list l in which they stand.
unfoldable pub told_by : Bool → List ℕ → Explained → List ℕ → List ℕ
told_by told ws (Ok (places, size)) l = lines_text told ws 0 (lines_of (take places l))
told_by told ws (Err Unsupported) l = []
told_by told ws (Err (ShortReason needed)) l = []
told_by told ws (Err (ShortLines needed)) l = []
told_by told ws (Err (Refused r)) l = []

-- Why x → y (sign 0), or x ↛ y (sign 1).
unfoldable pub why_text : Bool → ℕ → ℕ → List ℕ → ℕ → ℕ → ℕ → ℕ → List ℕ
why_text told o k ws set x y sign = told_by told ws (found o k ws set x y sign).answer (found o k ws set x y sign).lines
