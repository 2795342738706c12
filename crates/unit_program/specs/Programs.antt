-- Programs of the marker unit ([13]): how a command is written as a word, and the plain commands and loops that a list of words makes.
use Rattle.std.specs.Prelude.{ℕ, ◌/◌, ◌%◌, cond, ◌&&◌, List, [], ◌∷◌, eqb, ltb, leb}
use Rattle.unit_program.specs.declared.Instruction.{Instruction}
use Rattle.unit_program.specs.declared.Instruction.TheVariants.{Clear, Set, Link, Loop, End, Unknown}

-- What a command does stands in the highest byte of its word, and what it is about in the rest.
abbrev pub op_of : ℕ → ℕ
op_of w = w / 16777216

abbrev pub rest_of : ℕ → ℕ
rest_of w = w % 16777216

-- 0, clear: the set of markers, 1 to 255.
abbrev pub clear_of : ℕ → Instruction
clear_of r = cond (leb 1 r && leb r 255) (Clear r) Unknown

-- 1, set: marker × 65,536 + node, over n nodes.
abbrev pub set_of : ℕ → ℕ → Instruction
set_of n r = cond (leb (r / 65536) 7 && ltb (r % 65536) n) (Set (r / 65536) (r % 65536)) Unknown

-- 2, link: marker tested × 65,536 + marker put × 256 + end × 2 + sign. End 0 tests the tail and marks the head, end 1 the reverse.
abbrev pub link_of : ℕ → Instruction
link_of r =
    cond (leb (r / 65536) 7 && (leb (r / 256 % 256) 7 && leb (r % 256) 3))
    (Link (record { sign = r % 2; at_head = eqb (r / 2 % 2) 1; test = r / 65536; put = r / 256 % 256 }))
    Unknown

-- The words of a loop and of its end, 3 and 4, whose rest is 0.
abbrev pub loop_word : ℕ
loop_word = 50331648

abbrev pub end_word : ℕ
end_word = 67108864

-- The command that a word stands for, over n nodes.
unfoldable pub decode : ℕ → ℕ → Instruction
decode n w =
    cond (eqb (op_of w) 0) (clear_of (rest_of w))
    (cond (eqb (op_of w) 1) (set_of n (rest_of w))
    (cond (eqb (op_of w) 2) (link_of (rest_of w))
    (cond (eqb w loop_word) Loop
    (cond (eqb w end_word) End Unknown))))

-- A program is plain commands, and loops of plain commands.
pub data Item : Type 0 where
  one : Instruction → Item
  loop : List Instruction → Item

-- A program read from some place on: the commands up to the next end and the items after it, if a loop is open there, and the items if none is.
pub record Parts : Type 0 where
  pub body : List Instruction
  pub beyond : List Item
  pub items : List Item

abbrev pub part : Instruction → Parts → Parts
part Loop p = record { body = []; beyond = []; items = loop p.body ∷ p.beyond }
part End p = record { body = []; beyond = p.items; items = p.items }
part (Clear s) p = record { body = Clear s ∷ p.body; beyond = p.beyond; items = one (Clear s) ∷ p.items }
part (Set j v) p = record { body = Set j v ∷ p.body; beyond = p.beyond; items = one (Set j v) ∷ p.items }
part (Link c) p = record { body = Link c ∷ p.body; beyond = p.beyond; items = one (Link c) ∷ p.items }
part Unknown p = record { body = Unknown ∷ p.body; beyond = p.beyond; items = one Unknown ∷ p.items }

unfoldable pub parts : ℕ → List ℕ → Parts
parts n [] = record { body = []; beyond = []; items = [] }
parts n (w ∷ ws) = part (decode n w) (parts n ws)

-- The items of a program.
abbrev pub items : ℕ → List ℕ → List Item
items n program = (parts n program).items
