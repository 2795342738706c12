-- What is wrong with a command of a program (number 16), and the first such place.
use Rattle.std.specs.Prelude.{ℕ, ◌<◌, ◌≡◌, List, length, get_or}
use Rattle.unit_program.specs.declared.Instruction.{Instruction}
use Rattle.unit_program.specs.declared.Instruction.TheVariants.{Loop, End, Unknown}
use Rattle.unit_program.specs.Programs.{decode}

-- The command at place i.
abbrev pub command_at : ℕ → List ℕ → ℕ → Instruction
command_at n ps i = decode n (get_or ps i 0)

-- Place i stands inside a loop: a loop stands before it, and no end between them.
pub record Open (n : ℕ) (ps : List ℕ) (i : ℕ) : Type 0 where
  pub start : ℕ
  pub before : start < i
  pub opens : command_at n ps start ≡ Loop
  pub unclosed : (j : ℕ) → start < j → j < i → command_at n ps j ≡ End → ⊥

-- The command at place i is unknown, a loop inside a loop, a loop with no end after it, or an end outside a loop.
pub data Wrong (n : ℕ) (ps : List ℕ) (i : ℕ) : Type 0 where
  unknown : command_at n ps i ≡ Unknown → Wrong n ps i
  nested : command_at n ps i ≡ Loop → Open n ps i → Wrong n ps i
  endless : command_at n ps i ≡ Loop → ((j : ℕ) → i < j → j < length ps → command_at n ps j ≡ End → ⊥) → Wrong n ps i
  outside : command_at n ps i ≡ End → (Open n ps i → ⊥) → Wrong n ps i

-- The first place at which something is wrong.
pub record FirstWrong (n : ℕ) (ps : List ℕ) (p : ℕ) : Type 0 where
  pub below : p < length ps
  pub wrong : Wrong n ps p
  pub first : (j : ℕ) → j < p → Wrong n ps j → ⊥
