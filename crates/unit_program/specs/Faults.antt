-- The first command of a program that is at fault (number 16).
use Rattle.std.specs.Prelude.{ℕ, zero, suc, Bool, true, false, cond, not, ◌||◌, List, [], ◌∷◌, ◌≡◌, length}
use Rattle.unit_program.specs.declared.Instruction.{Instruction}
use Rattle.unit_program.specs.declared.Instruction.TheVariants.{Clear, Set, Link, Loop, End, Unknown}
use Rattle.unit_program.specs.Programs.{decode}

abbrev pub is_end : Instruction → Bool
is_end End = true
is_end (Clear s) = false
is_end (Set j v) = false
is_end (Link c) = false
is_end Loop = false
is_end Unknown = false

abbrev pub is_loop : Instruction → Bool
is_loop Loop = true
is_loop (Clear s) = false
is_loop (Set j v) = false
is_loop (Link c) = false
is_loop End = false
is_loop Unknown = false

-- Some command is an end.
unfoldable pub ends : ℕ → List ℕ → Bool
ends n [] = false
ends n (w ∷ ws) = is_end (decode n w) || ends n ws

-- How many commands stand before the first end.
unfoldable pub before_end : ℕ → List ℕ → ℕ
before_end n [] = zero
before_end n (w ∷ ws) = cond (is_end (decode n w)) zero (suc (before_end n ws))

-- A command is at fault, by whether it stands inside a loop and whether an end comes after it: it is unknown, a loop inside a loop, a loop
-- with no end after it, or an end outside a loop.
abbrev pub faulty : Bool → Bool → Instruction → Bool
faulty inside closed Unknown = true
faulty inside closed Loop = inside || not closed
faulty inside closed End = not inside
faulty inside closed (Clear s) = false
faulty inside closed (Set j v) = false
faulty inside closed (Link c) = false

-- Whether what comes after a command stands inside a loop.
abbrev pub within : Bool → Instruction → Bool
within inside Loop = true
within inside End = false
within inside (Clear s) = inside
within inside (Set j v) = inside
within inside (Link c) = inside
within inside Unknown = inside

-- How many commands stand before the first one at fault, which is its place.
unfoldable pub sound_prefix : ℕ → Bool → List ℕ → ℕ
sound_prefix n inside [] = zero
sound_prefix n inside (w ∷ ws) =
    cond (faulty inside (ends n ws) (decode n w)) zero (suc (sound_prefix n (within inside (decode n w)) ws))

-- The place of the first command at fault; the length of the program where there is none.
abbrev pub first_fault : ℕ → List ℕ → ℕ
first_fault n program = sound_prefix n false program

-- No command of the list is at fault, which stands inside a loop or outside.
abbrev pub Sound : ℕ → Bool → List ℕ → Type 0
Sound n inside ws = sound_prefix n inside ws ≡ length ws
