-- The sheet turn by turn, as the program reads: a head of four bytes, and the file behind it.
use Rattle.std.specs.Prelude.{ℕ, ◌-◌, ◌≡◌, Bool, true, false, cond, List, eqb, ltb, length}
use Rattle.text_field.specs.Writing.{Wrote}
use Rattle.figures_file.specs.Files.{figured_file}
use Rattle.fleet_line.specs.Line.{total_line}
use Rattle.fleet_text.specs.Sums.{plus}
use Rattle.fleet_text.specs.Fleet.{file_line, length_of, refused_end}
use Rattle.fleet_text.specs.declared.Head.{Head}
use Rattle.fleet_text.specs.declared.Head.TheVariants.{End, Bad, Size}
use Rattle.fleet_text.specs.declared.Turn.{Turn}

-- What the next four bytes of the input say, or as many as there are, where so many files may still come. After the last file that may come only the end is right.
unfoldable pub head_of : ℕ → List ℕ → Head
head_of left head = cond (eqb (length head) 0) End (cond (eqb left 0) Bad (length_of head))

-- How many bytes are to be read behind a head.
abbrev pub size_of : Head → ℕ
size_of End = 0
size_of Bad = 0
size_of (Size n) = n

-- Whether the run goes on after a head and what was read of the file behind it: the file is whole.
abbrev pub goes_on : List ℕ → Head → Bool
goes_on f End = false
goes_on f Bad = false
goes_on f (Size n) = cond (ltb (length f) n) false true

-- What is printed for them.
abbrev pub turn_text : List ℕ → List ℕ → Head → List ℕ
turn_text sums f End = total_line sums
turn_text sums f Bad = refused_end sums
turn_text sums f (Size n) = cond (ltb (length f) n) (refused_end sums) (file_line (figured_file f).number (figured_file f).counts)

-- How many files may come after them, and the sums.
abbrev pub turn_left : ℕ → List ℕ → Head → ℕ
turn_left left f h = cond (goes_on f h) (left - 1) left

abbrev pub turn_sums : List ℕ → List ℕ → Head → List ℕ
turn_sums sums f h = cond (goes_on f h) (plus sums (figured_file f).counts) sums

-- The turn t was made: its text stands in front of l, which became l', and it tells the state after it.
pub record Turned (left : ℕ) (sums f : List ℕ) (h : Head) (l l' : List ℕ) (t : Turn) : Type 0 where
  pub text : Wrote (turn_text sums f h) l l' t.size
  pub going : t.going ≡ goes_on f h
  pub files : t.left ≡ turn_left left f h
  pub added : t.sums ≡ turn_sums sums f h
