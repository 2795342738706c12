-- The sheet of `fleet` ([11]): what is printed for an input of net files, each after its length in four bytes.
use Rattle.std.specs.Prelude.{ℕ, zero, suc, cond, List, ◌++◌, eqb, ltb, length, take, drop}
use Rattle.netfile_numbers.specs.Bytes.{u32_at}
use Rattle.netfile.specs.Contents.{file_limit}
use Rattle.figures.specs.Figured.{nothing}
use Rattle.figures_file.specs.Files.{figured_file}
use Rattle.fleet_line.specs.Line.{numbers_line, refused_line, total_line}
use Rattle.fleet_text.specs.Sums.{plus}
use Rattle.fleet_text.specs.declared.Head.{Head}
use Rattle.fleet_text.specs.declared.Head.TheVariants.{End, Bad, Size}

-- At most so many files.
abbrev pub files_limit : ℕ
files_limit = 65536

-- The line of a file: its figures, or the number of its refusal.
unfoldable pub file_line : ℕ → List ℕ → List ℕ
file_line number counts = cond (eqb number 0) (numbers_line counts) (refused_line number)

-- The length of a file in four bytes, or in fewer, which is a fault.
unfoldable pub length_of : List ℕ → Head
length_of head = cond (ltb (length head) 4) Bad (cond (ltb file_limit (u32_at head 0)) Bad (Size (u32_at head 0)))

-- What is left of an input: nothing, no whole file, or a file and what stands behind it.
pub data Next : Type 0 where
  end bad : Next
  file : List ℕ → List ℕ → Next

abbrev pub with_length : List ℕ → Head → Next
with_length s End = end
with_length s Bad = bad
with_length s (Size n) = cond (ltb (length s) n) bad (file (take n s) (drop n s))

unfoldable pub next_of : List ℕ → Next
next_of s = cond (eqb (length s) 0) end (with_length (drop 4 s) (length_of (take 4 s)))

-- Number 14 and the total, which end the run.
abbrev pub refused_end : List ℕ → List ℕ
refused_end sums = refused_line 14 ++ total_line sums

-- All that is printed for what is left of an input, where so many files may still come and the sums stand so. A file that is refused counts among the files.
unfoldable pub fleet_from : ℕ → List ℕ → List ℕ → List ℕ
fleet_from zero sums s = cond (eqb (length s) 0) (total_line sums) (refused_end sums)
fleet_from (suc left) sums s =
    elim (next_of s) [
      | end ↦ total_line sums
      | bad ↦ refused_end sums
      | file f rest ↦ file_line (figured_file f).number (figured_file f).counts ++ fleet_from left (plus sums (figured_file f).counts) rest
    ]

-- All that is printed for an input.
abbrev pub fleet_text : List ℕ → List ℕ
fleet_text s = fleet_from files_limit nothing s
