-- An input of whole files, their lines and their sums.
use Rattle.std.specs.Prelude.{ℕ, ◌≡◌, List, [], ◌∷◌, ◌++◌}
use Rattle.figures_file.specs.Files.{figured_file}
use Rattle.fleet_text.specs.Sums.{plus}
use Rattle.fleet_text.specs.Fleet.{file_line, file, next_of}

-- The input s is these files, each whole after its length, and nothing besides.
pub data Reads : List ℕ → List (List ℕ) → Type 0 where
  none : (s : List ℕ) → s ≡ [] → Reads s []
  more : (s f rest : List ℕ) (fs : List (List ℕ)) → next_of s ≡ file f rest → Reads rest fs → Reads s (f ∷ fs)

-- The lines of files, one after another.
unfoldable pub lines_of : List (List ℕ) → List ℕ
lines_of [] = []
lines_of (f ∷ fs) = file_line (figured_file f).number (figured_file f).counts ++ lines_of fs

-- The sums after files, from the sums before them.
unfoldable pub sums_of : List ℕ → List (List ℕ) → List ℕ
sums_of sums [] = sums
sums_of sums (f ∷ fs) = sums_of (plus sums (figured_file f).counts) fs
