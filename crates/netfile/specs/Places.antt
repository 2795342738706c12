-- A net file in plain numbers, of three entries and of four: when each place of a 9 is given, and where the bodies stand where none is.
use Rattle.std.specs.Prelude.{ℕ, zero, suc, ◌+◌, ◌*◌, ◌-◌, ◌%◌, ◌≤◌, ◌<◌, ◌≡◌, ◌⊎◌, List, length}
use Rattle.netfile_numbers.specs.Bytes.{u32_at}
use Rattle.netfile_entry.specs.Entries.{entries, contents_size}
use Rattle.netfile.specs.Contents.{file_limit, entries_of}

-- ── the size ──

-- Three entries in a size that is right: any first start but 32.
abbrev pub Three : List ℕ → Type 0
Three s = (u32_at s 0 ≡ 32 → ⊥) × ((24 ≤ length s) × (length s ≤ 32768))

-- Four: a first start of 32.
abbrev pub Four : List ℕ → Type 0
Four s = (u32_at s 0 ≡ 32) × ((32 ≤ length s) × (length s ≤ 32768))

-- A size that is wrong: below the contents, or above the limit.
abbrev pub Missized : List ℕ → Type 0
Missized s = ((length s < 24) ⊎ ((u32_at s 0 ≡ 32) × (length s < 32))) ⊎ (32768 < length s)

-- ── the entries ──

-- Where the words start, where the questions start, and where these end and the set starts, in a file of so many entries; where the set ends.
abbrev pub words_start : ℕ → List ℕ → ℕ
words_start count s = count * 8 + u32_at s 4

abbrev pub questions_start : ℕ → List ℕ → ℕ
questions_start count s = words_start count s + u32_at s 12

abbrev pub set_start : ℕ → List ℕ → ℕ
set_start count s = questions_start count s + u32_at s 20

abbrev pub set_end : List ℕ → ℕ
set_end s = set_start 4 s + u32_at s 28

-- The first entry is right: start behind the contents, length 8, end in the file.
abbrev pub FirstRight : ℕ → List ℕ → Type 0
FirstRight count s = (u32_at s 0 ≡ count * 8) × ((u32_at s 4 ≡ 8) × (words_start count s ≤ length s))

-- The second is: start at the end of the first, length a multiple of 4, end in the file.
abbrev pub SecondRight : ℕ → List ℕ → Type 0
SecondRight count s = (u32_at s 8 ≡ words_start count s) × ((u32_at s 12 % 4 ≡ 0) × (questions_start count s ≤ length s))

-- The third is: start at the end of the second, length a multiple of 4, end in the file, and at its end where there are three.
abbrev pub ThirdRight : ℕ → List ℕ → Type 0
ThirdRight count s = (u32_at s 16 ≡ questions_start count s) × ((u32_at s 20 % 4 ≡ 0) × ((set_start count s ≤ length s) × (count ≡ 3 → set_start count s ≡ length s)))

-- The fourth is: start at the end of the third, length 4, end at the file's end.
abbrev pub FourthRight : List ℕ → Type 0
FourthRight s = (u32_at s 24 ≡ set_start 4 s) × ((u32_at s 28 ≡ 4) × (set_end s ≡ length s))

-- ── what is wrong, and what is right ──

-- A file of three entries of which P holds with 3, or one of four of which it does with 4.
abbrev pub ThreeOrFour : List ℕ → (ℕ → Type 0) → Type 0
ThreeOrFour s P = (Three s × P 3) ⊎ (Four s × P 4)

-- What is wrong where the place is 0, 1, 2, 3 or 4. There is no other place.
abbrev pub Fault : List ℕ → ℕ → Type 0
Fault s zero = ThreeOrFour s (λ count. FirstRight count s → ⊥)
Fault s (suc zero) = ThreeOrFour s (λ count. FirstRight count s × (SecondRight count s → ⊥))
Fault s (suc (suc zero)) = ThreeOrFour s (λ count. FirstRight count s × (SecondRight count s × (ThirdRight count s → ⊥)))
Fault s (suc (suc (suc zero))) = Missized s
Fault s (suc (suc (suc (suc zero)))) = Four s × (FirstRight 4 s × (SecondRight 4 s × (ThirdRight 4 s × (FourthRight s → ⊥))))
Fault s (suc (suc (suc (suc (suc place))))) = ⊥

-- Nothing is wrong with a file of three entries, and with one of four.
abbrev pub RightThree : List ℕ → Type 0
RightThree s = Three s × (FirstRight 3 s × (SecondRight 3 s × ThirdRight 3 s))

abbrev pub RightFour : List ℕ → Type 0
RightFour s = Four s × (FirstRight 4 s × (SecondRight 4 s × (ThirdRight 4 s × FourthRight s)))

-- Nothing is wrong, and the questions start at q and the set at d, which in a file of three entries is its end.
abbrev pub Right : List ℕ → ℕ → ℕ → Type 0
Right s q d = (RightThree s × ((q ≡ questions_start 3 s) × (d ≡ length s))) ⊎ (RightFour s × ((q ≡ questions_start 4 s) × (d ≡ set_start 4 s)))

-- ── where the bodies stand ──

-- What a file says, whatever is asked of it.
abbrev pub Says : List ℕ → ((A : Type 0) → (ℕ → A) → (ℕ → ℕ → ℕ → ℕ → ℕ → ℕ → ℕ → ℕ → A) → A) → Type 1
Says s answer = (A : Type 0) (wrong : ℕ → A) (right : ℕ → ℕ → ℕ → ℕ → ℕ → ℕ → ℕ → ℕ → A) → entries_of wrong right s ≡ answer A wrong right

-- The set of a file of three entries is empty and stands at its end; that of a file of four has the last four bytes.
abbrev pub SetStands : List ℕ → ℕ → Type 0
SetStands s d = ((u32_at s 0 ≡ 32 → ⊥) × (d ≡ length s)) ⊎ ((u32_at s 0 ≡ 32) × (d + 4 ≡ length s))

-- A file whose questions start at q and whose set starts at d: whatever is asked of it, four stretches are told, one after another from the contents
-- to the end of the file. The first has 8 bytes; those of words and questions are whole numbers of four bytes.
pub record Stretches (s : List ℕ) (q d : ℕ) : Type 1 where
  pub low : contents_size (entries s) ≤ length s
  pub limit : length s ≤ file_limit
  pub nodes : words_start (entries s) s ≡ contents_size (entries s) + 8
  pub start : words_start (entries s) s ≤ q
  pub middle : q ≤ d
  pub end : d ≤ length s
  pub whole_words : (q - words_start (entries s) s) % 4 ≡ 0
  pub whole_questions : (d - q) % 4 ≡ 0
  pub set : SetStands s d
  pub says : Says s (λ A wrong right. right (contents_size (entries s)) (words_start (entries s) s) (words_start (entries s) s) q q d d (length s))
