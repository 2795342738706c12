-- What is promised of mending ([9]): which words are kept, that they have no clash, and what every dropped word clashes at.
use mathlib.Core.List.{List, [], ◌∷◌, ◌++◌, Memᴰ}
use Rattle.std.specs.Prelude.{ℕ, ◌+◌, ◌*◌, ◌≤◌, ◌≡◌, length, None, Ok}
use Rattle.theory_laws.specs.Over.{over}
use Rattle.theory.specs.Nets.{Net}
use Rattle.theory.specs.Clashes.{ClashAt, ClashFree}
use Rattle.theory.specs.Mending.{DroppedWord, threes, Mended, PartOf, Rejected}
use Rattle.scan_start.specs.Starts.{cleared}
use Rattle.mend.specs.Table.{mending_outcome}
use Rattle.promises.specs.Engines.{Engine, HasZero}

-- The engine mends ws to the kept words `out` and the dropped words ds: whatever it is lent that has room, it writes each in front of its list, gives both
-- counts and clears the marks.
abbrev pub MendsTo : Engine → ℕ → ℕ → List ℕ → List ℕ → List DroppedWord → Type 0
MendsTo e o k ws out ds = (kept dropped m : List ℕ) → o + k ≤ length m → length ws ≤ length kept → 3 * length ws ≤ length dropped
    → e.mending o k ws kept dropped m ≡ mending_outcome (Ok (length out, length ds)) (over out kept) (over (threes ds) dropped) (cleared (o + k) m)

pub record Mending (e : Engine) : Type 0 where
  -- A net is mended word by word in listed order: a word is kept exactly if those kept so far have no clash together with it.
  pub lists : (o k : ℕ) (ws : List ℕ) → Net o k ws → (out : List ℕ) × (ds : List DroppedWord) × MendsTo e o k ws out ds × Mended o k [] ws out ds
  -- The kept words are a part of the words read, in their order, and together with the dropped ones they are as many.
  pub part : (o k : ℕ) (ws : List ℕ) → Net o k ws → (out : List ℕ) (ds : List DroppedWord) → MendsTo e o k ws out ds → PartOf out ws × (length out + length ds ≡ length ws)
  -- They have no clash; so the clash test gives number 7.
  pub free : (o k : ℕ) (ws : List ℕ) → Net o k ws → (out : List ℕ) (ds : List DroppedWord) → MendsTo e o k ws out ds → ClashFree o k out
  pub tested : (o k : ℕ) (ws : List ℕ) → Net o k ws → (out : List ℕ) (ds : List DroppedWord) → MendsTo e o k ws out ds → (z : ℕ) → HasZero z → (m : List ℕ) → o + k ≤ length m
      → (e.clash_test o k out z m).answer ≡ Ok None
  -- A dropped word has the smallest clash that it makes with a front part of the kept words: those kept before it, as `lists` says,
  pub smallest : (o k : ℕ) (ws : List ℕ) → Net o k ws → (out : List ℕ) (ds : List DroppedWord) → MendsTo e o k ws out ds → (d : DroppedWord) → Memᴰ d ds → Rejected o k out d
  -- and put back among all kept words it makes a clash there.
  pub back : (o k : ℕ) (ws : List ℕ) → Net o k ws → (out : List ℕ) (ds : List DroppedWord) → MendsTo e o k ws out ds → (d : DroppedWord) → Memᴰ d ds
      → ClashAt o k (out ++ d.word ∷ []) d.node d.kind
  -- A net without clashes is kept whole, word for word.
  pub unchanged : (o k : ℕ) (ws : List ℕ) → Net o k ws → (out : List ℕ) (ds : List DroppedWord) → MendsTo e o k ws out ds → ClashFree o k ws → (out ≡ ws) × (ds ≡ [])
