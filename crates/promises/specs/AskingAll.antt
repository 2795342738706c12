-- What is promised of a screenful of questions ([1]): it is the single questions of its pairs, asked one after another.
use Rattle.std.specs.Prelude.{ℕ, zero, suc, ◌+◌, ◌≤◌, ◌<◌, ◌≡◌, Bool, true, ◌||◌, List, [], ◌∷◌, ◌↔◌, eqb, length, get_or, drop, Ok}
use Rattle.theory_laws.specs.Over.{over}
use Rattle.theory.specs.Words.{Sign, is, isnt}
use Rattle.theory.specs.Nets.{Links}
use Rattle.theory.specs.Support.{Supported}
use Rattle.theory.specs.Origins.{chosen}
use Rattle.net.specs.Good.{GoodPair}
use Rattle.questions.specs.Pairs.{pairs_in, subject_at, kind_at, LastGood}
use Rattle.questions.specs.Table.{asked_byte}
use Rattle.promises.specs.Engines.{Engine}

-- Whether a byte says yes, or no: 3 says each, 0 and 255 say neither.
abbrev pub byte_says : ℕ → Sign → Bool
byte_says b is = eqb b 1 || eqb b 3
byte_says b isnt = eqb b 2 || eqb b 3

-- The single questions of j pairs, from pair i on, each asked with the marks that the one before it left: their bytes, and the marks after the last.
unfoldable pub bytes_in_turn : Engine → ℕ → ℕ → List ℕ → ℕ → List ℕ → ℕ → ℕ → List ℕ → List ℕ
bytes_in_turn e o k ws set ps i zero m = []
bytes_in_turn e o k ws set ps i (suc j) m =
    asked_byte (e.question o k ws set (subject_at ps i) (kind_at ps i) m).answer
    ∷ bytes_in_turn e o k ws set ps (suc i) j (e.question o k ws set (subject_at ps i) (kind_at ps i) m).marks

unfoldable pub marks_in_turn : Engine → ℕ → ℕ → List ℕ → ℕ → List ℕ → ℕ → ℕ → List ℕ → List ℕ
marks_in_turn e o k ws set ps i zero m = m
marks_in_turn e o k ws set ps i (suc j) m = marks_in_turn e o k ws set ps (suc i) j (e.question o k ws set (subject_at ps i) (kind_at ps i) m).marks

-- Of a screenful that is done:
pub record AskingAll (e : Engine) : Type 0 where
  -- It is as asking in turn: its bytes in front of the lent ones, and the marks.
  pub in_turn : (o k : ℕ) (ws : List ℕ) (set : ℕ) (ps bs m : List ℕ) → (e.questions o k ws set ps bs m).answer ≡ Ok tt
      → ((e.questions o k ws set ps bs m).answers ≡ over (bytes_in_turn e o k ws set ps 0 (pairs_in ps) m) bs) × ((e.questions o k ws set ps bs m).marks ≡ marks_in_turn e o k ws set ps 0 (pairs_in ps) m)
  -- The byte of each pair is that of the single question, with whatever marks that are long enough.
  pub each : (o k : ℕ) (ws : List ℕ) (set : ℕ) (ps bs m : List ℕ) → (e.questions o k ws set ps bs m).answer ≡ Ok tt → (i : ℕ) → i < pairs_in ps → (l : List ℕ) → o + k ≤ length l
      → get_or (e.questions o k ws set ps bs m).answers i 0 ≡ asked_byte (e.question o k ws set (subject_at ps i) (kind_at ps i) l).answer
  -- It is 255 exactly for a bad pair.
  pub bad : (o k : ℕ) (ws : List ℕ) (set : ℕ) (ps bs m : List ℕ) → (e.questions o k ws set ps bs m).answer ≡ Ok tt → (i : ℕ) → i < pairs_in ps
      → (get_or (e.questions o k ws set ps bs m).answers i 0 ≡ 255) ↔ (GoodPair o (o + k) (subject_at ps i) (kind_at ps i) → ⊥)
  -- That of a good pair says yes exactly if x → y is supported, no exactly if x ↛ y is.
  pub supported : (o k : ℕ) (ws : List ℕ) (set : ℕ) (ps bs m : List ℕ) → (e.questions o k ws set ps bs m).answer ≡ Ok tt → (i : ℕ) → i < pairs_in ps
      → GoodPair o (o + k) (subject_at ps i) (kind_at ps i)
      → (s : Sign) → (byte_says (get_or (e.questions o k ws set ps bs m).answers i 0) s ≡ true) ↔ Supported o k (Links (chosen set ws)) (subject_at ps i) (kind_at ps i) s
  -- The bytes behind the pairs' are as they were.
  pub behind : (o k : ℕ) (ws : List ℕ) (set : ℕ) (ps bs m : List ℕ) → (e.questions o k ws set ps bs m).answer ≡ Ok tt
      → (length (e.questions o k ws set ps bs m).answers ≡ length bs) × (drop (pairs_in ps) (e.questions o k ws set ps bs m).answers ≡ drop (pairs_in ps) bs)
  -- The marks are those that the last good pair's question leaves; where no pair is good they are as they were.
  pub last : (o k : ℕ) (ws : List ℕ) (set : ℕ) (ps bs m : List ℕ) → (e.questions o k ws set ps bs m).answer ≡ Ok tt → (i : ℕ) → LastGood o (o + k) ps i
      → (e.questions o k ws set ps bs m).marks ≡ (e.question o k ws set (subject_at ps i) (kind_at ps i) m).marks
  pub none : (o k : ℕ) (ws : List ℕ) (set : ℕ) (ps bs m : List ℕ) → (e.questions o k ws set ps bs m).answer ≡ Ok tt
      → ((i : ℕ) → i < pairs_in ps → GoodPair o (o + k) (subject_at ps i) (kind_at ps i) → ⊥) → (e.questions o k ws set ps bs m).marks ≡ m
