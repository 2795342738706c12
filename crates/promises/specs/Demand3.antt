-- Demand 3: a completed list holds just what the chosen words support; and the laws of completed and of joined nets, over what the engine answers.
-- Nets are over one set of nodes. Words are chosen, and their origins removed, before anything is completed or joined; plain lists are joined inside the
-- limit on words, and they are read with a set that has origin 0.
use mathlib.Core.List.{List, ◌++◌, Memᴰ}
use Rattle.std.specs.Prelude.{ℕ, ◌+◌, ◌≤◌, ◌<◌, ◌≡◌, Bool, true, false, ◌↔◌, length, drop, Err, Ok}
use Rattle.theory.specs.Words.{Sign, tail_of, word_limit}
use Rattle.theory.specs.Nets.{Net}
use Rattle.theory.specs.Origins.{chosen}
use Rattle.theory.specs.Completion.{Lists}
use Rattle.scan_start.specs.Starts.{cleared}
use Rattle.question.specs.Table.{Asked}
use Rattle.completion.specs.Table.{completion_outcome}
use Rattle.completion.specs.declared.CompletionError.TheVariants as completed
use Rattle.promises.specs.Engines.{Engine, Read, HasZero}
use Rattle.promises.specs.Demand2.{says}

-- The word of an answer, without the rounds.
abbrev pub word_of : Asked → Asked
word_of (Ok (a, count)) = Ok (a, 0)
word_of (Err r) = Err r

-- Whether an answer says yes, or no; a refusal says neither.
abbrev pub said_by : Asked → Sign → Bool
said_by (Ok (a, count)) s = says a s
said_by (Err r) s = false

-- The engine completes the words that the set chooses to `out`: whatever it is lent that is long enough, it writes `out` in front of the list, gives its
-- size and clears the marks.
abbrev pub CompletesTo : Engine → ℕ → ℕ → List ℕ → ℕ → List ℕ → Type 0
CompletesTo e o k ws set out = (m l : List ℕ) → o + k ≤ length m → length out ≤ length l
    → e.completion o k ws set m l ≡ completion_outcome (Ok (length out)) (cleared (o + k) m) (out ++ drop (length out) l)

-- Two plain nets that may be joined.
pub record Joined (o k : ℕ) (ws vs : List ℕ) : Type 0 where
  pub left : Net o k ws
  pub right : Net o k vs
  pub short : length (ws ++ vs) ≤ word_limit

-- The engine gives every question the same word over two lists read with one set.
abbrev pub SameWord : Engine → ℕ → ℕ → ℕ → List ℕ → List ℕ → Type 0
SameWord e o k set ws vs = (x y : ℕ) (m : List ℕ) → word_of (e.question o k ws set x y m).answer ≡ word_of (e.question o k vs set x y m).answer

-- Below, ws is read with `set`, and what is completed or joined with z.
pub record Demand3 (e : Engine) : Type 0 where
  -- A net is completed to the words that its chosen ones support, ascending, none twice, and no others.
  pub lists : (o k : ℕ) (ws : List ℕ) (set : ℕ) → Read o k ws set → (out : List ℕ) × CompletesTo e o k ws set out × Lists o k (chosen set ws) out
  -- Where the list is too short, the number given is the number of supported words.
  pub needs : (o k : ℕ) (ws : List ℕ) (set : ℕ) (m l : List ℕ) (n : ℕ) → (e.completion o k ws set m l).answer ≡ Err (completed.Short n)
      → (out : List ℕ) → Lists o k (chosen set ws) out → (n ≡ length out) × (length l < n)
  -- A completed list is completed to itself.
  pub again : (o k : ℕ) (ws : List ℕ) (set z : ℕ) → Read o k ws set → HasZero z → (out : List ℕ) → CompletesTo e o k ws set out → CompletesTo e o k out z out
  -- A joined net is completed to the same list where its left part was completed before, and where its right part was.
  pub part : (o k : ℕ) (ws : List ℕ) (set z : ℕ) → Read o k ws set → HasZero z → (vs out all : List ℕ) → Joined o k (chosen set ws) vs → CompletesTo e o k ws set out
      → length (out ++ vs) ≤ word_limit → CompletesTo e o k (chosen set ws ++ vs) z all ↔ CompletesTo e o k (out ++ vs) z all
  pub part_right : (o k : ℕ) (ws : List ℕ) (set z : ℕ) → Read o k ws set → HasZero z → (vs out all : List ℕ) → Joined o k vs (chosen set ws) → CompletesTo e o k ws set out
      → length (vs ++ out) ≤ word_limit → CompletesTo e o k (vs ++ chosen set ws) z all ↔ CompletesTo e o k (vs ++ out) z all
  -- Two nets, each read with its set, are completed to one list exactly if no third net that may be joined to each lets a question tell them apart.
  pub alike : (o k : ℕ) (ws : List ℕ) (set : ℕ) (vs : List ℕ) (set' z : ℕ) → Read o k ws set → Read o k vs set' → HasZero z → (a b : List ℕ)
      → CompletesTo e o k ws set a → CompletesTo e o k vs set' b
      → (a ≡ b) ↔ ((us : List ℕ) → Joined o k (chosen set ws) us → Joined o k (chosen set' vs) us → SameWord e o k z (chosen set ws ++ us) (chosen set' vs ++ us))
  -- A yes or a no stays when links are joined.
  pub keeps : (o k : ℕ) (ws : List ℕ) (set z : ℕ) → Read o k ws set → HasZero z → (vs : List ℕ) → Joined o k (chosen set ws) vs → (x y : ℕ) (m : List ℕ) (s : Sign)
      → said_by (e.question o k ws set x y m).answer s ≡ true → said_by (e.question o k (chosen set ws ++ vs) z x y m).answer s ≡ true
  -- Links of one object leave the word of every question about another subject as it was.
  pub others : (o k : ℕ) (ws : List ℕ) (set z : ℕ) → Read o k ws set → HasZero z → (vs : List ℕ) → Joined o k (chosen set ws) vs
      → (a : ℕ) → a < o → ((w : ℕ) → Memᴰ w vs → tail_of w ≡ a)
      → (x y : ℕ) (m : List ℕ) → (x ≡ a → ⊥) → word_of (e.question o k (chosen set ws ++ vs) z x y m).answer ≡ word_of (e.question o k ws set x y m).answer
