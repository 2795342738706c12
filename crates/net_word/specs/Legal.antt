-- The test of one word, plain or with an origin, and why a word fails it.
use Rattle.std.specs.Prelude.{ℕ, ◌+◌, ◌<◌, ◌≤◌, Bool, cond, ◌&&◌, ltb, leb}
use Rattle.theory.specs.Words.{tail_of, head_of}
use Rattle.theory.specs.Nets.{Kind}
use Rattle.theory.specs.Origins.{origin_of, plain_of, origin_limit}
use Rattle.net_word.specs.declared.Cause.{Cause}
use Rattle.net_word.specs.declared.Cause.TheVariants.{Tail, Head, Origin}

-- In a net of n nodes, the first o of them objects: the tail is a node and the head a kind.
abbrev pub legal : ℕ → ℕ → ℕ → Bool
legal o n w = ltb (tail_of w) n && (leb o (head_of w) && ltb (head_of w) n)

-- The origin is at most top, and the plain word passes. The words of a net have origins up to `origin_limit`.
abbrev pub legal_from : ℕ → ℕ → ℕ → ℕ → Bool
legal_from top o n w = leb (origin_of w) top && legal o n (plain_of w)

-- What is wrong with a plain word: its tail is no node; or its tail is one, and its head is no kind.
abbrev pub BecausePlain : ℕ → ℕ → ℕ → Cause → Type 0
BecausePlain o k w Tail = tail_of w < o + k → ⊥
BecausePlain o k w Head = (tail_of w < o + k) × (Kind o k (head_of w) → ⊥)
BecausePlain o k w Origin = ⊥

-- What is wrong with a word that may have an origin: the origin is above 3; or it is not, and the same of the plain word.
abbrev pub Because : ℕ → ℕ → ℕ → Cause → Type 0
Because o k w Origin = origin_of w ≤ origin_limit → ⊥
Because o k w Tail = (origin_of w ≤ origin_limit) × (tail_of (plain_of w) < o + k → ⊥)
Because o k w Head = (origin_of w ≤ origin_limit) × (tail_of (plain_of w) < o + k) × (Kind o k (head_of (plain_of w)) → ⊥)

-- Which it is of an illegal word: the origin is looked at before the tail, the tail before the head.
abbrev pub plain_cause : ℕ → ℕ → Cause
plain_cause n w = cond (leb n (tail_of w)) Tail Head

abbrev pub cause_of : ℕ → ℕ → Cause
cause_of n w = cond (leb (origin_of w) origin_limit) (plain_cause n (plain_of w)) Origin

-- The number of a cause.
abbrev pub cause_number : Cause → ℕ
cause_number Tail = 1
cause_number Head = 2
cause_number Origin = 3
