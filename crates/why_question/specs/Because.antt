-- What `why` prints for one question.
use Rattle.std.specs.Prelude.{ℕ, ◌+◌, ◌*◌, Bool, List, [], ◌∷◌, ◌++◌, Err, Ok}
use Rattle.theory.specs.Marks.{blank}
use Rattle.question.specs.Table.{questioned}
use Rattle.question.specs.declared.Answer.{Answer}
use Rattle.question.specs.declared.Answer.TheVariants.{None, Yes, No, Both}
use Rattle.question.specs.Table.{Asked}
use Rattle.ask_line.specs.Line.{line_of}
use Rattle.why_reason.specs.Told.{derivation_room, why_text}

-- Bytes that do for two derivations, and for the line of `ask`, of at most 31, above them.
abbrev pub both_room : ℕ
both_room = 2 * derivation_room

abbrev pub question_room : ℕ
question_room = 31 + both_room

-- The line for an answer none: two spaces, and the words the net is silent.
abbrev pub silent_line : List ℕ
silent_line = 32 ∷ 32 ∷ 116 ∷ 104 ∷ 101 ∷ 32 ∷ 110 ∷ 101 ∷ 116 ∷ 32 ∷ 105 ∷ 115 ∷ 32 ∷ 115 ∷ 105 ∷ 108 ∷ 101 ∷ 110 ∷ 116 ∷ 10 ∷ []

-- Why x → y, and then why x ↛ y.
unfoldable pub both_text : Bool → ℕ → ℕ → List ℕ → ℕ → ℕ → ℕ → List ℕ
both_text told o k ws set x y = why_text told o k ws set x y 0 ++ why_text told o k ws set x y 1

-- Why an answer is given: the derivation of what it says, of both for both; for none, that the net is silent.
unfoldable pub because_text : Bool → ℕ → ℕ → List ℕ → ℕ → ℕ → ℕ → Answer → List ℕ
because_text told o k ws set x y None = silent_line
because_text told o k ws set x y Yes = why_text told o k ws set x y 0
because_text told o k ws set x y No = why_text told o k ws set x y 1
because_text told o k ws set x y Both = both_text told o k ws set x y

-- The same of what a question gave: nothing where it was refused.
unfoldable pub asked_text : Bool → ℕ → ℕ → List ℕ → ℕ → ℕ → ℕ → Asked → List ℕ
asked_text told o k ws set x y (Ok (a, count)) = because_text told o k ws set x y a
asked_text told o k ws set x y (Err r) = []

-- The line of `ask`, and below it why.
unfoldable pub question_text : Bool → ℕ → ℕ → List ℕ → ℕ → ℕ → ℕ → List ℕ
question_text told o k ws set x y =
    line_of x y (questioned o k ws set x y (blank 1024)).answer ++ asked_text told o k ws set x y (questioned o k ws set x y (blank 1024)).answer
