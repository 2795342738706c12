-- The word of document 01, by its forward scan, beside the word that a question gives.
use Rattle.std.specs.Prelude.{ℕ, ◌+◌, ◌*◌, cond, List, get_or}
use Rattle.theory.specs.Marks.{T, F, has}
use Rattle.theory.specs.Forward.{forward_scan}
use Rattle.question.specs.declared.Answer.{Answer}
use Rattle.question.specs.declared.Answer.TheVariants.{None, Yes, No, Both}

-- What a byte at a kind says after the forward scan: T is yes, F is no.
abbrev pub forward_answer : ℕ → Answer
forward_answer b = cond (has T b) (cond (has F b) Both Yes) (cond (has F b) No None)

-- The word about x and y: the byte at y after the forward scan from x with its 2N rounds.
abbrev pub forward_word : ℕ → ℕ → List ℕ → ℕ → ℕ → Answer
forward_word o k ws x y = forward_answer (get_or (forward_scan (o + k) ws x (2 * (o + k))).marks y 0)
