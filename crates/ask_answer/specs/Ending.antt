-- The fields of a line, and those that end a question's.
use Rattle.std.specs.Prelude.{ℕ, List, [], ◌∷◌, ◌++◌, Err, Ok}
use Rattle.net.specs.Table.{refusal_reply}
use Rattle.text_field.specs.Decimal.{decimal}
use Rattle.question.specs.declared.Answer.{Answer}
use Rattle.question.specs.declared.Answer.TheVariants.{None, Yes, No, Both}
use Rattle.question.specs.Table.{Asked}

-- A field and the space after it, or at the end of a line the byte 10.
abbrev pub field : List ℕ → List ℕ → List ℕ
field f rest = f ++ (32 ∷ rest)

abbrev pub last_field : List ℕ → List ℕ
last_field f = f ++ (10 ∷ [])

-- The word refused.
abbrev pub refused_word : List ℕ
refused_word = 114 ∷ 101 ∷ 102 ∷ 117 ∷ 115 ∷ 101 ∷ 100 ∷ []

-- The four words none, yes, no and both.
abbrev pub answer_word : Answer → List ℕ
answer_word None = 110 ∷ 111 ∷ 110 ∷ 101 ∷ []
answer_word Yes = 121 ∷ 101 ∷ 115 ∷ []
answer_word No = 110 ∷ 111 ∷ []
answer_word Both = 98 ∷ 111 ∷ 116 ∷ 104 ∷ []

-- What follows x and y in a question's line: the word and the count, or `refused` and the number.
abbrev pub answer_fields : Asked → List ℕ
answer_fields (Ok (a, count)) = field (answer_word a) (last_field (decimal count))
answer_fields (Err r) = field refused_word (last_field (decimal (refusal_reply r).number))
