-- The fields at the end of a line, and the room that they take.
use Rattle.std.specs.Prelude.{Err, Ok}
use Prim.Native.Nat.{ℕ, ◌+◌, ◌≤◌}
use mathlib.Core.Path.{◌≡◌}
use mathlib.Core.List.{List, [], ◌∷◌, ◌++◌, append_assoc}
use native.Mathlib.Omega.{arith}
use lib.ListN.{length, length-append}
use Rattle.net.specs.Table.{Reply, refusal_reply}
use Rattle.net.specs.declared.Refusal.{Refusal}
use Rattle.question.specs.declared.Answer.{Answer}
use Rattle.question.specs.declared.Answer.TheVariants.{None, Yes, No, Both}
use Rattle.question.specs.Table.{Asked}
use Rattle.text_field.specs.Decimal.{decimal}
use Rattle.ask_answer.specs.Ending.{field, refused_word, answer_word, answer_fields}
use Rattle.text_field.proofs.Decimals.{most_digits}

-- The space after a field joins it to the next one.
pub field_joins : (f rest : List ℕ) → (f ++ 32 ∷ []) ++ rest ≡ field f rest
field_joins f rest = append_assoc f (32 ∷ []) rest

-- One of the four words.
pub word_of : {a v : Answer} → a ≡ v → answer_word v ++ 32 ∷ [] ≡ answer_word a ++ 32 ∷ []
word_of e = rw e

-- What follows x and y, for an answer and for a refusal.
pub done_fields : {q : Asked} {a : Answer} {count : ℕ} → q ≡ Ok (a, count) → (answer_word a ++ 32 ∷ []) ++ (decimal count ++ 10 ∷ []) ≡ answer_fields q
done_fields {a = a} e = rw e (field_joins (answer_word a) _)

pub refused_fields : {q : Asked} {r : Refusal} {given : Reply} → q ≡ Err r → given ≡ refusal_reply r
    → (refused_word ++ 32 ∷ []) ++ (decimal given.number ++ 10 ∷ []) ≡ answer_fields q
refused_fields e f = rw (e, f)

-- A field with its space takes one byte more.
pub word_space : (f : List ℕ) → length (f ++ 32 ∷ []) ≡ length f + 1
word_space f = length-append f (32 ∷ [])

-- A number with the byte after it takes at most 11 bytes.
pub number_room : (n b : ℕ) → length (decimal n ++ b ∷ []) ≤ 11
number_room n b = simp length-append (omega (arith, most_digits 10 n))

-- A word takes at most 4, and 5 with its space.
pub word_size : (a : Answer) → length (answer_word a) ≤ 4
word_size None = omega arith
word_size Yes = omega arith
word_size No = omega arith
word_size Both = omega arith

pub word_room : (a : Answer) → length (answer_word a ++ 32 ∷ []) ≤ 5
word_room a = simp length-append (omega (arith, word_size a))

-- The end of a question's line takes at most 19.
pub answer_room : (a : Asked) → length (answer_fields a) ≤ 19
answer_room (Ok (a, count)) = simp length-append (omega (arith, word_size a, most_digits 10 count))
answer_room (Err r) = simp length-append (omega (arith, most_digits 10 (refusal_reply r).number))
