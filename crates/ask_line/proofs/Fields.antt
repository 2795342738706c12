-- All fields of a line, one after another, and the room that they take.
use Prim.Native.Nat.{ℕ, ◌+◌, ◌≤◌, ◌<◌}
use mathlib.Core.Path.{◌≡◌, sym, ap, ◌∙◌}
use mathlib.Core.List.{List, [], ◌∷◌, ◌++◌, append_assoc}
use native.Mathlib.Omega.{arith}
use lib.ListN.{length, length-append}
use Rattle.ask_answer.proofs.Ends.{field_joins, word_space, number_room, answer_room}
use Rattle.question.specs.Table.{Asked}
use Rattle.text_field.specs.Decimal.{decimal}
use Rattle.ask_answer.specs.Ending.{field, last_field, answer_fields}
use Rattle.ask_line.specs.Line.{net_word, line_of}
use Rattle.text_field.proofs.Decimals.{few_digits}

-- Three fields of a line, one after another.
joins : (f g rest : List ℕ) → ((f ++ 32 ∷ []) ++ (g ++ 32 ∷ [])) ++ rest ≡ field f (field g rest)
joins f g rest = append_assoc (f ++ 32 ∷ []) (g ++ 32 ∷ []) rest ∙ field_joins f _ ∙ ap (field f) (field_joins g rest)

pub report_joins : (word : List ℕ) (n v b : ℕ) → ((word ++ 32 ∷ []) ++ (decimal n ++ 32 ∷ [])) ++ (decimal v ++ b ∷ []) ≡ field word (field (decimal n) (decimal v ++ b ∷ []))
report_joins word n v b = joins word (decimal n) (decimal v ++ b ∷ [])

-- Two numbers and one more.
pub refused_joins : (n i c : ℕ) → field net_word (field (decimal n) (decimal i ++ 32 ∷ [])) ++ (decimal c ++ 10 ∷ []) ≡ field net_word (field (decimal n) (field (decimal i) (last_field (decimal c))))
refused_joins n i c =
    ap (λ (l : List ℕ). l ++ (decimal c ++ 10 ∷ [])) (sym (report_joins net_word n i 32))
    ∙ append_assoc ((net_word ++ 32 ∷ []) ++ (decimal n ++ 32 ∷ [])) (decimal i ++ 32 ∷ []) _
    ∙ joins net_word (decimal n) _
    ∙ ap (λ (l : List ℕ). field net_word (field (decimal n) l)) (field_joins (decimal i) _)

pub line_joins : (x y : ℕ) (a : Asked) → ((decimal x ++ 32 ∷ []) ++ (decimal y ++ 32 ∷ [])) ++ answer_fields a ≡ line_of x y a
unfolding line_of
line_joins x y a = joins (decimal x) (decimal y) (answer_fields a)

-- A number of two bytes with the byte after it takes at most 6 bytes.
pub node_room : (n b : ℕ) → n < 65536 → length (decimal n ++ b ∷ []) ≤ 6
node_room n b h = simp length-append (omega (arith, few_digits 10 4 n (omega arith)))

-- Two of those at most 12.
pub pair_room : (x y : ℕ) → x < 65536 → y < 65536 → length ((decimal x ++ 32 ∷ []) ++ (decimal y ++ 32 ∷ [])) ≤ 12
pair_room x y h k = rw length-append (omega (arith, node_room x 32 h, node_room y 32 k))

-- A word and a number take at most 12 bytes more than the word.
pub report_room : (word : List ℕ) (n : ℕ) → length ((word ++ 32 ∷ []) ++ (decimal n ++ 32 ∷ [])) ≤ length word + 12
report_room word n = rw length-append (omega (arith, word_space word, number_room n 32))

-- And with a second number at most 23 more.
pub report_whole : (word : List ℕ) (n v b : ℕ) → length (field word (field (decimal n) (decimal v ++ b ∷ []))) ≤ length word + 23
report_whole word n v b = rw (← report_joins word n v b, length-append) (omega (arith, report_room word n, number_room v b))

-- A question's line takes at most 31.
pub line_room_lem : (x y : ℕ) (a : Asked) → x < 65536 → y < 65536 → length (line_of x y a) ≤ 31
line_room_lem x y a h k = rw (← line_joins x y a, length-append) (omega (arith, pair_room x y h k, answer_room a))
