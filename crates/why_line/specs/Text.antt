-- A line of a derivation as text: two spaces, its number from 1 on, two spaces, the statement, spaces, and link and the index, with the link's origin
-- where origins are told, or the rule and the numbers of the lines that it is used on.
use Rattle.std.specs.Prelude.{ℕ, suc, ◌+◌, Bool, cond, List, [], ◌∷◌, ◌++◌, get_or}
use Rattle.theory.specs.Words.{Sign, is, isnt}
use Rattle.theory.specs.Origins.{origin_of}
use Rattle.text_field.specs.Decimal.{decimal}
use Rattle.derivation_lines.specs.Lines.{Line, Ground, link, r1, r2, r3, r4, r5, none}

-- Bytes that do for any line.
abbrev pub line_room : ℕ
line_room = 85

-- A word, a space, a number in decimal, and the byte after it.
abbrev pub named : List ℕ → ℕ → ℕ → List ℕ
named word n after = (word ++ (32 ∷ [])) ++ (decimal n ++ (after ∷ []))

-- The words is and is-not.
abbrev pub is_word : List ℕ
is_word = 105 ∷ 115 ∷ []

abbrev pub isnt_word : List ℕ
isnt_word = 105 ∷ 115 ∷ 45 ∷ 110 ∷ 111 ∷ 116 ∷ []

-- The words link, origin, 3.1, 3.2 from, 3.3 from, 3.4 from and 3.5 from, and none.
abbrev pub link_word : List ℕ
link_word = 108 ∷ 105 ∷ 110 ∷ 107 ∷ []

abbrev pub origin_word : List ℕ
origin_word = 111 ∷ 114 ∷ 105 ∷ 103 ∷ 105 ∷ 110 ∷ []

abbrev pub rule_word : ℕ → List ℕ
rule_word digit = 51 ∷ 46 ∷ digit ∷ []

abbrev pub from_word : ℕ → List ℕ
from_word digit = 51 ∷ 46 ∷ digit ∷ 32 ∷ 102 ∷ 114 ∷ 111 ∷ 109 ∷ []

abbrev pub none_word : List ℕ
none_word = 110 ∷ 111 ∷ 110 ∷ 101 ∷ []

-- The sign and the head: six spaces follow the head of is, two that of is-not, so that grounds line up where numbers have as many digits.
unfoldable pub said_text : Sign → ℕ → List ℕ
said_text is y = named is_word y 32 ++ (32 ∷ 32 ∷ 32 ∷ 32 ∷ 32 ∷ [])
said_text isnt y = named isnt_word y 32 ++ (32 ∷ [])

-- A link by its index and, where origins are told, by its origin.
unfoldable pub link_text : Bool → ℕ → ℕ → List ℕ
link_text told origin i = cond told (named link_word i 32 ++ named origin_word origin 10) (named link_word i 10)

-- One line or two that a rule is used on, numbered from 1 on.
unfoldable pub from_one : ℕ → ℕ → List ℕ
from_one digit i = named (from_word digit) (i + 1) 10

unfoldable pub from_two : ℕ → ℕ → ℕ → List ℕ
from_two digit i j = named (from_word digit) (i + 1) 32 ++ (decimal (j + 1) ++ (10 ∷ []))

-- Where a line comes from.
abbrev pub ground_text : Bool → List ℕ → Ground → List ℕ
ground_text told ws (link i) = link_text told (origin_of (get_or ws i 0)) i
ground_text told ws r1 = rule_word 49 ++ (10 ∷ [])
ground_text told ws (r2 i j) = from_two 50 i j
ground_text told ws (r3 i) = from_one 51 i
ground_text told ws (r4 i j) = from_two 52 i j
ground_text told ws (r5 i j) = from_two 53 i j
ground_text told ws none = none_word ++ (10 ∷ [])

-- The number of line n, counted from 1 on, and the tail.
unfoldable pub front_text : ℕ → ℕ → List ℕ
front_text n x = named (32 ∷ []) (n + 1) 32 ++ named [] x 32

-- Line n.
unfoldable pub line_text : Bool → List ℕ → ℕ → Line → List ℕ
line_text told ws n l = (front_text n l.tail ++ said_text l.sign l.head) ++ ground_text told ws l.ground

-- These lines, the first of which is line n.
unfoldable pub lines_text : Bool → List ℕ → ℕ → List Line → List ℕ
lines_text told ws n [] = []
lines_text told ws n (l ∷ ls) = line_text told ws n l ++ lines_text told ws (suc n) ls
