-- Lines as numbers: four a line, its statement as a link word, its rule (0 for a link, 1 to 5 for (3.1) to (3.5)), and up to two numbers, 0 where there is none.
use Rattle.std.specs.Prelude.{ℕ, ◌-◌, cond, ◌&&◌, List, [], ◌∷◌, eqb, get_or, take, drop}
use Rattle.theory.specs.Words.{word, tail_of, head_of, sign_of}
use Rattle.derivation_lines.specs.Lines.{Line, line, Ground, link, r1, r2, r3, r4, r5, none}
use Rattle.derivation_lines.specs.Deriving.{derive}

-- The rule of a ground, the link's index or the first line's number, and the second line's number.
abbrev pub rule_of : Ground → ℕ
rule_of (link i) = 0
rule_of r1 = 1
rule_of (r2 i j) = 2
rule_of (r3 i) = 3
rule_of (r4 i j) = 4
rule_of (r5 i j) = 5
rule_of none = 6

abbrev pub one_of : Ground → ℕ
one_of (link i) = i
one_of r1 = 0
one_of (r2 i j) = i
one_of (r3 i) = i
one_of (r4 i j) = i
one_of (r5 i j) = i
one_of none = 0

abbrev pub two_of : Ground → ℕ
two_of (link i) = 0
two_of r1 = 0
two_of (r2 i j) = j
two_of (r3 i) = 0
two_of (r4 i j) = j
two_of (r5 i j) = j
two_of none = 0

-- Lines as they are written.
unfoldable pub flat : List Line → List ℕ
flat [] = []
flat (l ∷ ls) = word l.tail l.head l.sign ∷ rule_of l.ground ∷ one_of l.ground ∷ two_of l.ground ∷ flat ls

-- The ground with this rule. A place that the rule does not use has to be 0, or there is no ground: so a line is written in one way.
abbrev pub ground_at : ℕ → ℕ → ℕ → Ground
ground_at r i j =
    cond (eqb r 0) (cond (eqb j 0) (link i) none)
    (cond (eqb r 1) (cond (eqb i 0 && eqb j 0) r1 none)
    (cond (eqb r 2) (r2 i j)
    (cond (eqb r 3) (cond (eqb j 0) (r3 i) none)
    (cond (eqb r 4) (r4 i j)
    (cond (eqb r 5) (r5 i j) none)))))

-- The line that four numbers make, and the lines that a list of numbers makes.
abbrev pub line_at : ℕ → ℕ → ℕ → ℕ → Line
line_at w r i j = line (tail_of w) (head_of w) (sign_of w) (ground_at r i j)

unfoldable pub lines_of : List ℕ → List Line
lines_of [] = []
lines_of (w ∷ []) = []
lines_of (w ∷ r ∷ []) = []
lines_of (w ∷ r ∷ i ∷ []) = []
lines_of (w ∷ r ∷ i ∷ j ∷ l) = line_at w r i j ∷ lines_of l

-- The derivation from a reason as it is written: size of the first part, size of the second, the nodes.
abbrev pub derive_list : ℕ → ℕ → List ℕ → List ℕ → List Line
derive_list o set ws l = derive o set ws (get_or l 2 0) (take (get_or l 0 0 - 1) (drop 3 l)) (drop (get_or l 0 0 - 1) (drop 3 l))
