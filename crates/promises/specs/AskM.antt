-- The net file of net M with its five questions, and the lines that `ask` has to print for it.
use Rattle.std.specs.Prelude.{ℕ, List, [], ◌∷◌}

-- Contents, nodes, words and questions, 72 bytes.
abbrev pub file_m : List ℕ
file_m =
    24 ∷ 0 ∷ 0 ∷ 0 ∷ 8 ∷ 0 ∷ 0 ∷ 0
    ∷ 32 ∷ 0 ∷ 0 ∷ 0 ∷ 20 ∷ 0 ∷ 0 ∷ 0
    ∷ 52 ∷ 0 ∷ 0 ∷ 0 ∷ 20 ∷ 0 ∷ 0 ∷ 0
    ∷ 2 ∷ 0 ∷ 0 ∷ 0 ∷ 4 ∷ 0 ∷ 0 ∷ 0
    ∷ 4 ∷ 0 ∷ 0 ∷ 0 ∷ 10 ∷ 8 ∷ 0 ∷ 0 ∷ 7 ∷ 16 ∷ 0 ∷ 0 ∷ 6 ∷ 32 ∷ 0 ∷ 0 ∷ 8 ∷ 40 ∷ 0 ∷ 0
    ∷ 0 ∷ 0 ∷ 4 ∷ 0 ∷ 1 ∷ 0 ∷ 4 ∷ 0 ∷ 2 ∷ 0 ∷ 5 ∷ 0 ∷ 3 ∷ 0 ∷ 4 ∷ 0 ∷ 3 ∷ 0 ∷ 0 ∷ 0
    ∷ []

-- The five lines: 0 4 no 5, 1 4 yes 5, 2 5 no 5, 3 4 none 4, 3 0 refused 4.
abbrev pub printed_m : List ℕ
printed_m =
    48 ∷ 32 ∷ 52 ∷ 32 ∷ 110 ∷ 111 ∷ 32 ∷ 53 ∷ 10
    ∷ 49 ∷ 32 ∷ 52 ∷ 32 ∷ 121 ∷ 101 ∷ 115 ∷ 32 ∷ 53 ∷ 10
    ∷ 50 ∷ 32 ∷ 53 ∷ 32 ∷ 110 ∷ 111 ∷ 32 ∷ 53 ∷ 10
    ∷ 51 ∷ 32 ∷ 52 ∷ 32 ∷ 110 ∷ 111 ∷ 110 ∷ 101 ∷ 32 ∷ 52 ∷ 10
    ∷ 51 ∷ 32 ∷ 48 ∷ 32 ∷ 114 ∷ 101 ∷ 102 ∷ 117 ∷ 115 ∷ 101 ∷ 100 ∷ 32 ∷ 52 ∷ 10
    ∷ []
