-- The written program for the merged scan ([8]).
use Rattle.std.specs.Prelude.{ℕ, ◌+◌, List, [], ◌∷◌}

-- Clear all eight markers, set T and U at x, then loop over the five commands of a round.
abbrev pub merged : ℕ → List ℕ
merged x = 255 ∷ (16777216 + x) ∷ (16908288 + x) ∷ 50331648 ∷ 33554434 ∷ 33686016 ∷ 33620226 ∷ 33685761 ∷ 33685763 ∷ 67108864 ∷ []
