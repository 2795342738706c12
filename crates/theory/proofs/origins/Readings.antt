-- Readings of the chosen list by computation.
use mathlib.Core.Path.{◌≡◌, refl}
use mathlib.Core.List.{[], ◌∷◌}
use Rattle.theory.specs.Origins.{from, origin_of, plain_of, chosen}

-- Word 4 of the origin 2.
pub parts : (from 2 4 ≡ 4194308) × (origin_of 4194308 ≡ 2) × (plain_of 4194308 ≡ 4)
parts = (refl, refl, refl)

-- Words of the origins 0, 1, 2, 0 and 3: the set of 0 and 2 leaves out the second and the last. The word 4 of the origin 2 is a repeat, and stays.
pub two_origins : chosen 5 (4 ∷ 2099210 ∷ 4194308 ∷ 4103 ∷ 6299654 ∷ []) ≡ 4 ∷ 4 ∷ 4103 ∷ []
unfolding chosen
two_origins = refl

-- All origins, and none.
pub all_origins : chosen 15 (4 ∷ 2099210 ∷ 6299654 ∷ []) ≡ 4 ∷ 2058 ∷ 8198 ∷ []
unfolding chosen
all_origins = refl

pub no_origins : chosen 0 (4 ∷ 2099210 ∷ []) ≡ []
unfolding chosen
no_origins = refl
