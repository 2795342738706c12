-- The contents of our list, which has m links behind i steps.
use Rattle.std.specs.Prelude.{ℕ, suc, ◌+◌, ◌*◌, List, ◌∷◌}
use Rattle.proof_form.specs.Ours.{nested}

abbrev pub contents_of : ℕ → ℕ → List ℕ
contents_of i m = suc m ∷ suc (2 * suc m) ∷ (i + suc (2 * m)) ∷ nested (suc (2 * suc m)) i m
