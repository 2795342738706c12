-- What is printed for a question of a file's net, plain or with origins: where the net passes its check, the lines that derive what the answer says.
use Rattle.std.specs.Prelude.{Ok}
use Prim.Native.Nat.{ℕ, ◌+◌}
use mathlib.Core.Path.{◌≡◌}
use mathlib.Core.Bool.{true, false}
use mathlib.Core.List.{List}
use native.Mathlib.Omega.{arith}
use Rattle.theory.proofs.origins.Statements.{net_from}
use Rattle.net.specs.Good.{GoodPair}
use Rattle.net.specs.Table.{check_net, check_plain}
use Rattle.net.proofs.NetCheck.{nodes_exactly, plain_checked}
use Rattle.why_question.proofs.Meaning.{Answered, question_means}

module _ (o k : ℕ) (ws : List ℕ) {n : ℕ} (x y : ℕ) (pair : GoodPair o (o + k) x y) where
  -- A file of three entries.
  pub plain_means : check_plain o k ws ≡ Ok n → Answered false o k ws 1 x y
  plain_means e = question_means false o k ws 1 x y (net_from o k ws (plain_checked o k ws e).1) (omega arith) pair

  -- A file of four.
  pub chosen_means : (set : ℕ) → check_net o k ws set ≡ Ok n → Answered true o k ws set x y
  chosen_means set e = let g = (nodes_exactly o k ws set n).0 e in question_means true o k ws set x y g.2 g.1 pair
