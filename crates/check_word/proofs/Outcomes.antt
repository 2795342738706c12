-- Each answer of the test of a word, in the terms of the code.
use Rattle.std.specs.Prelude.{Err, Ok}
use Prim.Native.Nat.{ℕ, ◌+◌, ◌<◌, ◌≤◌}
use mathlib.Core.Path.{◌≡◌}
use mathlib.Core.Bool.{true, false}
use borrow.Author.Tests.{lt-ltb, le-ltb}
use Rattle.theory.specs.Words.{node_limit}
use Rattle.theory.specs.Origins.{origin_limit}
use Rattle.net_word.specs.Legal.{legal_from}
use Rattle.net.specs.Table.{illegal_at}
use Rattle.net.specs.declared.Refusal.{Refusal}
use Rattle.net.specs.declared.Refusal.TheVariants.{TooManyNodes}
use Rattle.check_word.specs.Table.{check_word}

module _ (o k w : ℕ) where
  pub word_many : node_limit < o + k → Err TooManyNodes ≡ check_word o k w
  word_many h = rw (lt-ltb node_limit (o + k) h)

  pub word_refused : o + k ≤ node_limit → legal_from origin_limit o (o + k) w ≡ false → {r : Refusal} → r ≡ illegal_at (o + k) 0 w → Err r ≡ check_word o k w
  word_refused h l e = rw (le-ltb node_limit (o + k) h, l, e)

  pub word_passed : o + k ≤ node_limit → legal_from origin_limit o (o + k) w ≡ true → Ok tt ≡ check_word o k w
  word_passed h l = rw (le-ltb node_limit (o + k) h, l)
