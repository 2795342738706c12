-- Commands that a round may leave out.
use Rattle.std.specs.Prelude.{ℕ, ◌≡◌, List}
use Rattle.theory.specs.Marks.{round}
use Rattle.theory.specs.declared.Command.{Command}

-- Some commands, one after another, add nothing to the marks.
abbrev pub Quiet : List Command → List ℕ → List ℕ → Type 0
Quiet cs ws m = round cs ws m ≡ m
