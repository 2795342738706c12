-- The commands of a round by passes: the three that follow "is", each of which tests for the marker that it puts, and the two that follow "is not".
use Rattle.std.specs.Prelude.{List, [], ◌∷◌}
use Rattle.theory.specs.Marks.{T, F, U, to_head, to_tail}
use Rattle.theory.specs.declared.Command.{Command}

-- The first three commands of a round, and the last two.
abbrev pub is_commands : List Command
is_commands = to_tail 0 T T ∷ to_head 0 U U ∷ to_tail 0 F F ∷ []

abbrev pub isnt_commands : List Command
isnt_commands = to_head 1 U F ∷ to_tail 1 U F ∷ []
