-- What a link command of the marker unit asks: its markers are two of the eight.
use Rattle.std.specs.Prelude.{◌<◌}
use Rattle.theory.specs.declared.Command.{Command}

-- Both markers of a command stand in a byte.
pub record InByte (c : Command) : Type 0 where
  pub test_in : c.test < 8
  pub put_in : c.put < 8
