-- A reply in three words of 32 bits.
use Rattle.std.specs.Prelude.{◌<◌}
use Rattle.net.specs.Table.{Reply}

-- Both values of a reply fit into 32 bits.
pub record Fits (r : Reply) : Type 0 where
  pub first : r.first < 4294967296
  pub second : r.second < 4294967296
