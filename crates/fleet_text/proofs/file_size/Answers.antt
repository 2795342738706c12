use Rattle.fleet_text.proofs.Turns.{size_end, size_bad, size_size}
use Rattle.fleet_text.proofs.file_size.Goals as goal

pub returns-in-End : goal.returns-in-End
returns-in-End c = size_end _ _ c.read_head-first.ensures c.in-End.is

pub returns-in-Bad : goal.returns-in-Bad
returns-in-Bad c = size_bad _ _ c.read_head-first.ensures c.in-Bad.is

pub returns-in-Size : goal.returns-in-Size
returns-in-Size c = size_size _ _ c.read_head-first.ensures c.in-Size.is
