use Rattle.fleet_text.proofs.Turns.{line_done, line_refused}
use Rattle.fleet_text.proofs.put_line.Goals as goal

pub returns-then-number-eq0 : goal.returns-then-number-eq0
returns-then-number-eq0 c = line_done _ _ _ _ c.if-number-eq0.true c.put_numbers.ensures

pub returns : goal.returns
returns c = line_refused _ _ _ _ c.if-number-eq0.false c.put_refused.ensures
