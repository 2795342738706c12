use Rattle.rows_word.proofs.Going.{put_is}
use Rattle.rows_word.proofs.put_bit.Goals as goal

pub returns : goal.returns
returns c = put_is c.args.a c.args.y c.args.rows.now
