use Rattle.fleet_text.proofs.Turns.{head_end, head_over, head_short, head_large, head_size}
use Rattle.fleet_text.proofs.read_head.Goals as goal

pub returns-then-head-eq0 : goal.returns-then-head-eq0
returns-then-head-eq0 c = head_end _ _ c.if-head-eq0.true

pub returns-then-left-eq0 : goal.returns-then-left-eq0
returns-then-left-eq0 c = head_over _ _ c.if-head-eq0.false c.if-left-eq0.true

pub returns-then-head-lt4 : goal.returns-then-head-lt4
returns-then-head-lt4 c = head_short _ _ c.if-head-eq0.false c.if-left-eq0.false c.if-head-lt4.true

pub returns-then-size-gt-FILE_LIMIT : goal.returns-then-size-gt-FILE_LIMIT
returns-then-size-gt-FILE_LIMIT c = head_large _ _ c.if-head-eq0.false c.if-left-eq0.false c.if-head-lt4.false c.u32_at-size.ensures c.if-size-gt-FILE_LIMIT.true

pub returns : goal.returns
returns c = head_size _ _ c.if-head-eq0.false c.if-left-eq0.false c.if-head-lt4.false c.u32_at-size.ensures c.if-size-gt-FILE_LIMIT.false
