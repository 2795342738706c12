use Rattle.unit_program.specs.Faults.{ends, faulty}
use Rattle.unit_fault.proofs.Faults.{told, loop_faulty}
use Rattle.unit_fault.proofs.is_faulty.Goals as goal

pub returns-in-Clear : goal.returns-in-Clear
returns-in-Clear c =
    told (faulty c.args.inside (ends c.args.n c.args.rest.now)) c.read_word-command.ensures c.in-Clear.is

pub returns-in-Set : goal.returns-in-Set
returns-in-Set c =
    told (faulty c.args.inside (ends c.args.n c.args.rest.now)) c.read_word-command.ensures c.in-Set.is

pub returns-in-Link : goal.returns-in-Link
returns-in-Link c =
    told (faulty c.args.inside (ends c.args.n c.args.rest.now)) c.read_word-command.ensures c.in-Link.is

pub returns-in-Loop : goal.returns-in-Loop
returns-in-Loop c =
    loop_faulty c.args.n c.args.inside c.args.rest.now c.read_word-command.ensures c.in-Loop.is c.before_end.ensures

pub returns-in-End : goal.returns-in-End
returns-in-End c =
    told (faulty c.args.inside (ends c.args.n c.args.rest.now)) c.read_word-command.ensures c.in-End.is

pub returns-in-Unknown : goal.returns-in-Unknown
returns-in-Unknown c =
    told (faulty c.args.inside (ends c.args.n c.args.rest.now)) c.read_word-command.ensures c.in-Unknown.is
