use native.Mathlib.Omega.{arith}
use Rattle.theory.specs.Origins.{chosen}
use Rattle.unit_command.proofs.Reading.{named}
use Rattle.unit_command.proofs.Obeying.{does_clear, does_set, does_link, does_loop, does_end, does_unknown}
use Rattle.unit_command.proofs.obey.Goals as goal

pub put_mark-requires : goal.put_mark-requires
put_mark-requires c =
    let t = named c.args.n c.args.word c.read_word-command.ensures c.in-Set.is in
    (t.0, omega (arith, t.1, c.requires.size))

pub run_link-requires : goal.run_link-requires
run_link-requires c =
    record {
      markers = named c.args.n c.args.word c.read_word-command.ensures c.in-Link.is;
      inside = c.requires.inside;
      few = c.requires.few;
      size = c.requires.size;
    }

pub returns-in-Clear : goal.returns-in-Clear
returns-in-Clear c =
    let t = (does_clear (chosen c.args.set c.args.words.now) c.args.marks.now c.read_word-command.ensures c.in-Clear.is c.clear_markers.ensures) in
    record {
      done = t.0;
      new = t.1;
    }

pub returns-in-Set : goal.returns-in-Set
returns-in-Set c =
    let t = (does_set (chosen c.args.set c.args.words.now) c.args.marks.now c.read_word-command.ensures c.in-Set.is c.put_mark.ensures.done c.put_mark.ensures.new) in
    record {
      done = t.0;
      new = t.1;
    }

pub returns-in-Link : goal.returns-in-Link
returns-in-Link c =
    let t = (does_link (chosen c.args.set c.args.words.now) c.args.marks.now c.read_word-command.ensures c.in-Link.is c.run_link.ensures.done c.run_link.ensures.new) in
    record {
      done = t.0;
      new = t.1;
    }

pub returns-in-Loop : goal.returns-in-Loop
returns-in-Loop c =
    let t = (does_loop (chosen c.args.set c.args.words.now) c.args.marks.now c.read_word-command.ensures c.in-Loop.is) in
    record {
      done = t.0;
      new = t.1;
    }

pub returns-in-End : goal.returns-in-End
returns-in-End c =
    let t = (does_end (chosen c.args.set c.args.words.now) c.args.marks.now c.read_word-command.ensures c.in-End.is) in
    record {
      done = t.0;
      new = t.1;
    }

pub returns-in-Unknown : goal.returns-in-Unknown
returns-in-Unknown c =
    let t = (does_unknown (chosen c.args.set c.args.words.now) c.args.marks.now c.read_word-command.ensures c.in-Unknown.is) in
    record {
      done = t.0;
      new = t.1;
    }
