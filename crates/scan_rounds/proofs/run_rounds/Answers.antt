-- The marks are written for the passes, and read back when the rounds have run.
use native.Mathlib.Omega.{arith}
use Rattle.theory.specs.Marks.{commands}
use Rattle.theory.specs.Origins.{chosen}
use Rattle.scan_round.proofs.Written.{written_so}
use Rattle.scan_rounds.proofs.Loop.{plain_rounds, plain_low}
use Rattle.scan_rounds.proofs.run_rounds.Goals as goal

pub run_written-ran-requires : goal.run_written-ran-requires
run_written-ran-requires c = record {
  room = omega arith;
  written = written_so c.args.n c.code_is.new.marks c.args.marks.now c.code_is.ensures c.requires.low;
}

pub returns : goal.returns
returns c =
    let e = c.code_is in
    let r = c.run_written-ran in
    let b = c.plain_marks in
    let x = r.new.marks in
    record {
      marks_value =
          plain_rounds c.args.n c.args.marks.now e.new.marks x b.new.marks b.ensures commands (chosen c.args.set c.args.words.now) c.args.budget
          r.result.done r.result.count c.requires.low e.ensures r.ensures;
      low_2 = plain_low c.args.n c.args.marks.now e.new.marks x b.new.marks b.ensures (omega arith);
    }
