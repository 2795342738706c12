use native.Mathlib.Omega.{arith}
use Rattle.theory.proofs.origins.Statements.{net_from}
use Rattle.compact_thin.proofs.Testing.{reads_is, reads_isnt}
use Rattle.compact_thin.proofs.is_supported.Goals as goal

pub full_scan-requires : goal.full_scan-requires
full_scan-requires c =
    record {
      net = net_from c.args.o c.args.k c.args.words.now c.requires.net;
      size = c.requires.size;
      node = omega (arith, c.tail_of.ensures, c.requires.legal.tail, c.requires.size);
      room = c.requires.room;
    }

pub returns-then-word-eq0 : goal.returns-then-word-eq0
returns-then-word-eq0 c =
    let e = rw c.tail_of.ensures at c.full_scan.ensures.nodes in record {
      answer = rw c.head_of.ensures (reads_is c.args.o c.args.k c.args.n c.args.words.now c.args.word c.requires.net c.requires.legal c.requires.size c.full_scan.new.marks e c.if-word-eq0.true);
      past = c.full_scan.ensures.past;
    }

pub returns-else-word-eq0 : goal.returns-else-word-eq0
returns-else-word-eq0 c =
    let e = rw c.tail_of.ensures at c.full_scan.ensures.nodes in record {
      answer = rw c.head_of.ensures (reads_isnt c.args.o c.args.k c.args.n c.args.words.now c.args.word c.requires.net c.requires.legal c.requires.size c.full_scan.new.marks e c.if-word-eq0.false);
      past = c.full_scan.ensures.past;
    }
