use Prim.Native.Nat.{◌+◌}
use mathlib.Core.Path.{ap}
use lib.ListN.{get_or}
use lib.Count.{ones, ones-le}
use Rattle.std.proofs.lemmas.List.Edits.{length-between}
use Rattle.rows_listing.proofs.Going.{ones_start, ones_go, ones_end, row_word, row_words_end}
use native.Mathlib.Omega.{arith}
use Rattle.rows_listing.proofs.row_size.Goals as goal

pub loop-word-init : goal.loop-word-init
loop-word-init c = (omega (arith, ones_start c.args.a c.args.w c.args.rows.now), omega arith)

pub loop-word-preserved : goal.loop-word-preserved
loop-word-preserved c =
    let i = c.args.a + c.loop-word.word-index in
    let read = row_word c.args.a c.args.w c.args.rows.now c.requires.0 c.loop-word.word-index c.loop-word-test.true in
    let few = ones-le 64 (get_or c.args.rows.now i 0) (c.type_inv.rows i).fits in
    let next = ones_go c.args.a c.args.w c.loop-word.word-index c.args.rows.now read.0 in
    let same = ap ones read.1 in
    (omega arith, omega arith)

pub returns : goal.returns
returns c =
    let end = row_words_end c.args.a c.args.w c.args.rows.now c.requires.0 c.loop-word.word-index (omega arith) in
    let none = ones_end c.args.a c.args.w c.loop-word.word-index c.args.rows.now end in
    (omega arith, omega (arith, c.loop-word.auto.word-index-end, length-between c.args.rows.now c.args.a (c.args.a + c.args.w) c.requires.0))
