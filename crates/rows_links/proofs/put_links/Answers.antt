use mathlib.Core.Path.{refl}
use native.Mathlib.Omega.{arith}
use lib.ListN.{length}
use Rattle.theory.proofs.origins.Statements.{inside_from_at}
use Rattle.rows_steps.specs.Steps.{is_link, is_links, isnt_link, isnt_links}
use Rattle.rows_links.proofs.Linking.{is_run, isnt_run, link_chosen, link_passed, links_end, places}
use Rattle.rows_links.proofs.put_links.Goals as goal
use Rattle.rows_links.proofs.put_links.Goals.{then-is_chosen, else-is_chosen}

pub loop-word-init : goal.loop-word-init
loop-word-init c = (refl, refl)

pub is_chosen-requires : goal.is_chosen-requires
is_chosen-requires c =
    (inside_from_at c.args.words.now c.requires.net c.loop-word.word-index (omega arith)).origin

pub put_link-requires : goal.put_link-requires
put_link-requires c =
    let e = inside_from_at c.args.words.now c.requires.net c.loop-word.word-index (omega arith) in
    let y = places c.args.n c.args.w (length c.loop-word.yeses) e c.plain_of-plain.ensures c.requires.size (omega (arith, c.loop-word.auto.yeses, c.requires.room.0)) in
    let n = places c.args.n c.args.w (length c.loop-word.noes) e c.plain_of-plain.ensures c.requires.size (omega (arith, c.loop-word.auto.noes, c.requires.room.1)) in
    record {
      along = (y.0, n.0);
      back = n.1;
    }

pub loop-word-preserved : goal.loop-word-preserved
loop-word-preserved c =
    elim c.if-is_chosen.branch [
      | then-is_chosen w ↦ rw (w.yeses-is, w.noes-is) (
        link_chosen (is_link c.args.w) (is_links c.args.w) (is_run c.args.w) c.args.set c.args.words.now c.loop-word.word-index c.loop-word.yeses c.loop-word.invariant.0 (omega arith) c.is_chosen.ensures
            w.if-is_chosen.true w.plain_of-plain.ensures w.put_link.ensures.yeses_after,
        link_chosen (isnt_link c.args.o c.args.w) (isnt_links c.args.o c.args.w) (isnt_run c.args.o c.args.w) c.args.set c.args.words.now c.loop-word.word-index c.loop-word.noes c.loop-word.invariant.1 (omega arith) c.is_chosen.ensures
            w.if-is_chosen.true w.plain_of-plain.ensures w.put_link.ensures.noes_after,
      )
      | else-is_chosen w ↦ rw (w.yeses-is, w.noes-is) (
        link_passed (is_link c.args.w) (is_links c.args.w) (is_run c.args.w) c.args.set c.args.words.now c.loop-word.word-index c.loop-word.yeses c.loop-word.invariant.0 (omega arith) c.is_chosen.ensures w.if-is_chosen.false,
        link_passed (isnt_link c.args.o c.args.w) (isnt_links c.args.o c.args.w) (isnt_run c.args.o c.args.w) c.args.set c.args.words.now c.loop-word.word-index c.loop-word.noes c.loop-word.invariant.1 (omega arith) c.is_chosen.ensures
            w.if-is_chosen.false,
      )
    ]

pub returns : goal.returns
returns c =
    record {
      yeses_after = links_end (is_link c.args.w) (is_links c.args.w) (is_run c.args.w) c.args.set c.args.words.now c.loop-word.word-index c.loop-word.yeses c.loop-word.invariant.0 (omega arith);
      noes_after = links_end (isnt_link c.args.o c.args.w) (isnt_links c.args.o c.args.w) (isnt_run c.args.o c.args.w) c.args.set c.args.words.now c.loop-word.word-index c.loop-word.noes c.loop-word.invariant.1 (omega arith);
    }
