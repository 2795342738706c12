use native.Mathlib.Omega.{arith}
use Rattle.theory.specs.Rows.{Wide}
use Rattle.rows_filling.proofs.Filled.{inside, few_words, wide_rows, filled_yes, exact_yes, wide_yes, nodes_only, filled_no}
use Rattle.rows_filling.proofs.fill_rows.Goals as goal

pub overflow_mul-n : goal.overflow_mul-n
overflow_mul-n c = omega (arith, c.requires.room.0)

pub clear_words-requires : goal.clear_words-requires
clear_words-requires c = c.requires.room.0

pub overflow_mul-n-2 : goal.overflow_mul-n-2
overflow_mul-n-2 c = omega (arith, c.requires.room.0)

pub clear_words-requires-2 : goal.clear_words-requires-2
clear_words-requires-2 c = c.requires.room.1

pub put_kinds-requires : goal.put_kinds-requires
put_kinds-requires c =
    (omega (arith, c.requires.size.0), wide_rows c.args.o c.args.k c.args.words.now c.args.set c.requires.net c.args.n c.args.w c.requires.size, omega (arith, c.clear_words.auto.rows, c.requires.room.0))

pub put_links-requires : goal.put_links-requires
put_links-requires c =
    record {
      net = inside c.args.o c.args.k c.args.words.now c.args.set c.requires.net c.args.n c.args.w c.requires.size;
      size = wide_rows c.args.o c.args.k c.args.words.now c.args.set c.requires.net c.args.n c.args.w c.requires.size;
      room = (
        omega (arith, c.clear_words.auto.rows, c.put_kinds.auto.rows, c.requires.room.0),
        omega (arith, c.clear_words-2.auto.rows, c.requires.room.1),
      );
    }

pub close_rows-requires : goal.close_rows-requires
close_rows-requires c = (
  omega (arith, c.requires.size.0),
  wide_rows c.args.o c.args.k c.args.words.now c.args.set c.requires.net c.args.n c.args.w c.requires.size,
  few_words c.args.o c.args.k c.args.words.now c.args.set c.requires.net c.args.n c.args.w c.requires.size,
  omega (arith, c.clear_words.auto.rows, c.put_kinds.auto.rows, c.put_links.auto.yeses, c.requires.room.0),
)

pub gather_rows-requires : goal.gather_rows-requires
gather_rows-requires c = (
  omega (arith, c.clear_words.auto.rows, c.put_kinds.auto.rows, c.put_links.auto.yeses, c.close_rows.auto.rows, c.requires.room.0),
  omega (arith, c.clear_words-2.auto.rows, c.put_links.auto.noes, c.requires.room.1),
  few_words c.args.o c.args.k c.args.words.now c.args.set c.requires.net c.args.n c.args.w c.requires.size,
  nodes_only c.args.o c.args.k c.args.words.now c.args.set c.requires.net c.args.n c.args.w c.requires.size c.args.yeses.now c.requires.room.0 (λ i. (c.slice_known-1.given i).fits)
      c.clear_words.ensures c.put_kinds.ensures c.put_links.ensures.yeses_after c.close_rows.ensures,
)

pub back_rows-requires : goal.back_rows-requires
back_rows-requires c = (
  omega (arith, c.requires.size.0),
  wide_rows c.args.o c.args.k c.args.words.now c.args.set c.requires.net c.args.n c.args.w c.requires.size,
  omega (arith, c.clear_words.auto.rows, c.put_kinds.auto.rows, c.put_links.auto.yeses, c.close_rows.auto.rows, c.requires.room.0),
  omega (arith, c.clear_words-2.auto.rows, c.put_links.auto.noes, c.gather_rows.auto.rows, c.requires.room.1),
)

pub returns : goal.returns
returns c =
    let wide : Wide c.args.yeses.now = λ i. (c.slice_known-1.given i).fits in record {
      yeses_after = filled_yes c.args.o c.args.k c.args.words.now c.args.set c.requires.net c.args.n c.args.w c.requires.size c.args.yeses.now c.requires.room.0 wide
          c.clear_words.ensures c.put_kinds.ensures c.put_links.ensures.yeses_after c.close_rows.ensures;
      noes_after = filled_no c.args.o c.args.k c.args.words.now c.args.set c.requires.net c.args.n c.args.w c.requires.size c.args.noes.now c.requires.room.1 (λ i. (c.slice_known-2-1.given i).fits) c.close_rows.new.rows
          (exact_yes c.args.o c.args.k c.args.words.now c.args.set c.requires.net c.args.n c.args.w c.requires.size c.args.yeses.now c.requires.room.0 wide
          c.clear_words.ensures c.put_kinds.ensures c.put_links.ensures.yeses_after c.close_rows.ensures)
          (wide_yes c.args.o c.args.k c.args.words.now c.args.set c.requires.net c.args.n c.args.w c.requires.size c.args.yeses.now c.requires.room.0 wide
          c.clear_words.ensures c.put_kinds.ensures c.put_links.ensures.yeses_after c.close_rows.ensures)
          c.clear_words-2.ensures c.put_links.ensures.noes_after c.gather_rows.ensures c.back_rows.ensures;
    }
