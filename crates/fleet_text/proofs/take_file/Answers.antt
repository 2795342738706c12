use mathlib.Core.Path.{refl}
use Rattle.fleet_text.proofs.Small.{counted_small, file_turned}
use Rattle.fleet_text.proofs.take_file.Goals as goal

pub add_counts-sums-requires : goal.add_counts-sums-requires
add_counts-sums-requires c =
    (c.requires.few.1, counted_small _ c.count_file-figured.ensures)

pub returns : goal.returns
returns c =
    let made = file_turned _ c.count_file-figured.ensures _ _ _ c.put_line-size.ensures c.add_counts-sums.ensures in
    record {
      line = made.0;
      state = (refl, refl, made.1);
    }
