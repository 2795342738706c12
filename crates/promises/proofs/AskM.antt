-- What `ask` prints for the net file of net M with its five questions, by computation.
use mathlib.Core.Path.{◌≡◌, refl}
use lib.ListN.{length}
use Rattle.theory.specs.Marks.{mark, link, links, command, round}
use Rattle.theory.specs.Scans.{same, rounds}
use Rattle.theory.specs.Origins.{chosen}
use Rattle.net.specs.Passing.{passing}
use Rattle.net.specs.Table.{check_plain}
use Rattle.netfile_entry.specs.Entries.{entries, entry_at}
use Rattle.netfile.specs.Contents.{entries_of}
use Rattle.netfile_numbers.specs.Bytes.{u32s}
use Rattle.text_field.specs.Decimal.{digits}
use Rattle.ask_line.specs.Line.{line_of}
use Rattle.ask_net.specs.Lines.{lines_of, net_text}
use Rattle.ask_text.specs.Text.{text_of}
use Rattle.promises.specs.AskM.{file_m, printed_m}

-- The file has 72 bytes.
pub size_72 : length file_m ≡ 72
size_72 = refl

-- `ask` prints the five lines.
pub ask_prints : text_of file_m ≡ printed_m
unfolding text_of net_text lines_of line_of digits entries_of entries entry_at u32s check_plain chosen passing rounds same round command links link mark
ask_prints = refl
