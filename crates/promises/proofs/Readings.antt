-- All bench readings marked P, under one theorem, by computation.
use mathlib.Core.Path.{◌≡◌, refl}
use mathlib.Core.Bool.{true}
use mathlib.Core.List.{List, [], ◌∷◌, Memᴰ}
use Rattle.theory_laws.proofs.Booleans.{and_left, and_right}
use Rattle.theory.specs.Marks.{mark, link, links, command, round}
use Rattle.theory.specs.Scans.{after, same, rounds}
use Rattle.theory.specs.Completion.{row, rows, complete}
use Rattle.theory.specs.Searches.{arcs, level, levels, distances, next, descend, reason_states, firsts, reason_list}
use Rattle.theory.proofs.machine.Rounds.{same_eq}
use Rattle.theory.specs.Origins.{chosen}
use Rattle.net.specs.Passing.{passing}
use Rattle.net.specs.Table.{check_net}
use Rattle.clash.specs.Table.{first_both, first_clash}
use Rattle.promises.specs.Readings.{Reading, readings, all_agree}

-- The statements give every reading as the paper has it.
pub all_agree_lem : all_agree readings ≡ true
unfolding all_agree same check_net chosen passing after first_both first_clash rounds round command links link mark complete rows row arcs level levels distances next descend reason_states firsts reason_list
all_agree_lem = refl

-- Where all entries of a table agree, each is an equation.
agreeing : (es : List Reading) → all_agree es ≡ true → (e : Reading) → Memᴰ e es → e.gives ≡ e.paper
unfolding all_agree
agreeing [] h e m = elim m [ ]
agreeing (a ∷ es) h e (Memᴰ.head p) = rw p (same_eq a.gives a.paper (and_left (same a.gives a.paper) (all_agree es) h))
agreeing (a ∷ es) h e (Memᴰ.tail m) = agreeing es (and_right (same a.gives a.paper) (all_agree es) h) e m

-- So each reading is what the paper says.
pub each_reading : (e : Reading) → Memᴰ e readings → e.gives ≡ e.paper
each_reading = agreeing readings all_agree_lem
