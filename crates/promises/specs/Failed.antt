-- The three earlier versions that failed, as engines. Each differs from ours only in its fault.
use Rattle.std.specs.Prelude.{◌+◌, cond, List, [], ◌∷◌, ◌++◌, ltb, drop, Ok}
use Rattle.theory.specs.Marks.{F, U, to_head, scan_start}
use Rattle.theory.specs.Scans.{rounds, full_budget, full_scan}
use Rattle.theory.specs.Downscan.{downscan}
use Rattle.theory.specs.Origins.{chosen}
use Rattle.theory.specs.declared.Command.{Command}
use Rattle.net.specs.Clauses.{call}
use Rattle.question.specs.Table.{question_outcome, question_table, question_done, read_at}
use Rattle.question.specs.declared.Answer.TheVariants.{Yes}
use Rattle.clash.specs.Table.{clash_search, nowhere}
use Rattle.promises.specs.Engines.{Engine, ours, scanned_by, with_scan, with_question}

-- Only the commands that follow an arrow forward, the second and the fourth: none goes back from a head to a tail.
abbrev pub forward_only : List Command
forward_only = to_head 0 U U ∷ to_head 1 U F ∷ []

abbrev pub never_back : Engine
never_back =
    with_question (λ o k ws set x y m. call (question_table o k ws set x y m) (read_at y (rounds forward_only (chosen set ws) 0 (full_budget (o + k)) (scan_start (o + k) x)) (drop (o + k) m)))

-- Classical reasoning: once any node clashes, yes to every question.
abbrev pub classical : Engine
classical =
    with_question (λ o k ws set x y m.
    call (question_table o k ws set x y m)
    (cond (nowhere (clash_search o k (chosen set ws))) (question_done (chosen set ws) x y m (o + k))
    (question_outcome (Ok (Yes, (full_scan (o + k) (chosen set ws) x).count)) ((full_scan (o + k) (chosen set ws) x).marks ++ drop (o + k) m))))

-- The report's backward search in place of the scan from a kind: it never climbs above the kind that it starts from.
abbrev pub never_up : Engine
never_up = with_scan (λ o k ws set x budget m. cond (ltb x o) (ours.scan o k ws set x budget m) (scanned_by downscan o k ws set x budget m))
