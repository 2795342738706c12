-- What a net gives ([11]): its figures, or the number of its refusal.
use Rattle.std.specs.Prelude.{ℕ, Bool, cond, List, replicate, Err, Ok}
use Rattle.theory.specs.Origins.{chosen}
use Rattle.net.specs.Table.{refusal_reply, check_net, check_plain}
use Rattle.net.specs.Table.{Checked}
use Rattle.question.specs.declared.Answer.{Answer}
use Rattle.question.specs.declared.Answer.TheVariants.{None, Yes, No, Both}
use Rattle.figures_counts.specs.Counting.{figures}
use Rattle.figures.specs.declared.Figured.{Figured}

-- Eight zeros.
abbrev pub nothing : List ℕ
nothing = replicate 8 0

-- Number 0 and the figures, or the number and nothing to add.
abbrev pub done : List ℕ → Figured
done l = record { number = 0; counts = l }

abbrev pub refused : ℕ → Figured
refused n = record { number = n; counts = nothing }

-- By what the check of a net gave: the figures of the words that the set chooses, or the refusal's number.
unfoldable pub figured_by : ℕ → ℕ → List ℕ → ℕ → Checked → Figured
figured_by o k ws set (Ok n) = done (figures o k (chosen set ws))
figured_by o k ws set (Err r) = refused (refusal_reply r).number

-- A net whose words have origins, read with a set of them: numbers 1, 2, 15 and 3, or 0.
abbrev pub figured_net : ℕ → ℕ → List ℕ → ℕ → Figured
figured_net o k ws set = figured_by o k ws set (check_net o k ws set)

-- A net of plain words: they are checked as a plain list, and all of them are of origin 0, which is chosen.
abbrev pub figured_plain : ℕ → ℕ → List ℕ → Figured
figured_plain o k ws = figured_by o k ws 1 (check_plain o k ws)

-- The answer of the question about a pair, by whether it is supported that the one is the other, and that it is not.
abbrev pub answer_of : Bool → Bool → Answer
answer_of p q = cond p (cond q Both Yes) (cond q No None)
