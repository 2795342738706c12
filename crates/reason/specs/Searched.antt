-- The outcome over places that are found already.
use Rattle.std.specs.Prelude.{ℕ, List}
use Rattle.theory.specs.Words.{Sign}
use Rattle.theory.specs.Searches.{reason_list}
use Rattle.net.specs.Clauses.{call}
use Rattle.reason_walk.specs.Walk.{states_from}
use Rattle.reason.specs.Table.{ReasonOutcome, found_clauses, found_done}

-- Numbers 7, 8 and 0 over the places d, where the scratch is left as `past`.
abbrev pub reason_from : ℕ → Sign → List ℕ → ℕ → List ℕ → List ℕ → List ℕ → ReasonOutcome
reason_from n s ws x d past l =
    call (found_clauses x d (reason_list n x (states_from n s ws x d)) past l) (found_done (reason_list n x (states_from n s ws x d)) past l)
