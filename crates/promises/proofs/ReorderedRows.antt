-- Over two nets of which the same words are chosen the completion by rows does the same, in whatever order they stand.
use Prim.Native.Nat.{ℕ, zero, suc, ◌+◌, ◌≤◌}
use mathlib.Core.Path.{◌≡◌, refl, sym, ap, ◌∙◌}
use mathlib.Core.Bool.{◌&&◌}
use mathlib.Core.List.{List, ◌++◌}
use native.Mathlib.Omega.{arith}
use lib.Dec.{leb, ltb}
use lib.ListN.{get_or}
use Rattle.std.specs.Prelude.{Err}
use Rattle.theory.specs.Words.{Sign, is, isnt}
use Rattle.theory.specs.Nets.{Net, AllIn}
use Rattle.theory.specs.Origins.{chosen}
use Rattle.theory.specs.Marks.{has, marker_of}
use Rattle.theory.specs.Rows.{width, answers, words_of, rows_of, supported_rows}
use Rattle.net.specs.declared.Refusal.{Refusal}
use Rattle.net.proofs.NetCheck.{net_is_checked}
use Rattle.net.proofs.OnNet.{gone_on}
use Rattle.rows_completion.specs.Table.{RowsOutcome, rows_outcome, rows_clauses, rows_done, completed_by_rows}
use Rattle.promises.specs.Engines.{Read}
use Rattle.promises.proofs.Tests.{chosen_of}
use Rattle.promises.proofs.Reordered.{full_same, complete_same}
use Rattle.completion.specs.declared.CompletionError.TheVariants as completed

module _ (o k : ℕ) (ws vs : List ℕ) (n : Net o k ws) (p : Net o k vs) (to : AllIn ws vs) (from : AllIn vs ws) (s : Sign) where
  rows_of_same : (w x j : ℕ) → x + j ≤ o + k → rows_of (answers o k ws s) w x j ≡ rows_of (answers o k vs s) w x j
  unfolding rows_of
  rows_of_same w x zero h = refl
  rows_of_same w x (suc j) h =
      ap (λ (m : List ℕ). words_of (λ (y : ℕ). (leb o y && ltb y (o + k)) && has (marker_of s) (get_or m y 0)) 0 w ++ rows_of (answers o k ws s) w (suc x) j)
      (full_same o k ws vs n p to from x (omega arith))
      ∙ ap (λ (l : List ℕ). words_of (answers o k vs s x) 0 w ++ l) (rows_of_same w (suc x) j (omega arith))

  supported_same : supported_rows o k ws s ≡ supported_rows o k vs s
  unfolding supported_rows
  supported_same = rows_of_same (width (o + k)) 0 (o + k) (omega arith)

-- Two nets, each read with its set.
module _ (o k : ℕ) (ws : List ℕ) (set : ℕ) (vs : List ℕ) (set' : ℕ) (n : Read o k ws set) (p : Read o k vs set') (to : AllIn (chosen set ws) (chosen set' vs)) (from : AllIn (chosen set' vs) (chosen set ws)) where
  pub rows_order : (yeses noes l : List ℕ) → completed_by_rows o k ws set yeses noes l ≡ completed_by_rows o k vs set' yeses noes l
  rows_order yeses noes l =
      let refused : Refusal → RowsOutcome = λ r. rows_outcome (Err (completed.Refused r)) yeses noes l in
      let ln = chosen_of o k ws set n in
      let rn = chosen_of o k vs set' p in
      sym (gone_on refused o k ws set (rows_clauses o k (chosen set ws) yeses noes l) (rows_done o k (chosen set ws) yeses noes l) (net_is_checked o k ws set n.allowed n.net) refl)
      ∙ rw (
        complete_same o k (chosen set ws) (chosen set' vs) ln rn to from,
        supported_same o k (chosen set ws) (chosen set' vs) ln rn to from is,
        supported_same o k (chosen set ws) (chosen set' vs) ln rn to from isnt,
      )
      (gone_on refused o k vs set' (rows_clauses o k (chosen set' vs) yeses noes l) (rows_done o k (chosen set' vs) yeses noes l) (net_is_checked o k vs set' p.allowed p.net) refl)
