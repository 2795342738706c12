-- What the reader gives is what its number table says, read from the top.
use Prim.Native.Nat.{ℕ}
use mathlib.Core.Path.{◌≡◌}
use mathlib.Core.Bool.{true, false}
use mathlib.Core.List.{List}
use Rattle.std.specs.Prelude.{Ok, Err}
use Rattle.net.specs.Clauses.{call}
use Rattle.netfile.specs.Contents.{malformed_at, contents_of, no_bodies, bodies_of}
use Rattle.netfile.specs.Table.{read_from, malformed, wrong_place, questions_at, set_at, file_table, file_done}
use Rattle.netfile.specs.Places.{Says}
use Rattle.netfile.proofs.Places.{ReadsAs, wrong_at, all_three, all_four, fault_says, right_three, right_four, reads_as}

module _ (s : List ℕ) where
  -- Something is wrong: clause 9 applies.
  clause_9 : {p : ℕ} → Says s (λ A wrong right. wrong p) → read_from s ≡ call (file_table s) (file_done s)
  clause_9 {p} t =
      let applies : malformed s ≡ true = t _ _ _ in
      let place : wrong_place s ≡ p = t _ _ _ in
      let contents : contents_of s ≡ Err (malformed_at p) = t _ _ _ in
      let bodies : bodies_of s ≡ no_bodies = t _ _ _ in
      rw (applies, place, contents, bodies)

  -- Nothing is: the reading is done.
  no_line : {a e b f c g d h : ℕ} → Says s (λ A wrong right. right a e b f c g d h) → read_from s ≡ call (file_table s) (file_done s)
  no_line {c = c} {d = d} t =
      let applies : malformed s ≡ false = t _ _ _ in
      let questions : questions_at s ≡ c = t _ _ _ in
      let set : set_at s ≡ d = t _ _ _ in
      let contents : contents_of s ≡ Ok (c, d) = t _ _ _ in
      rw (applies, questions, set, contents)

  -- The file reader.
  pub file_called : read_from s ≡ call (file_table s) (file_done s)
  file_called = at (reads_as s)
    where
      at : ReadsAs s → read_from s ≡ call (file_table s) (file_done s)
      at (wrong_at p h) = clause_9 (fault_says s p h)
      at (all_three h) = no_line (right_three s h)
      at (all_four h) = no_line (right_four s h)
