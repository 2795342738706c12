-- What the bytes and the marks are: byte i is that of pair i, and the marks are those of the last pair that may be asked.
use Prim.Native.Nat.{ℕ, zero, suc, ◌+◌, ◌<◌, ◌≤◌}
use mathlib.Core.Path.{◌≡◌, refl, ap, ◌∙◌}
use mathlib.Core.Bool.{Bool, true, false, cond}
use mathlib.Core.List.{List, ◌++◌}
use native.Mathlib.Omega.{arith}
use native.Mathlib.Decide.{dec_lt}
use lib.ListN.{length, get_or, drop}
use lib.Seq.{drop_at}
use Rattle.theory_laws.proofs.Deciding.{decides_not}
use Rattle.theory.specs.Scans.{full_scan}
use Rattle.net.specs.Good.{GoodPair}
use Rattle.net.specs.Table.{bad_pair}
use Rattle.net.proofs.Good.{good_pair}
use Rattle.questions.specs.Pairs.{pairs_in, subject_at, kind_at, LastGood}
use Rattle.questions.specs.Table.{answer_byte, marks_after, answers_from, marks_from}

module _ (o n : ℕ) (ws ps : List ℕ) where
  -- Pair i may be asked.
  abbrev Good : ℕ → Type 0
  Good i = GoodPair o n (subject_at ps i) (kind_at ps i)

  -- The byte at v is that of the pair v further on.
  pub byte_at : (i j v : ℕ) → v < j → get_or (answers_from o n ws ps i j) v 0 ≡ answer_byte o n ws (subject_at ps (i + v)) (kind_at ps (i + v))
  unfolding answers_from
  byte_at i zero v h = absurd (omega arith)
  byte_at i (suc j) zero h =
      let e : i ≡ i + 0 = omega arith in
      ap (λ (w : ℕ). answer_byte o n ws (subject_at ps w) (kind_at ps w)) e
  byte_at i (suc j) (suc v) h =
      let e : suc i + v ≡ i + suc v = omega arith in
      byte_at (suc i) j v (omega arith) ∙ ap (λ (w : ℕ). answer_byte o n ws (subject_at ps w) (kind_at ps w)) e

  -- Where none of j pairs from i on may be asked, the marks stay.
  none_from : (i j : ℕ) (m : List ℕ) → ((v : ℕ) → i ≤ v → v < i + j → Good v → ⊥) → marks_from o n ws ps i j m ≡ m
  unfolding marks_from
  none_from i zero m h = refl
  none_from i (suc j) m h =
      let bad : bad_pair o n (subject_at ps i) (kind_at ps i) ≡ true =
      (decides_not (bad_pair o n (subject_at ps i) (kind_at ps i)) (good_pair o n (subject_at ps i) (kind_at ps i))).1 (h i (omega arith) (omega arith)) in
      rw bad (none_from (suc i) j m (λ v a b. h v (omega arith) (omega arith)))

  -- A scan from a node has a byte for each node.
  module _ (long : (x : ℕ) → x < n → length (full_scan n ws x).marks ≡ n) where
    -- No pair moves the bytes past the nodes.
    past : (x y : ℕ) (m : List ℕ) → drop n (marks_after o n ws x y m) ≡ drop n m
    past x y m = at (bad_pair o n x y) refl
      where
        at : (bad : Bool) → bad_pair o n x y ≡ bad → drop n (cond bad m ((full_scan n ws x).marks ++ drop n m)) ≡ drop n m
        at true e = refl
        at false e = drop_at (full_scan n ws x).marks (drop n m) n (long x ((good_pair o n x y).0 e).node)

    -- Where v is the last of j pairs from i on that may be asked, its scan is what is left.
    last_from : (i j v : ℕ) (m : List ℕ) → i ≤ v → v < i + j → Good v → ((w : ℕ) → v < w → w < i + j → Good w → ⊥) → marks_from o n ws ps i j m ≡ (full_scan n ws (subject_at ps v)).marks ++ drop n m
    unfolding marks_from
    last_from i zero v m a b g h = absurd (omega arith)
    last_from i (suc j) v m a b g h =
        pick (dec_lt i v) (λ (l : i < v).
        last_from (suc i) j v (marks_after o n ws (subject_at ps i) (kind_at ps i) m) (omega (arith, l)) (omega arith) g (λ w c d. h w c (omega (arith, d)))
        ∙ ap (λ (q : List ℕ). (full_scan n ws (subject_at ps v)).marks ++ q) (past (subject_at ps i) (kind_at ps i) m))
      where
        pick : Dec (i < v) → (i < v → marks_from o n ws ps (suc i) j (marks_after o n ws (subject_at ps i) (kind_at ps i) m) ≡ (full_scan n ws (subject_at ps v)).marks ++ drop n m)
            → marks_from o n ws ps (suc i) j (marks_after o n ws (subject_at ps i) (kind_at ps i) m) ≡ (full_scan n ws (subject_at ps v)).marks ++ drop n m
        pick (yes l) later = later l
        pick (no l) later =
            let here : i ≡ v = omega (arith, a, l) in
            none_from (suc i) j (marks_after o n ws (subject_at ps i) (kind_at ps i) m) (λ w c d. h w (omega (arith, here, c)) (omega (arith, d)))
            ∙ rw (here, (good_pair o n (subject_at ps v) (kind_at ps v)).1 g)

    -- So of all pairs.
    pub marks_last : (v : ℕ) (m : List ℕ) → LastGood o n ps v → marks_from o n ws ps 0 (pairs_in ps) m ≡ (full_scan n ws (subject_at ps v)).marks ++ drop n m
    marks_last v m l = last_from 0 (pairs_in ps) v m (omega arith) (omega (arith, l.below)) l.good (λ w c d. l.last w c (omega (arith, d)))

  pub marks_none : (m : List ℕ) → ((v : ℕ) → v < pairs_in ps → Good v → ⊥) → marks_from o n ws ps 0 (pairs_in ps) m ≡ m
  marks_none m h = none_from 0 (pairs_in ps) m (λ v a b. h v (omega (arith, b)))
