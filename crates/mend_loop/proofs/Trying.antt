-- One word tried, in the terms of the code.
use Prim.Native.Nat.{ℕ, suc, ◌+◌, ◌≤◌, ◌<◌}
use mathlib.Core.Path.{◌≡◌, sym, ◌∙◌}
use mathlib.Core.List.Memᴰ
use mathlib.Core.List.{List, [], ◌∷◌, ◌++◌, append_assoc, Memᴰ}
use mathlib.Core.Logic.{⊎_elim}
use native.Mathlib.Omega.{arith}
use native.Mathlib.Numerals.{add-one}
use lib.ListN.{length, get_or, take, drop, set, length-set}
use lib.Seq.{length-take-le, take-suc-set, set-set, set-get_or, sets-eq}
use Rattle.theory.specs.Inside.{Ends, Inside}
use Rattle.theory.specs.Mending.{clashing_node, clashing_kind}

only : {n : ℕ} (v w : ℕ) → Ends n w → Memᴰ v (w ∷ []) → Ends n v
only v w d m = ⊎_elim (λ e. rw e d) (λ z. elim z [ ]) (Memᴰ.cases_cons m)

-- A word stored at place i stands behind the i words before it.
module _ (l : List ℕ) (i w : ℕ) (h : i < length l) where
  pub one_more : take (i + 1) (set l i w) ≡ take i l ++ w ∷ []
  one_more = rw (add-one i) (take-suc-set l i w h)

  pub more_long : i + 1 ≡ length (take (i + 1) (set l i w))
  more_long = sym (length-take-le (i + 1) (set l i w) (omega (arith, length-set l i w)))

  pub more_inside : (n : ℕ) → Inside n (take i l) → Ends n w → Inside n (take (i + 1) (set l i w))
  more_inside n e d = rw one_more (λ v m. ⊎_elim (e v) (only v w d) (Memᴰ.append_cases (take i l) m))

  -- The same of the node and the kind that a try finds.
  module _ (n : ℕ) {node : ℕ} (f : node ≡ clashing_node n (take (i + 1) (set l i w)) w) where
    pub node_found : node ≡ clashing_node n (take i l ++ w ∷ []) w
    node_found = rw one_more at f

    pub kind_found : (o k : ℕ) {kind : ℕ} → kind ≡ clashing_kind o k (take (i + 1) (set l i w)) node → kind ≡ clashing_kind o k (take i l ++ w ∷ []) node
    kind_found o k e = rw one_more at e

  -- What stood at the place is put back.
  pub put_back : set (set l i w) i (get_or l i 0) ≡ l
  put_back = set-set l i w (get_or l i 0) ∙ set-get_or l i 0

-- Three numbers stored one after another.
pub three : (l : List ℕ) (i a b c : ℕ) → i + 3 ≤ length l → set (set (set l i a) (i + 1) b) (i + 2) c ≡ take i l ++ a ∷ b ∷ c ∷ drop (i + 3) l
three l i a b c h =
    let p : i + 1 ≡ suc i = omega arith in
    let q : i + 2 ≡ suc (suc i) = omega arith in
    rw (p, q) (sets-eq (a ∷ b ∷ c ∷ []) l i h ∙ append_assoc (take i l) (a ∷ b ∷ c ∷ []) (drop (i + 3) l))
