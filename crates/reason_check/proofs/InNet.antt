-- A list that names a node outside the net fails: every node of a path is the start, or an end of a link, or a kind.
use Rattle.std.specs.Prelude.{Ok, false}
use Prim.Native.Nat.{ℕ, ◌+◌, ◌<◌, ◌≤◌}
use mathlib.Core.Path.{◌≡◌}
use mathlib.Core.List.{List, [], ◌∷◌, ◌++◌, Memᴰ}
use mathlib.Core.Logic.{inl, inr, ⊎_elim}
use native.Mathlib.Omega.{arith}
use lib.ListN.{drop}
use Rattle.theory.specs.Words.{Sign, is, isnt, sign_at}
use Rattle.theory.specs.Nets.{Statements, Links}
use Rattle.theory.specs.Paths.{Step, First, Crossing, Second, Shows}
use Rattle.theory.specs.Reasons.{written}
use Rattle.theory.specs.Checks.{Passes}
use Rattle.theory.specs.Origins.{chosen}
use Rattle.theory.proofs.Legal.{Legal, legal_links}
use Rattle.theory.proofs.origins.Statements.{chosen_net}
use Rattle.net.specs.Good.{GoodStatement}
use Rattle.reason_check.specs.Table.{verdict}
use Rattle.reason_check.proofs.Exactly.{Accepted, fails_exactly}

-- All of these are nodes of a net of n.
abbrev AllNodes : ℕ → List ℕ → Type 0
AllNodes n l = (v : ℕ) → Memᴰ v l → v < n

no_nodes : {n : ℕ} → AllNodes n []
no_nodes v m = absurd (mathlib.Core.List.Memᴰ.not-nil m)

one_node_more : {n u : ℕ} {l : List ℕ} → u < n → AllNodes n l → AllNodes n (u ∷ l)
one_node_more h r v m = ⊎_elim (λ e. rw e h) (r v) (mathlib.Core.List.Memᴰ.cases_cons m)

nodes_joined : {n : ℕ} (s t : List ℕ) → AllNodes n s → AllNodes n t → AllNodes n (s ++ t)
nodes_joined s t p q v m = ⊎_elim (p v) (q v) (mathlib.Core.List.Memᴰ.append_cases s m)

module _ (o k : ℕ) (L : Statements) (legal : Legal o k L) where
  -- A step leads to a node and comes from one; a crossing leads to one.
  step_to : (a b : ℕ) → Step o k L a b → b < o + k
  step_to a b (inl l) = (legal.head a b is l).high
  step_to a b (inr h) = rw (← h.0) h.1.high

  step_from : (a b : ℕ) → Step o k L a b → a < o + k
  step_from a b (inl l) = legal.tail a b is l
  step_from a b (inr h) = h.1.high

  crossing_to : (u v : ℕ) → Crossing L u v → v < o + k
  crossing_to u v (inl l) = (legal.head u v isnt l).high
  crossing_to u v (inr l) = legal.tail v u isnt l

  first_part_nodes : (x : ℕ) (xs : List ℕ) → First o k L x xs → AllNodes (o + k) xs
  first_part_nodes x [] f = no_nodes
  first_part_nodes x (y ∷ ys) f = one_node_more (step_to x y f.0) (first_part_nodes y ys f.1)

  second_part_nodes : (y : ℕ) (ys : List ℕ) → Second o k L y ys → AllNodes (o + k) ys
  second_part_nodes y [] f = no_nodes
  second_part_nodes y (z ∷ zs) f = one_node_more (step_from z y f.0) (second_part_nodes z zs f.1)

  shown_nodes : (x : ℕ) (xs ys : List ℕ) (y : ℕ) (s : Sign) → x < o + k → Shows o k L x xs ys y s → AllNodes (o + k) (x ∷ (xs ++ ys))
  shown_nodes x xs [] y is h p = one_node_more h (nodes_joined xs [] (first_part_nodes x xs p.0) no_nodes)
  shown_nodes x xs [] y isnt h p = absurd p
  shown_nodes x xs (z ∷ zs) y is h p = absurd p
  shown_nodes x xs (z ∷ zs) y isnt h p =
      one_node_more h
      (nodes_joined xs (z ∷ zs) (first_part_nodes x xs p.0) (one_node_more (crossing_to _ z p.1) (second_part_nodes z zs p.2)))

-- Of what may be asked of a net: a list with a node outside it, past the two sizes, fails, whatever the set.
pub outside_fails : (o k : ℕ) (ws : List ℕ) (set x y sign : ℕ) (l : List ℕ) → Accepted o k ws set → GoodStatement o (o + k) x y sign
    → (v : ℕ) → Memᴰ v (drop 2 l) → o + k ≤ v → verdict o k ws set x y sign l ≡ Ok false
outside_fails o k ws set x y sign l net may v m h = (fails_exactly o k ws set x y sign l).1 (net, may, no_path)
  where
    no_path : Passes o k (chosen set ws) x y (sign_at sign) l → ⊥
    no_path p =
        let n : Memᴰ v (drop 2 (written x p.first p.second)) = rw p.form at m in
        let legal = legal_links o k (chosen set ws) (chosen_net set o k ws net.1).legal in
        let b : v < o + k =
        shown_nodes o k (Links (chosen set ws)) legal x p.first p.second y (sign_at sign) may.pair.node p.shows v n in
        omega arith
