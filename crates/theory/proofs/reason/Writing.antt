-- A path as it is written: its states give its list, and the list gives the path back.
use Prim.Native.Nat.{ℕ, suc, ◌+◌, ◌-◌, ◌<◌}
use mathlib.Core.Path.{◌≡◌, refl, sym, ◌∙◌, ap}
use mathlib.Core.List.{List, [], ◌∷◌, ◌++◌, map, head-eq_of_cons-eq, tail-eq_of_cons-eq}
use native.Mathlib.Omega.{arith}
use lib.ListN.{length, take, drop}
use lib.Seq.{take-append_seam, drop-append_seam}
use Rattle.theory.specs.Words.{Sign, is, isnt}
use Rattle.theory.specs.Nets.{Statements}
use Rattle.theory.specs.Reasons.{FirstLinks, Strict, coded, written}
use Rattle.theory.specs.Searches.{firsts, node_of, reason_list}
use Rattle.theory.proofs.Legal.{Legal}
use Rattle.theory.proofs.reason.Routes.{coded_length}
use Rattle.theory.proofs.reason.States.{firsts_first, firsts_second, node_first, node_second}

-- All are below n.
abbrev pub Below : ℕ → List ℕ → Type 0
Below n [] = Unit {0}
Below n (v ∷ p) = (v < n) × Below n p

first_below : (o k : ℕ) (L : Statements) → Legal o k L → (x : ℕ) (xs : List ℕ) → FirstLinks L x xs → Below (o + k) xs
first_below o k L h x [] f = tt
first_below o k L h x (y ∷ xs) f = ((h.head x y is f.0).high, first_below o k L h y xs f.1)

-- The first part of a path consists of nodes.
pub strict_below : (o k : ℕ) (L : Statements) → Legal o k L → (x y : ℕ) (s : Sign) (xs ys : List ℕ) → Strict L x xs ys y s → Below (o + k) xs
strict_below o k L h x y is xs [] p = first_below o k L h x xs p.0
strict_below o k L h x y is xs (z ∷ zs) p = absurd p
strict_below o k L h x y isnt xs [] p = absurd p
strict_below o k L h x y isnt xs (z ∷ zs) p = first_below o k L h x xs p.0

module _ (n : ℕ) where
  second_firsts : (ys : List ℕ) → firsts n (map (λ v. n + v) ys) ≡ 0
  unfolding firsts
  second_firsts [] = refl
  second_firsts (y ∷ ys) = firsts_second n (n + y) (map (λ v. n + v) ys) (omega arith) ∙ second_firsts ys

  coded_firsts : (xs ys : List ℕ) → Below n xs → firsts n (coded n xs ys) ≡ length xs
  coded_firsts [] ys b = second_firsts ys
  coded_firsts (x ∷ xs) ys b = firsts_first n x (coded n xs ys) b.0 ∙ ap suc (coded_firsts xs ys b.1)

  second_nodes : (ys : List ℕ) → map (node_of n) (map (λ v. n + v) ys) ≡ ys
  second_nodes [] = refl
  second_nodes (y ∷ ys) =
      let f : node_of n (n + y) ≡ y = node_second n (n + y) (omega arith) ∙ omega arith in
      let e = second_nodes ys in cc

  coded_nodes : (xs ys : List ℕ) → Below n xs → map (node_of n) (coded n xs ys) ≡ xs ++ ys
  coded_nodes [] ys b = second_nodes ys
  coded_nodes (x ∷ xs) ys b =
      let f = node_first n x b.0 in
      let e = coded_nodes xs ys b.1 in cc

  -- The list made of a path's states is the path as it is written.
  pub list_written : (x : ℕ) (xs ys : List ℕ) → Below n xs → reason_list n x (coded n xs ys) ≡ written x xs ys
  unfolding reason_list
  list_written x xs ys b =
      let f = coded_firsts xs ys b in
      let g : length (coded n xs ys) - firsts n (coded n xs ys) ≡ length ys = omega (arith, coded_length n xs ys, f) in
      let e = coded_nodes xs ys b in cc

append_injective : (xs ys us vs : List ℕ) → length xs ≡ length us → xs ++ ys ≡ us ++ vs → (xs ≡ us) × (ys ≡ vs)
append_injective xs ys us vs l e = (
  sym (take-append_seam xs ys) ∙ ap (take (length xs)) e ∙ ap (λ (j : ℕ). take j (us ++ vs)) l ∙ take-append_seam us vs,
  sym (drop-append_seam xs ys) ∙ ap (drop (length xs)) e ∙ ap (λ (j : ℕ). drop j (us ++ vs)) l ∙ drop-append_seam us vs,
)

-- Two paths that are written alike are one.
pub written_injective : (x : ℕ) (xs ys us vs : List ℕ) → written x xs ys ≡ written x us vs → (xs ≡ us) × (ys ≡ vs)
written_injective x xs ys us vs e =
    let h = head-eq_of_cons-eq e in
    append_injective xs ys us vs (omega arith) (tail-eq_of_cons-eq (tail-eq_of_cons-eq (tail-eq_of_cons-eq e)))
