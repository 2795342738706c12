-- The list that is computed from the reason's list is ours.
use Prim.Native.Nat.{ℕ, suc, ◌+◌, ◌-◌, ◌≤◌, ◌<◌}
use mathlib.Core.Path.{◌≡◌, refl, sym, ap, ◌∙◌}
use mathlib.Core.List.{List, [], ◌∷◌, ◌++◌}
use native.Mathlib.Omega.{arith}
use lib.Dec.{ltb}
use lib.ListN.{length, get_or, drop, length-append}
use borrow.Author.Tests.{eq-eqb, ne_eqb, ltb-true, lt-ltb, le-ltb}
use Rattle.theory.specs.Words.{Sign}
use Rattle.theory.specs.Reasons.{written}
use Rattle.theory.specs.Sequents.{→⊢}
use Rattle.proof_form.specs.Ours.{Hop, hop, climb, fall, over_turn, hops, object_start, object_hops, our_file}
use Rattle.proof_form.specs.FromReason.{hop_of, hops_from, start_at, from_reason}
use Rattle.proof_form.proofs.Accepting.{past, first_at, second_at}
use Rattle.proof_form.proofs.Building.{length_hops, length_fall}
use Rattle.proof_form.proofs.Tests.{by_test}

-- The links along the nodes q after u, which is node i.
along : List ℕ → ℕ → ℕ → ℕ → List ℕ → List Hop
along ws a i u [] = []
along ws a i u (v ∷ q) = hop_of ws a i u v ∷ along ws a (suc i) v q

-- Read from a list in which u and q stand.
read_along : (ws p : List ℕ) (i u : ℕ) (q : List ℕ) → drop (i + 2) p ≡ u ∷ q → hops_from ws p i (length q) ≡ along ws (get_or p 0 0) i u q
unfolding hops_from along
read_along ws p i u [] e = refl
read_along ws p i u (v ∷ q) e =
    let s : i + 2 + 1 ≡ i + 3 = omega arith in
    let eu : get_or p (i + 2) 0 ≡ u = first_at p (i + 2) u (v ∷ q) e in
    let ev : get_or p (i + 3) 0 ≡ v = rw s at (second_at p (i + 2) u v q e) in
    let after : drop (suc i + 2) p ≡ v ∷ q = past p (u ∷ []) (v ∷ q) (i + 2) (suc i + 2) e (omega arith) in
    rw (eu, ev, read_along ws p (suc i) v q after)

along_fall : (ws : List ℕ) (a i u : ℕ) (ys : List ℕ) → a ≤ i → along ws a i u ys ≡ fall u ys
unfolding along fall
along_fall ws a i u [] h = refl
along_fall ws a i u (v ∷ ys) h = rw (le-ltb (suc i) a (omega arith), ne_eqb (suc i) a (λ e. omega (arith, h, e)), along_fall ws a (suc i) v ys (omega arith))

along_turn : (ws : List ℕ) (a i u : ℕ) (ys : List ℕ) → suc i ≡ a → along ws a i u ys ≡ over_turn ws u ys
unfolding along over_turn
along_turn ws a i u [] e = refl
along_turn ws a i u (v ∷ ys) e = rw (le-ltb (suc i) a (omega arith), eq-eqb (suc i) a e, along_fall ws a (suc i) v ys (omega arith))

along_hops : (ws : List ℕ) (a i u : ℕ) (xs ys : List ℕ) → suc (i + length xs) ≡ a → along ws a i u (xs ++ ys) ≡ hops ws u xs ys
unfolding along hops climb
along_hops ws a i u [] ys e = along_turn ws a i u ys (omega arith)
along_hops ws a i u (v ∷ xs) ys e = rw (lt-ltb (suc i) a (omega arith)) (ap (λ z. hop →⊢ u v ∷ z) (along_hops ws a (suc i) v xs ys (omega arith)))

kind_hops : (ws : List ℕ) (x : ℕ) (xs ys : List ℕ) → hops_from ws (written x xs ys) 0 (length (xs ++ ys)) ≡ hops ws x xs ys
kind_hops ws x xs ys = read_along ws (written x xs ys) 0 x (xs ++ ys) refl ∙ along_hops ws (suc (length xs)) 0 x xs ys (omega arith)

-- From link 1 on.
object_hops_lem : (ws : List ℕ) (x : ℕ) (xs ys : List ℕ) → hops_from ws (written x xs ys) 1 (length (xs ++ ys) - 1) ≡ object_hops ws xs ys
unfolding object_hops hops_from
object_hops_lem ws x [] [] = refl
object_hops_lem ws x [] (v ∷ ys) =
    let n : suc (length ys) - 1 ≡ length ys = omega arith in
    rw n (read_along ws (written x [] (v ∷ ys)) 1 v ys refl ∙ along_fall ws 1 1 v ys (omega arith))
object_hops_lem ws x (v ∷ xs) ys =
    let n : suc (length (xs ++ ys)) - 1 ≡ length (xs ++ ys) = omega arith in
    rw n (read_along ws (written x (v ∷ xs) ys) 1 v (xs ++ ys) refl ∙ along_hops ws (suc (suc (length xs))) 1 v xs ys (omega arith))

object_start_lem : (x : ℕ) (xs ys : List ℕ) → 0 < length xs + length ys → start_at x (written x xs ys) ≡ object_start x xs ys
unfolding object_start
object_start_lem x [] [] h = absurd (omega arith)
object_start_lem x [] (v ∷ ys) h = refl
object_start_lem x (v ∷ xs) ys h = rw (ne_eqb (suc (suc (length xs))) 1 (λ e. omega (arith, e)))

length_object : (ws xs ys : List ℕ) → length (object_hops ws xs ys) ≡ length (xs ++ ys) - 1
unfolding object_hops
length_object ws [] [] = refl
length_object ws [] (v ∷ ys) = let e = length_fall v ys in omega arith
length_object ws (v ∷ xs) ys = let e = length_hops ws v xs ys in let f = length-append xs ys in omega arith

-- What the writer computes from a reason is our list.
pub from_reason_lem : (o n : ℕ) (ws : List ℕ) (x y : ℕ) (s : Sign) (xs ys : List ℕ) → (x < o → 0 < length xs + length ys)
    → from_reason o n ws x y s (written x xs ys) (length (xs ++ ys)) ≡ our_file o n ws x y s xs ys
unfolding from_reason our_file
from_reason_lem o n ws x y s xs ys h =
    let ek : length (hops ws x xs ys) ≡ length (xs ++ ys) = length_hops ws x xs ys ∙ sym (length-append xs ys) in
    by_test (λ b. b ≡ our_file o n ws x y s xs ys) (ltb x o) _ _
    (λ t. rw (t, object_hops_lem ws x xs ys, object_start_lem x xs ys (h (ltb-true x o t)), length_object ws xs ys))
    (λ t. rw (t, kind_hops ws x xs ys, ek))
