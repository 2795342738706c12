-- The numbers of a proof: how many its steps and its branches make, and which measure bounds which.
use Prim.Native.Nat.{ℕ, suc, ◌+◌, ◌*◌, ◌≤◌, ◌<◌}
use mathlib.Core.Path.{◌≡◌, refl, ap, ◌∙◌}
use mathlib.Core.List.{List}
use native.Mathlib.Omega.{arith}
use lib.ListN.{length, length-append, length-drop}
use Rattle.theory.specs.Words.{Sign}
use Rattle.theory.specs.Sequents.{Proof, ax, right, left}
use Rattle.theory.specs.ProofFiles.{proof_size, proof_depth, left_steps, proof_steps, proof_branches, proof_file, list_limit, Faulty, deep, broken, in_right, in_left, in_main, FaultAt}

pub length_steps : {o k : ℕ} {Γ : List ℕ} {x y : ℕ} {s : Sign} (p : Proof o k Γ x y s) → length (proof_steps p) ≡ 3 * proof_size p
unfolding proof_steps proof_size
length_steps (ax i m) = refl
length_steps (right h f d) = let e = length_steps d in omega arith
length_steps (left r a p q i hp hq m d e) = let f = length_steps d in let g = length_steps e in let n = length-append (proof_steps d) (proof_steps e) in omega arith

pub length_branches : {o k : ℕ} {Γ : List ℕ} {x y : ℕ} {s : Sign} (b i : ℕ) (p : Proof o k Γ x y s) → length (proof_branches b i p) ≡ 2 * left_steps p
unfolding proof_branches left_steps
length_branches b i (ax j m) = refl
length_branches b i (right h f d) = length_branches b (suc i) d
length_branches b i (left r a p q j hp hq m d e) =
    let f = length_branches b (suc i) d in
    let g = length_branches b (suc i + proof_size d) e in
    let n = length-append (proof_branches b (suc i) d) (proof_branches b (suc i + proof_size d) e) in omega arith

pub length_file : {o k : ℕ} {Γ : List ℕ} {x y : ℕ} {s : Sign} (p : Proof o k Γ x y s) → length (proof_file p) ≡ 3 + 2 * left_steps p + 3 * proof_size p
unfolding proof_file
length_file p =
    let n = suc (left_steps p) in
    let b = suc (2 * n) in
    let lb = length_branches b 0 p in
    let ls = length_steps p in
    let la = length-append (proof_branches b 0 p) (proof_steps p) in omega arith

-- There is a sequent on each branch.
pub depth_one : {o k : ℕ} {Γ : List ℕ} {x y : ℕ} {s : Sign} (p : Proof o k Γ x y s) → 1 ≤ proof_depth p
unfolding proof_depth
depth_one (ax i m) = omega arith
depth_one (right h f d) = omega arith
depth_one (left r a p q i hp hq m d e) = omega arith

-- A proof has more steps than left premises.
pub left_steps_size : {o k : ℕ} {Γ : List ℕ} {x y : ℕ} {s : Sign} (p : Proof o k Γ x y s) → left_steps p ≤ proof_size p
unfolding left_steps proof_size
left_steps_size (ax i m) = omega arith
left_steps_size (right h f d) = let e = left_steps_size d in omega arith
left_steps_size (left r a p q i hp hq m d e) = let f = left_steps_size d in let g = left_steps_size e in omega arith

-- A step at fault is one of the list's, so that its number is never the number for no one step.
faulty_inside : {o k d : ℕ} {Γ : List ℕ} {x y : ℕ} {s : Sign} {l : List ℕ} {i : ℕ} → Faulty o k d Γ x y s l i → 3 * suc i ≤ length l
faulty_inside deep = omega arith
faulty_inside (broken c) = omega arith
faulty_inside (in_right c f) = let e = faulty_inside f in omega arith
faulty_inside (in_left c f) = let e = faulty_inside f in omega arith
faulty_inside (in_main {l = l} {m = m} c p h e f) =
    let g = faulty_inside f in
    let n = length_steps p in
    let a = ap length e ∙ length-append (proof_steps p) m in omega (arith, g, n, a)

pub fault_small : {o k : ℕ} {ws : List ℕ} {x y : ℕ} {s : Sign} {l : List ℕ} {i : ℕ} → FaultAt o k ws x y s l i → i < list_limit
fault_small {l = l} f =
    let n = faulty_inside f.fault in
    let e = length-drop (suc (2 * f.count)) l in
    let h = f.short in omega (arith, n, e, h)
