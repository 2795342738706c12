-- The three parts of a body, one behind the other.
use Prim.Native.Nat.{ℕ, suc, ◌+◌, ◌-◌, ◌*◌, ◌%◌, ◌≤◌}
use mathlib.Core.Path.{◌≡◌, refl, ap, ◌∙◌}
use mathlib.Core.List.{List, [], ◌∷◌, ◌++◌, append_assoc}
use native.Mathlib.Omega.{arith}
use lib.ListN.{length, take, drop, set, length-append}
use Rattle.theory_laws.specs.Over.{over}
use Rattle.theory_laws.proofs.Over.{over_more}
use Rattle.proof_form.specs.Ours.{use_steps, axiom_step, close_steps, nested, chain_file}
use Rattle.proof_body.specs.Front.{contents_of}
use Rattle.proof_form.specs.FromReason.{hops_from}
use Rattle.proof_form.proofs.Writing.{length_uses, length_nested, length_from}
use Rattle.proof_step.proofs.Uses.{three_over}

pub body_written : (ws p : List ℕ) (f m a g : ℕ) (l xs ys zs : List ℕ) → 6 * m + 3 ≤ length l → xs ≡ over (use_steps a (hops_from ws p f m)) l
    → ys ≡ set (set (set xs (3 * m) (g % 2)) (3 * m + 1) a) (3 * m + 2) g
    → zs ≡ over (close_steps a (hops_from ws p f m)) (take (length ys - (3 * m + 3)) (drop (3 * m + 3) ys))
    → take (3 * m + 3) ys ++ (zs ++ drop (length ys - (3 * m + 3)) (drop (3 * m + 3) ys)) ≡ over (use_steps a (hops_from ws p f m) ++ (axiom_step a g ++ close_steps a (hops_from ws p f m))) l
body_written ws p f m a g l xs ys zs h ex ey ez =
    let hs = hops_from ws p f m in
    let lu = length_uses a hs in
    let lf = length_from ws p a f m in
    let la = length-append (use_steps a hs) (axiom_step a g) in
    let ey' : ys ≡ over (use_steps a hs ++ axiom_step a g) l = ey ∙ three_over (use_steps a hs) l xs (3 * m) (g % 2) a g ex (omega arith) (omega arith) in
    over_more (use_steps a hs ++ axiom_step a g) (close_steps a hs) l ys zs (3 * m + 3) (omega arith) (omega arith) ey' ez
    ∙ ap (λ z. over z l) (append_assoc (use_steps a hs) (axiom_step a g) (close_steps a hs))

-- The contents.
pub front_written : (i m b x y z : ℕ) (l ys zs : List ℕ) → 2 * m + 3 ≤ length l → b ≡ 2 * m + 3 → x ≡ m + 1 → y ≡ 2 * m + 3 → z ≡ i + 2 * m + 1 → ys ≡ set (set (set l 0 x) 1 y) 2 z
    → zs ≡ over (nested b i m) (take (length ys - 3) (drop 3 ys)) → take 3 ys ++ (zs ++ drop (length ys - 3) (drop 3 ys)) ≡ over (contents_of i m) l
front_written i m b x y z l ys zs h eb ex ey ez e f =
    let b' : b ≡ suc (2 * suc m) = omega arith in
    let x' : x ≡ suc m = omega arith in
    let y' : y ≡ suc (2 * suc m) = omega arith in
    let z' : z ≡ i + suc (2 * m) = omega arith in
    let e' : ys ≡ over (x ∷ y ∷ z ∷ []) l = e ∙ three_over [] l l 0 x y z refl refl (omega arith) in
    let q : (x ∷ y ∷ z ∷ []) ++ nested b i m ≡ contents_of i m = rw (b', x', y', z') in
    over_more (x ∷ y ∷ z ∷ []) (nested b i m) l ys zs 3 refl (omega arith) e' f ∙ ap (λ w. over w l) q

length_contents : (i m : ℕ) → length (contents_of i m) ≡ 2 * m + 3
length_contents i m = let e = length_nested (suc (2 * suc m)) i m in omega arith

-- The whole list of an object's statement.
pub object_written : (ws p : List ℕ) (m a g : ℕ) (l xs ys : List ℕ) → 8 * m + 6 ≤ length l → xs ≡ over (contents_of 0 m) l
    → ys ≡ over (use_steps a (hops_from ws p 1 m) ++ (axiom_step a g ++ close_steps a (hops_from ws p 1 m))) (take (length xs - (2 * m + 3)) (drop (2 * m + 3) xs))
    → take (2 * m + 3) xs ++ (ys ++ drop (length xs - (2 * m + 3)) (drop (2 * m + 3) xs)) ≡ over (chain_file 0 [] a g (hops_from ws p 1 m) m) l
unfolding chain_file
object_written ws p m a g l xs ys h ex ey =
    over_more (contents_of 0 m) (use_steps a (hops_from ws p 1 m) ++ (axiom_step a g ++ close_steps a (hops_from ws p 1 m))) l xs ys (2 * m + 3) (length_contents 0 m) (omega arith) ex ey

-- And of a kind's.
pub kind_written : (ws p : List ℕ) (m r n t a g : ℕ) (l xs zs ys : List ℕ) → 8 * m + 9 ≤ length l → xs ≡ over (contents_of 1 m) l
    → zs ≡ set (set (set xs (2 * m + 3) r) (2 * m + 3 + 1) n) (2 * m + 3 + 2) t
    → ys ≡ over (use_steps a (hops_from ws p 0 m) ++ (axiom_step a g ++ close_steps a (hops_from ws p 0 m))) (take (length zs - (2 * m + 3 + 3)) (drop (2 * m + 3 + 3) zs))
    → take (2 * m + 3 + 3) zs ++ (ys ++ drop (length zs - (2 * m + 3 + 3)) (drop (2 * m + 3 + 3) zs)) ≡ over (chain_file 1 (r ∷ n ∷ t ∷ []) a g (hops_from ws p 0 m) m) l
unfolding chain_file
kind_written ws p m r n t a g l xs zs ys h ex ez ey =
    let body = use_steps a (hops_from ws p 0 m) ++ (axiom_step a g ++ close_steps a (hops_from ws p 0 m)) in
    let k = length_contents 1 m in
    let q = length-append (contents_of 1 m) (r ∷ n ∷ t ∷ []) in
    let e : zs ≡ over (contents_of 1 m ++ (r ∷ n ∷ t ∷ [])) l = ez ∙ three_over (contents_of 1 m) l xs (2 * m + 3) r n t ex k (omega arith) in
    over_more (contents_of 1 m ++ (r ∷ n ∷ t ∷ [])) body l zs ys (2 * m + 3 + 3) (omega arith) (omega arith) e ey
    ∙ ap (λ z. over z l) (append_assoc (contents_of 1 m) (r ∷ n ∷ t ∷ []) body)
