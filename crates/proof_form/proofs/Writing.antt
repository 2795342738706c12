-- Laws for a writer that goes link by link: sizes of the parts of our list, and each part as a loop sees it.
use Prim.Native.Nat.{ℕ, zero, suc, ◌+◌, ◌-◌, ◌*◌, ◌<◌}
use mathlib.Core.Path.{◌≡◌, refl, ap, ◌∙◌}
use mathlib.Core.List.{List, [], ◌∷◌, ◌++◌}
use native.Mathlib.Omega.{arith}
use lib.ListN.{length, length-append}
use Rattle.proof_form.specs.Ours.{Hop, use_step, axiom_step, close_step, use_steps, close_steps, nested, chain_file}
use Rattle.proof_form.specs.FromReason.{hop_at, hops_from}

-- ── sizes ──
pub length_uses : (a : ℕ) (hs : List Hop) → length (use_steps a hs) ≡ 3 * length hs
unfolding use_steps
length_uses a [] = refl
length_uses a (h ∷ hs) = let e = length_uses a hs in let f = length-append (use_steps a hs) (use_step a h) in omega arith

pub length_closes : (a : ℕ) (hs : List Hop) → length (close_steps a hs) ≡ 3 * length hs
unfolding close_steps
length_closes a [] = refl
length_closes a (h ∷ hs) = let e = length_closes a hs in omega arith

pub length_nested : (b i m : ℕ) → length (nested b i m) ≡ 2 * m
unfolding nested
length_nested b i zero = refl
length_nested b i (suc m) = let e = length_nested b (suc i) m in omega arith

-- Room for the whole list: 8m + 6 places, and the steps above.
pub length_chain : (i : ℕ) (above : List ℕ) (a g : ℕ) (hs : List Hop) → length (chain_file i above a g hs (length hs)) ≡ 8 * length hs + 6 + length above
unfolding chain_file
length_chain i above a g hs =
    let m = length hs in
    let b = suc (2 * suc m) in
    let u = length_uses a hs in
    let c = length_closes a hs in
    let n = length_nested b i m in
    let p = length-append (use_steps a hs) (axiom_step a g ++ close_steps a hs) in
    let q = length-append above (use_steps a hs ++ (axiom_step a g ++ close_steps a hs)) in
    let r = length-append (nested b i m) (above ++ (use_steps a hs ++ (axiom_step a g ++ close_steps a hs))) in
    omega arith

-- ── the parts, as loops see them: m links of p from link i on ──
module _ (ws p : List ℕ) (a : ℕ) where
  -- The links are used from the last down: what stands for the links from i on is followed by link i's own step.
  pub uses_go : (i m : ℕ) → use_steps a (hops_from ws p i (suc m)) ≡ use_steps a (hops_from ws p (suc i) m) ++ use_step a (hop_at ws p i)
  unfolding use_steps hops_from
  uses_go i m = refl

  -- The axioms go up: one more behind.
  pub closes_go : (i m : ℕ) → close_steps a (hops_from ws p i (suc m)) ≡ close_steps a (hops_from ws p i m) ++ close_step a (hop_at ws p (i + m))
  unfolding close_steps hops_from
  closes_go i zero = let e : i + 0 ≡ i = omega arith in rw e
  closes_go i (suc m) =
      let e : i + suc m ≡ suc i + m = omega arith in
      let w = close_step a (hop_at ws p i) in
      ap (λ z. w ++ z) (closes_go (suc i) m) ∙ rw e

  pub length_from : (i m : ℕ) → length (hops_from ws p i m) ≡ m
  unfolding hops_from
  length_from i zero = refl
  length_from i (suc m) = ap suc (length_from (suc i) m)

-- Contents: one entry more behind, of a branch that is two steps shorter for each inside it.
pub nested_go : (b i j m : ℕ) → j < m → (l : List ℕ) → l ≡ nested b (i + j) (m - j) → l ≡ (b + 3 * suc (i + j)) ∷ suc (2 * (m - suc j)) ∷ nested b (i + suc j) (m - suc j)
unfolding nested
nested_go b i j m h l e =
    let n : m - j ≡ suc (m - suc j) = omega arith in
    let k : i + suc j ≡ suc (i + j) = omega arith in
    e ∙ rw (n, k)
