-- One step more in front of the list: the last link comes first.
use Prim.Native.Nat.{ℕ, suc, ◌+◌, ◌-◌, ◌*◌, ◌/◌, ◌≤◌, ◌<◌}
use mathlib.Core.Path.{◌≡◌, refl, ap, ◌∙◌}
use mathlib.Core.List.{List, [], ◌∷◌, ◌++◌, append_assoc}
use native.Mathlib.Omega.{arith}
use native.Mathlib.Numerals.{add-one}
use lib.ListN.{length, set}
use Rattle.theory_laws.specs.Over.{over}
use Rattle.theory_laws.proofs.Over.{over_one}
use Rattle.theory.specs.Words.{sign_number, word}
use Rattle.theory.specs.Sequents.{LeftRule, →⊢, →⊢', ↛⊢, ↛⊢', uses}
use Rattle.theory.specs.ProofFiles.{rule_of}
use Rattle.proof_form.specs.Ours.{Hop, use_steps}
use Rattle.proof_form.specs.FromReason.{hop_at, hops_from}
use Rattle.proof_form.proofs.Writing.{length_uses, length_from, uses_go}
use Rattle.proof_link.specs.Numbered.{link_of}
use Rattle.proof_link.specs.declared.Link.{Link}
use lib.ListN.{length-append}

-- Three numbers stored at the seam.
pub three_over : (ws l xs : List ℕ) (at a b c : ℕ) → xs ≡ over ws l → length ws ≡ at → at + 2 < length l → set (set (set xs at a) (at + 1) b) (at + 2) c ≡ over (ws ++ (a ∷ b ∷ c ∷ [])) l
three_over ws l xs at a b c e h r =
    let l1 = length-append ws (a ∷ []) in
    let l2 = length-append (ws ++ (a ∷ [])) (b ∷ []) in
    let s1 : set xs at a ≡ over (ws ++ (a ∷ [])) l = rw e (over_one ws l a at h (omega arith)) in
    let s2 : set (set xs at a) (at + 1) b ≡ over ((ws ++ (a ∷ [])) ++ (b ∷ [])) l = rw s1 (over_one (ws ++ (a ∷ [])) l b (at + 1) (omega arith) (omega arith)) in
    let s3 : set (set (set xs at a) (at + 1) b) (at + 2) c ≡ over (((ws ++ (a ∷ [])) ++ (b ∷ [])) ++ (c ∷ [])) l = rw s2 (over_one ((ws ++ (a ∷ [])) ++ (b ∷ [])) l c (at + 2) (omega arith) (omega arith)) in
    let j : ((ws ++ (a ∷ [])) ++ (b ∷ [])) ++ (c ∷ []) ≡ ws ++ (a ∷ b ∷ c ∷ []) = simp append_assoc in
    s3 ∙ ap (λ z. over z l) j

used_sign : (r : LeftRule) → (rule_of r - 4) / 2 ≡ sign_number (uses r)
used_sign →⊢ = refl
used_sign →⊢' = refl
used_sign ↛⊢ = refl
used_sign ↛⊢' = refl

rule_range : (r : LeftRule) → (4 ≤ rule_of r) × (rule_of r < 8)
rule_range →⊢ = (omega arith, omega arith)
rule_range →⊢' = (omega arith, omega arith)
rule_range ↛⊢ = (omega arith, omega arith)
rule_range ↛⊢' = (omega arith, omega arith)

pub used_range : (h : Hop) (k : Link) → k ≡ link_of h → (4 ≤ k.rule) × (k.rule < 8)
used_range h k e = rw e (rule_range h.rule)

module _ (ws p : List ℕ) (f m a : ℕ) (l : List ℕ) where
  -- What the loop has written where it has written i links.
  abbrev pub used_from : ℕ → List ℕ
  used_from i = use_steps a (hops_from ws p (f + (m - i)) i)

  pub uses_start : l ≡ over (used_from 0) l
  unfolding use_steps hops_from
  uses_start = refl

  pub uses_end : (i : ℕ) (xs : List ℕ) → i ≤ m → m ≤ i → xs ≡ over (used_from i) l → xs ≡ over (use_steps a (hops_from ws p f m)) l
  uses_end i xs h g e = let z : i ≡ m = omega arith in let n : f + (m - m) ≡ f = omega arith in rw (z, n) at e

  pub uses_more : (i : ℕ) (xs : List ℕ) (k : Link) (w : ℕ) → i < m → 3 * m ≤ length l → xs ≡ over (used_from i) l → k ≡ link_of (hop_at ws p (f + (m - i - 1)))
      → w ≡ k.tail * 2048 + k.head * 2 + (k.rule - 4) / 2 → set (set (set xs (3 * i) k.rule) (3 * i + 1) a) (3 * i + 2) w ≡ over (used_from (i + 1)) l
  uses_more i xs k w h r ex ek ew =
      let j = f + (m - i - 1) in
      let n : m - (i + 1) ≡ m - i - 1 = omega arith in
      let si : f + (m - i) ≡ suc j = omega arith in
      let lu = length_uses a (hops_from ws p (f + (m - i)) i) in
      let lf = length_from ws p a (f + (m - i)) i in
      let w' : w ≡ word (hop_at ws p j).tail (hop_at ws p j).head (uses (hop_at ws p j).rule) = ew ∙ rw (ek, used_sign (hop_at ws p j).rule) in
      let step = three_over (used_from i) l xs (3 * i) k.rule a w ex (omega arith) (omega arith) in
      step ∙ rw (n, add-one i, uses_go ws p a j i, si, ek, w')
