-- One axiom more in front of the list: the loop goes from the first link up.
use Prim.Native.Nat.{ℕ, ◌+◌, ◌*◌, ◌%◌, ◌≤◌, ◌<◌}
use mathlib.Core.Path.{◌≡◌, refl, ◌∙◌}
use mathlib.Core.List.{List}
use native.Mathlib.Omega.{arith}
use native.Mathlib.Numerals.{add-one}
use lib.ListN.{length, set}
use borrow.Author.Tests.{ne_eqb}
use Rattle.theory_laws.specs.Over.{over}
use Rattle.theory.specs.Words.{word}
use Rattle.theory.specs.Sequents.{LeftRule, →⊢, →⊢', ↛⊢, ↛⊢', gives_kind, gives_sign}
use Rattle.theory.specs.ProofFiles.{rule_of}
use Rattle.proof_form.specs.Ours.{close_steps}
use Rattle.proof_form.specs.FromReason.{hop_at, hops_from}
use Rattle.proof_form.proofs.Writing.{length_closes, length_from, closes_go}
use Rattle.proof_link.specs.Numbered.{link_of}
use Rattle.proof_link.specs.declared.Link.{Link}
use Rattle.proof_step.specs.Close.{close_word}
use Rattle.proof_step.proofs.Uses.{three_over}

module _ (r a p q w : ℕ) where
  pub close_4 : r ≡ 4 → w ≡ a * 2048 + q * 2 + 0 → w ≡ close_word r a p q
  close_4 e f = rw e f

  pub close_6 : (r ≡ 4 → ⊥) → r ≡ 6 → w ≡ a * 2048 + q * 2 + 1 → w ≡ close_word r a p q
  close_6 n e f = rw e f

  pub close_57 : (r ≡ 4 → ⊥) → (r ≡ 6 → ⊥) → w ≡ a * 2048 + p * 2 + 1 → w ≡ close_word r a p q
  close_57 n m f = rw (ne_eqb r 4 n, ne_eqb r 6 m) f

close_of : (r : LeftRule) (a p q : ℕ) → close_word (rule_of r) a p q ≡ word a (gives_kind r p q) (gives_sign r)
close_of →⊢ a p q = refl
close_of →⊢' a p q = refl
close_of ↛⊢ a p q = refl
close_of ↛⊢' a p q = refl

module _ (ws p : List ℕ) (f m a : ℕ) (l : List ℕ) where
  pub closes_start : l ≡ over (close_steps a (hops_from ws p f 0)) l
  unfolding close_steps hops_from
  closes_start = refl

  pub closes_more : (i : ℕ) (xs : List ℕ) (k : Link) (w : ℕ) → i < m → 3 * m ≤ length l → xs ≡ over (close_steps a (hops_from ws p f i)) l → k ≡ link_of (hop_at ws p (f + i)) → w ≡ close_word k.rule a k.tail k.head
      → set (set (set xs (3 * i) (w % 2)) (3 * i + 1) a) (3 * i + 2) w ≡ over (close_steps a (hops_from ws p f (i + 1))) l
  closes_more i xs k w h r ex ek ew =
      let g = hop_at ws p (f + i) in
      let lu = length_closes a (hops_from ws p f i) in
      let lf = length_from ws p a f i in
      let w' : w ≡ word a (gives_kind g.rule g.tail g.head) (gives_sign g.rule) = ew ∙ rw ek (close_of g.rule a g.tail g.head) in
      let step = three_over (close_steps a (hops_from ws p f i)) l xs (3 * i) (w % 2) a w ex (omega arith) (omega arith) in
      step ∙ rw (add-one i, closes_go ws p a f i, w')

  pub closes_end : (i : ℕ) (xs : List ℕ) → i ≤ m → m ≤ i → xs ≡ over (close_steps a (hops_from ws p f i)) l → xs ≡ over (close_steps a (hops_from ws p f m)) l
  closes_end i xs h g e = let z : i ≡ m = omega arith in rw z at e
