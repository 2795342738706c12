-- Each outcome of a compaction, in the terms of the code.
use Rattle.std.specs.Prelude.{Err, Ok}
use Prim.Native.Nat.{ℕ, ◌-◌, ◌<◌, ◌≤◌}
use mathlib.Core.Path.{◌≡◌, sym, ap, ◌∙◌}
use mathlib.Core.List.{List, ◌++◌}
use native.Mathlib.Omega.{arith}
use borrow.Author.Tests.{lt-ltb, le-ltb}
use lib.ListN.{length, take, drop, replicate}
use lib.Seq.{length-take-le, take_at}
use Rattle.theory_laws.specs.Over.{over}
use Rattle.theory_laws.proofs.Over.{length_over}
use Rattle.theory.specs.Nets.{Net}
use Rattle.theory.specs.Marks.{blank}
use Rattle.theory.specs.Sorting.{sort, without_repeats, tidied}
use Rattle.theory.specs.Compaction.{thin, compacted}
use Rattle.theory.proofs.compaction.Repeats.{repeats_length, tidied_length, sort_length}
use Rattle.theory.proofs.compaction.Thinning.{tidied_legal}
use Rattle.net.specs.Clauses.{call}
use Rattle.net.specs.declared.Refusal.TheVariants.{ShortBuffer}
use Rattle.compact.specs.Table.{compaction_outcome, compaction_clauses, compaction_done}

module _ (o k n : ℕ) (ws m : List ℕ) where
  -- Number 5.
  pub compact_short : length m < n → compaction_outcome (Err ShortBuffer) ws m ≡ call (compaction_clauses ws m n) (compaction_done (compacted o k ws) ws m n)
  compact_short h = rw (lt-ltb (length m) n h)

  -- The list sorted, then without repeats: what stands in front.
  module _ {l₁ l₂ : List ℕ} {count : ℕ} (e₁ : l₁ ≡ sort ws) (e₂ : l₂ ≡ over (without_repeats l₁) l₁) (c : count ≡ length (without_repeats l₁)) where
    same_count : count ≡ length (tidied ws)
    same_count = c ∙ ap (λ (l : List ℕ). length (without_repeats l)) e₁

    front : take count l₂ ≡ tidied ws
    front =
        let f : l₂ ≡ over (tidied ws) (sort ws) = e₂ ∙ ap (λ (l : List ℕ). over (without_repeats l) l) e₁ in
        ap (take count) f ∙ take_at (tidied ws) (drop (length (tidied ws)) (sort ws)) count (sym same_count)

    long : length l₂ ≡ length ws
    long = ap length e₂ ∙ length_over (without_repeats l₁) l₁ (repeats_length l₁) ∙ ap length e₁ ∙ sort_length ws

    pub tidied_fits : (count ≤ length l₂) × (count ≤ length ws)
    tidied_fits = (omega (arith, same_count, long, tidied_length ws), omega (arith, same_count, tidied_length ws))

    pub tidied_net : Net o k ws → Net o k (take count l₂)
    tidied_net net = rw front (record { few = net.few; short = omega (arith, net.short, tidied_length ws); legal = tidied_legal o k ws net.legal })

    -- Number 0.
    pub compact_done : n ≤ length m → (l₃ : List ℕ) {l₄ d₃ m₄ : List ℕ} {r : ℕ} → take r l₃ ≡ thin o k count (take count l₂) → r ≤ count → length l₃ ≡ length l₂
        → l₄ ≡ take r l₃ ++ replicate (length l₃ - r) 0 → m₄ ≡ blank n ++ d₃ → d₃ ≡ drop n m
        → compaction_outcome (Ok r) l₄ m₄ ≡ call (compaction_clauses ws m n) (compaction_done (compacted o k ws) ws m n)
    compact_done room l₃ {r = r} t f g z b d =
        let K : take r l₃ ≡ compacted o k ws = t ∙ ap (thin o k count) front ∙ ap (λ (j : ℕ). thin o k j (tidied ws)) same_count in
        let i : r ≡ length (compacted o k ws) = sym (length-take-le r l₃ (omega (arith, tidied_fits.0))) ∙ ap length K in
        let q : length l₃ - r ≡ length ws - length (compacted o k ws) = omega (arith, g, long, i) in
        rw (le-ltb (length m) n room, z, K, q, b, d, i)
