-- In the valuation that a filled table stands for a statement holds exactly if it is supported.
use Prim.Native.Nat.{ℕ, ◌+◌, ◌-◌, ◌*◌, ◌<◌, ◌≤◌}
use mathlib.Core.Path.{◌≡◌, sym, ap, ◌∙◌}
use mathlib.Core.Bool.{true}
use mathlib.Core.List.{List}
use mathlib.Core.Logic.{◌↔◌}
use native.Mathlib.Omega.{arith}
use lib.ListN.{length, get_or, drop, get_or-append}
use Rattle.theory_laws.specs.Over.{over}
use Rattle.theory_laws.proofs.Over.{length_over}
use Rattle.theory.specs.Words.{Sign}
use Rattle.theory.specs.Nets.{Kind, Links, Net}
use Rattle.theory.specs.Support.{Supported}
use Rattle.theory.specs.Marks.{has, marker_of}
use Rattle.theory.specs.Completion.{full_marks}
use Rattle.theory.specs.Valuations.{HoldsIn, Model, Valued, byte_at, truth_of, table_valuation}
use Rattle.theory.proofs.Legal.{legal_links}
use Rattle.theory.proofs.completion.Completing.{full_exact}
use Rattle.theory.proofs.valuation.Implied.{values_exactly, values_model}
use Rattle.theory.proofs.valuation.Tables.{place_in}
use Rattle.valuation.specs.Values.{value_at, own_values}
use Rattle.valuation.proofs.Bytes.{answer_has}
use Rattle.valuation.proofs.Rows.{own_long, own_place, own_low}

-- The table t, filled.
module _ (o k : ℕ) (ws t : List ℕ) (long : (o + k) * k ≤ length t) where
  abbrev left : List ℕ
  left = over (own_values o k ws) t

  -- The byte of a node and a kind is the number of the question's answer.
  pub filled_byte : (x y : ℕ) → x < o + k → Kind o k y → byte_at o k left x y ≡ value_at (get_or (full_marks o k ws x) y 0)
  filled_byte x y h hy =
      let e : o + (y - o) ≡ y = omega (arith, hy.low) in
      let i : y - o < k = omega (arith, hy.low, hy.high) in
      let room = place_in k (o + k) (length (own_values o k ws)) x (y - o) h i (omega (arith, own_long o k ws)) in
      get_or-append (own_values o k ws) (drop (length (own_values o k ws)) t) 0 (x * k + (y - o)) room
      ∙ own_place o k ws x (y - o) h i
      ∙ ap (λ (v : ℕ). value_at (get_or (full_marks o k ws x) v 0)) e

  -- What is filled is a table for the net's elements and kinds.
  pub filled_valued : Valued (o + k) k left
  filled_valued = record {
    long = omega (arith, length_over (own_values o k ws) t (omega (arith, own_long o k ws)), long);
    low = λ i h.
        let e = get_or-append (own_values o k ws) (drop (length (own_values o k ws)) t) 0 i (omega (arith, own_long o k ws)) in
        omega (arith, e, own_low o k ws i);
  }

  module _ (net : Net o k ws) where
    filled_has : (x y : ℕ) (s : Sign) → x < o + k → Kind o k y → (has (truth_of s) (byte_at o k left x y) ≡ true) ↔ Supported o k (Links ws) x y s
    filled_has x y s h hy =
        let e : has (truth_of s) (byte_at o k left x y) ≡ has (marker_of s) (get_or (full_marks o k ws x) y 0) =
        ap (has (truth_of s)) (filled_byte x y h hy) ∙ answer_has s (get_or (full_marks o k ws x) y 0) in
        let t = full_exact o k ws net x y s h hy in
        (λ a. t.0 (sym e ∙ a), λ p. e ∙ t.1 p)

    pub filled_exactly : (x y : ℕ) (s : Sign) → x < o + k → Kind o k y → HoldsIn (table_valuation o k left) x y s ↔ Supported o k (Links ws) x y s
    filled_exactly = values_exactly o k (Links ws) (λ d p s. has (truth_of s) (byte_at o k left d p) ≡ true) filled_has

    -- So all links hold there.
    pub filled_model : Model (Links ws) (table_valuation o k left)
    filled_model = values_model o k (Links ws) (λ d p s. has (truth_of s) (byte_at o k left d p) ≡ true) filled_has (legal_links o k ws net.legal)
