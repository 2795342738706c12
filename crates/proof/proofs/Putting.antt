-- A list put in its place, or the room that it needs: return by return.
use Rattle.proof.specs.declared.ProofError.TheVariants.{Short, TooDeep}
use Rattle.std.specs.Prelude.{Err, Ok}
use Prim.Native.Nat.{ℕ, zero, suc, ◌+◌, ◌-◌, ◌*◌, ◌≤◌, ◌<◌}
use mathlib.Core.Path.{◌≡◌, refl, sym, ap, ◌∙◌}
use mathlib.Core.List.{List, [], ◌∷◌}
use native.Mathlib.Omega.{arith}
use native.Mathlib.Decide.{dec_lt}
use lib.Dec.{ltb}
use lib.ListN.{length, get_or}
use borrow.Author.Tests.{eq-eqb, ne_eqb, lt-ltb, le-ltb}
use Rattle.theory_laws.specs.Over.{over}
use Rattle.theory.specs.Words.{sign_at, sign_number}
use Rattle.theory.specs.ProofFiles.{depth_limit}
use Rattle.proof_form.specs.Ours.{chain_file, our_depth}
use Rattle.proof_form.specs.FromReason.{hops_from, start_at, from_reason}
use Rattle.proof_form.proofs.Writing.{length_chain, length_from}
use Rattle.proof.specs.Table.{ProofOutcome, proof_outcome}
use Rattle.proof.specs.Listed.{put, object_list, kind_list, put_kind, listed}

-- ── the first link of an object's reason ──
module _ (x : ℕ) (p : List ℕ) (w v : ℕ) (ev : v ≡ get_or p 3 0) where
  pub start_isnt : get_or p 0 0 ≡ 1 → w ≡ x * 2048 + v * 2 + 1 → w ≡ start_at x p
  start_isnt e f = rw (eq-eqb (get_or p 0 0) 1 e, ← ev) f

  pub start_is : (get_or p 0 0 ≡ 1 → ⊥) → w ≡ x * 2048 + v * 2 + 0 → w ≡ start_at x p
  start_is e f = rw (ne_eqb (get_or p 0 0) 1 e, ← ev) f

-- ── how long our list is ──
module _ (ws p : List ℕ) where
  pub object_size : (x g : ℕ) → length (chain_file 0 [] x g (hops_from ws p 1 (length p - 4)) (length p - 4)) ≡ 8 * (length p - 4) + 6
  object_size x g =
      let hs = hops_from ws p 1 (length p - 4) in
      let e : length hs ≡ length p - 4 = length_from ws p 0 1 (length p - 4) in
      let c = rw e at (length_chain 0 [] x g hs) in omega (arith, c)

  pub kind_size : (r n t g : ℕ) → length (chain_file 1 (r ∷ n ∷ t ∷ []) n g (hops_from ws p 0 (length p - 3)) (length p - 3)) ≡ 8 * (length p - 3) + 9
  kind_size r n t g =
      let hs = hops_from ws p 0 (length p - 3) in
      let e : length hs ≡ length p - 3 = length_from ws p 0 0 (length p - 3) in
      let c = rw e at (length_chain 1 (r ∷ n ∷ t ∷ []) n g hs) in omega (arith, c)

-- ── numbers 8 and 0 ──
module _ (all past l : List ℕ) (s : ℕ) (es : length all ≡ s) where
  pub put_short : length l < s → proof_outcome (Err (Short s)) past l ≡ put all past l
  put_short h = rw (lt-ltb (length l) (length all) (omega (arith, es, h)), es)

  pub put_done : (k : List ℕ) → s ≤ length l → k ≡ over all l → proof_outcome (Ok s) past k ≡ put all past l
  put_done k h e =
      ap (proof_outcome (Ok s) past) e
      ∙ rw (le-ltb (length l) (length all) (omega (arith, es, h))) (ap (λ z. proof_outcome (Ok z) past (over all l)) (sym es))

sign_number_lem : (s : ℕ) → s ≤ 1 → sign_number (sign_at s) ≡ s
sign_number_lem zero h = refl
sign_number_lem (suc zero) h = refl
sign_number_lem (suc (suc s)) h = absurd (omega arith)

-- ── a kind's statement ──
module _ (n : ℕ) (ws : List ℕ) (x y sign : ℕ) (p past l : List ℕ) where
  pub kind_deep : 253 < length p - 3 → proof_outcome (Err TooDeep) past l ≡ put_kind n ws x y sign p past l
  kind_deep h = rw (lt-ltb 253 (length p - 3) h)

  module _ (h : length p - 3 ≤ 253) (q : ProofOutcome) where
    pub kind_fits : q ≡ put (kind_list n ws x y sign p) past l → q ≡ put_kind n ws x y sign p past l
    kind_fits e = rw (le-ltb 253 (length p - 3) h) e

  -- The list that is written, in the code's own numbers.
  pub kind_list_lem : (goal start : ℕ) → sign ≤ 1 → goal ≡ x * 2048 + y * 2 + sign → start ≡ n * 2048 + x * 2 + 0
      → chain_file 1 ((2 + sign) ∷ n ∷ goal ∷ []) n start (hops_from ws p 0 (length p - 3)) (length p - 3) ≡ kind_list n ws x y sign p
  kind_list_lem goal start hs eg es = rw (sign_number_lem sign hs, eg, es)

-- ── any statement ──
deep_kind : (m : ℕ) → ltb depth_limit (m + 2) ≡ ltb 253 m
deep_kind m = at (dec_lt 253 m)
  where
    at : Dec (253 < m) → ltb depth_limit (m + 2) ≡ ltb 253 m
    at (yes h) = rw (lt-ltb depth_limit (m + 2) (omega arith), lt-ltb 253 m h)
    at (no h) = rw (le-ltb depth_limit (m + 2) (omega (arith, h)), le-ltb 253 m (omega (arith, h)))

module _ (o n : ℕ) (ws : List ℕ) (x y sign : ℕ) (p past l : List ℕ) (q : ProofOutcome) where
  pub listed_object : x < o → length p ≤ 258 → q ≡ put (object_list ws x p) past l → q ≡ listed o n ws x y sign p past l
  unfolding our_depth from_reason
  listed_object h r e =
      let m : length p - 3 - 1 ≡ length p - 4 = omega arith in
      rw (lt-ltb x o h, le-ltb depth_limit (length p - 3) (omega (arith, r)), m) e

  pub listed_kind : o ≤ x → q ≡ put_kind n ws x y sign p past l → q ≡ listed o n ws x y sign p past l
  unfolding our_depth from_reason
  listed_kind h e = rw (le-ltb x o h, deep_kind (length p - 3)) e
