-- The computed rows of a net are exact, and no other list of words is.
use Prim.Native.Nat.{ℕ, ◌+◌, ◌*◌, ◌/◌, ◌≤◌, ◌<◌}
use mathlib.Core.Path.{◌≡◌, refl, sym, ap, ◌∙◌}
use mathlib.Core.Bool.{true, ◌&&◌}
use mathlib.Core.List.{List, ◌++◌, append-nil}
use mathlib.Core.Logic.{◌↔◌}
use native.Mathlib.Omega.{arith}
use native.Mathlib.Nat.{mul-le-mul}
use borrow.Author.Tests.{leb-true, ltb-true, le-leb, lt-ltb}
use lib.Dec.{leb, ltb}
use lib.ListN.{length, get_or, drop, drop_of_length-le, get_or-append}
use lib.Arith.{digits_lt}
use Rattle.theory_laws.proofs.Booleans.{same_test, and_left, and_right, and_both}
use Rattle.theory.specs.Words.{Sign, node_limit}
use Rattle.theory.specs.Nets.{Kind, Links, Net}
use Rattle.theory.specs.Support.{Supported}
use Rattle.theory.specs.Marks.{has, marker_of}
use Rattle.theory.specs.Completion.{full_marks}
use Rattle.theory.specs.Rows.{width, rows_size, Wide, bit_at, Exact, answers, rows_of, supported_rows}
use Rattle.theory.proofs.Legal.{legal_links}
use Rattle.theory.proofs.support.Joining.{ends}
use Rattle.theory.proofs.completion.Completing.{full_exact}
use Rattle.theory.proofs.rows.Packing.{rows_length, rows_bit, rows_same}

-- Every node has a bit.
pub wide_enough : (n : ℕ) → n ≤ width n * 64
wide_enough n = omega arith

-- The rows of a net have at most 16,384 words.
pub rows_small : (n : ℕ) → n ≤ node_limit → rows_size n ≤ 1024 * 16
rows_small n h =
    let w : width n ≤ 16 = omega arith in
    mul-le-mul h w

pub supported_rows_length : (o k : ℕ) (ws : List ℕ) (s : Sign) → length (supported_rows o k ws s) ≡ rows_size (o + k)
unfolding supported_rows
supported_rows_length o k ws s = rows_length (answers o k ws s) (width (o + k)) 0 (o + k)

module _ (o k : ℕ) (ws : List ℕ) (net : Net o k ws) where
  abbrev n : ℕ
  n = o + k

  abbrev w : ℕ
  w = width (o + k)

  pub head_kind : (x y : ℕ) (s : Sign) → Supported o k (Links ws) x y s → Kind o k y
  head_kind x y s p = (ends o k (Links ws) (legal_links o k ws net.legal) x y s p).1

  -- A bit of exact rows is the marker of the full scan there.
  pub bit_marked : (s : Sign) (l : List ℕ) → Exact o k ws s l → (x y : ℕ) → x < o + k → Kind o k y
      → bit_at l (x * width (o + k)) y ≡ has (marker_of s) (get_or (full_marks o k ws x) y 0)
  bit_marked s l e x y h hy =
      let so = e x y h (omega (arith, hy.high, wide_enough (o + k))) in
      same_test (bit_at l (x * width (o + k)) y) (has (marker_of s) (get_or (full_marks o k ws x) y 0))
      (λ b. (full_exact o k ws net x y s h hy).1 (so.0 b))
      (λ b. so.1 ((full_exact o k ws net x y s h hy).0 b))

  pub answers_exact : (s : Sign) (x y : ℕ) → x < o + k → (answers o k ws s x y ≡ true) ↔ Supported o k (Links ws) x y s
  answers_exact s x y h = (to, from)
    where
      to : answers o k ws s x y ≡ true → Supported o k (Links ws) x y s
      to e =
          let kind = and_left (leb o y && ltb y (o + k)) (has (marker_of s) (get_or (full_marks o k ws x) y 0)) e in
          let marked = and_right (leb o y && ltb y (o + k)) (has (marker_of s) (get_or (full_marks o k ws x) y 0)) e in
          (full_exact o k ws net x y s h (record { low = leb-true o y (and_left (leb o y) (ltb y (o + k)) kind); high = ltb-true y (o + k) (and_right (leb o y) (ltb y (o + k)) kind) })).0 marked

      from : Supported o k (Links ws) x y s → answers o k ws s x y ≡ true
      from p =
          let hy = head_kind x y s p in
          and_both (leb o y && ltb y (o + k)) (has (marker_of s) (get_or (full_marks o k ws x) y 0)) (and_both (leb o y) (ltb y (o + k)) (le-leb o y hy.low) (lt-ltb y (o + k) hy.high))
          ((full_exact o k ws net x y s h hy).1 p)

  -- The computed rows are exact.
  pub supported_rows_exact : (s : Sign) → Exact o k ws s (supported_rows o k ws s)
  unfolding supported_rows
  supported_rows_exact s x y h g =
      let e = rows_bit (answers o k ws s) w n x y h (omega (arith, g, wide_enough (o + k))) in
      ((λ b. (answers_exact s x y h).0 (sym e ∙ b)), λ p. e ∙ (answers_exact s x y h).1 p)

  -- So they are with anything behind them.
  pub filled_exact : (s : Sign) (rest : List ℕ) → Exact o k ws s (supported_rows o k ws s ++ rest)
  unfolding supported_rows
  filled_exact s rest x y h g =
      let i = x * w + y / 64 in
      let long : length (rows_of (answers o k ws s) w 0 n) ≡ n * w = rows_length (answers o k ws s) w 0 n in
      let e : get_or (rows_of (answers o k ws s) w 0 n ++ rest) i 0 ≡ get_or (rows_of (answers o k ws s) w 0 n) i 0 =
      get_or-append (rows_of (answers o k ws s) w 0 n) rest 0 i (rw long (digits_lt h (omega (arith, g, wide_enough (o + k))))) in
      rw e (supported_rows_exact s x y h g)

  -- Exact rows of 64-bit words, with what stood in l behind them, are the computed ones: there are no others.
  pub exact_rows : (s : Sign) (l l' : List ℕ) → n * w ≤ length l → length l' ≡ length l → ((i : ℕ) → n * w ≤ i → get_or l' i 0 ≡ get_or l i 0) → Wide l' → Exact o k ws s l'
      → l' ≡ supported_rows o k ws s ++ drop (n * w) l
  unfolding supported_rows
  exact_rows s l l' room long past wide exact =
      rows_same (answers o k ws s) w n l l' room long past wide
      (λ x y h g. same_test (bit_at l' (x * w) y) (answers o k ws s x y) (λ b. (answers_exact s x y h).1 ((exact x y h g).0 b)) (λ b. (exact x y h g).1 ((answers_exact s x y h).0 b)))

  -- A list of just as many words as the rows take is exact only if it is the computed one.
  pub exact_only : (s : Sign) (l : List ℕ) → length l ≡ rows_size (o + k) → Wide l → Exact o k ws s l → l ≡ supported_rows o k ws s
  exact_only s l long wide exact =
      let h : length l ≤ rows_size (o + k) = omega arith in
      exact_rows s l l (omega arith) refl (λ i h. refl) wide exact
      ∙ ap (λ (q : List ℕ). supported_rows o k ws s ++ q) (drop_of_length-le l h)
      ∙ append-nil (supported_rows o k ws s)
