-- How a word is read, in the terms of the code, and what a command that was read names.
use Prim.Native.Nat.{ℕ, ◌/◌, ◌%◌, ◌≤◌, ◌<◌}
use mathlib.Core.Path.{◌≡◌, refl, sym, subst, ◌∙◌}
use mathlib.Core.Bool.{Bool, true, false, cond, ◌&&◌}
use native.Mathlib.Omega.{arith}
use borrow.Author.Tests.{le-leb, lt-leb, lt-ltb, le-ltb, eq-eqb, ne_eqb, leb-true, ltb-true}
use lib.Dec.{eqb, ltb, leb}
use Rattle.theory_laws.proofs.Booleans.{and_left, and_right}
use Rattle.unit_gather.specs.Asks.{InByte}
use Rattle.unit_program.specs.declared.Instruction.{Instruction}
use Rattle.unit_program.specs.declared.Instruction.TheVariants as instruction
use Rattle.unit_program.specs.Programs.{op_of, rest_of, clear_of, set_of, link_of, decode}

-- ── clear ──
module _ (r : ℕ) where
  pub clear_none : r < 1 → instruction.Unknown ≡ clear_of r
  clear_none h = rw (lt-leb 1 r h)

  pub clear_over : 255 < r → instruction.Unknown ≡ clear_of r
  clear_over h = let l : 1 ≤ r = omega arith in rw (le-leb 1 r l, lt-leb r 255 h)

  pub clear_read : 1 ≤ r → r ≤ 255 → instruction.Clear r ≡ clear_of r
  clear_read h l = rw (le-leb 1 r h, le-leb r 255 l)

-- ── set ──
module _ (n r : ℕ) where
  pub set_over : 7 < r / 65536 → instruction.Unknown ≡ set_of n r
  set_over h = rw (lt-leb (r / 65536) 7 h)

  pub set_no_node : r / 65536 ≤ 7 → n ≤ r % 65536 → instruction.Unknown ≡ set_of n r
  set_no_node h l = rw (le-leb (r / 65536) 7 h, le-ltb (r % 65536) n l)

  pub set_read : r / 65536 ≤ 7 → r % 65536 < n → instruction.Set (r / 65536) (r % 65536) ≡ set_of n r
  set_read h l = rw (le-leb (r / 65536) 7 h, lt-ltb (r % 65536) n l)

-- ── link ──
module _ (r : ℕ) where
  pub link_test_over : 7 < r / 65536 → instruction.Unknown ≡ link_of r
  link_test_over h = rw (lt-leb (r / 65536) 7 h)

  pub link_put_over : r / 65536 ≤ 7 → 7 < r / 256 % 256 → instruction.Unknown ≡ link_of r
  link_put_over h g = rw (le-leb (r / 65536) 7 h, lt-leb (r / 256 % 256) 7 g)

  pub link_end_over : r / 65536 ≤ 7 → r / 256 % 256 ≤ 7 → 3 < r % 256 → instruction.Unknown ≡ link_of r
  link_end_over h g l = rw (le-leb (r / 65536) 7 h, le-leb (r / 256 % 256) 7 g, lt-leb (r % 256) 3 l)

  pub link_read : r / 65536 ≤ 7 → r / 256 % 256 ≤ 7 → r % 256 ≤ 3
      → instruction.Link (record { sign = r % 2; at_head = eqb (r / 2 % 2) 1; test = r / 65536; put = r / 256 % 256 }) ≡ link_of r
  link_read h g l = rw (le-leb (r / 65536) 7 h, le-leb (r / 256 % 256) 7 g, le-leb (r % 256) 3 l)

-- ── a word ──
module _ (n w : ℕ) where
  pub read_clear : {i : Instruction} → op_of w ≡ 0 → i ≡ clear_of (rest_of w) → i ≡ decode n w
  unfolding decode
  read_clear h e = e ∙ rw h

  pub read_set : {i : Instruction} → op_of w ≡ 1 → i ≡ set_of n (rest_of w) → i ≡ decode n w
  unfolding decode
  read_set h e = e ∙ rw h

  pub read_link : {i : Instruction} → op_of w ≡ 2 → i ≡ link_of (rest_of w) → i ≡ decode n w
  unfolding decode
  read_link h e = e ∙ rw h

  module _ (a : op_of w ≡ 0 → ⊥) (b : op_of w ≡ 1 → ⊥) (c : op_of w ≡ 2 → ⊥) where
    pub read_loop : w ≡ 50331648 → instruction.Loop ≡ decode n w
    unfolding decode
    read_loop h = rw (ne_eqb (op_of w) 0 a, ne_eqb (op_of w) 1 b, ne_eqb (op_of w) 2 c, eq-eqb w 50331648 h)

    pub read_end : (w ≡ 50331648 → ⊥) → w ≡ 67108864 → instruction.End ≡ decode n w
    unfolding decode
    read_end g h = rw (ne_eqb (op_of w) 0 a, ne_eqb (op_of w) 1 b, ne_eqb (op_of w) 2 c, ne_eqb w 50331648 g, eq-eqb w 67108864 h)

    pub read_unknown : (w ≡ 50331648 → ⊥) → (w ≡ 67108864 → ⊥) → instruction.Unknown ≡ decode n w
    unfolding decode
    read_unknown g h = rw (ne_eqb (op_of w) 0 a, ne_eqb (op_of w) 1 b, ne_eqb (op_of w) 2 c, ne_eqb w 50331648 g, ne_eqb w 67108864 h)

-- ── what it names ──
-- A command names markers below 8 and nodes below n.
abbrev pub Named : ℕ → Instruction → Type 0
Named n (instruction.Clear s) = Unit {0}
Named n (instruction.Set j v) = (j < 8) × (v < n)
Named n (instruction.Link c) = InByte c
Named n instruction.Loop = Unit {0}
Named n instruction.End = Unit {0}
Named n instruction.Unknown = Unit {0}

clear_named : (n r : ℕ) (q : Bool) → Named n (cond q (instruction.Clear r) instruction.Unknown)
clear_named n r true = tt
clear_named n r false = tt

set_named : (n r : ℕ) (q : Bool) → (leb (r / 65536) 7 && ltb (r % 65536) n) ≡ q → Named n (cond q (instruction.Set (r / 65536) (r % 65536)) instruction.Unknown)
set_named n r true e =
    (omega (arith, leb-true (r / 65536) 7 (and_left (leb (r / 65536) 7) (ltb (r % 65536) n) e)), ltb-true (r % 65536) n (and_right (leb (r / 65536) 7) (ltb (r % 65536) n) e))
set_named n r false e = tt

link_named : (n r : ℕ) (q : Bool) → (leb (r / 65536) 7 && (leb (r / 256 % 256) 7 && leb (r % 256) 3)) ≡ q
    → Named n (cond q (instruction.Link (record { sign = r % 2; at_head = eqb (r / 2 % 2) 1; test = r / 65536; put = r / 256 % 256 })) instruction.Unknown)
link_named n r true e =
    let t = and_right (leb (r / 65536) 7) (leb (r / 256 % 256) 7 && leb (r % 256) 3) e in
    record {
      test_in = omega (arith, leb-true (r / 65536) 7 (and_left (leb (r / 65536) 7) (leb (r / 256 % 256) 7 && leb (r % 256) 3) e));
      put_in = omega (arith, leb-true (r / 256 % 256) 7 (and_left (leb (r / 256 % 256) 7) (leb (r % 256) 3) t));
    }
link_named n r false e = tt

pub decode_named : (n w : ℕ) → Named n (decode n w)
unfolding decode
decode_named n w = at (eqb (op_of w) 0) (eqb (op_of w) 1) (eqb (op_of w) 2) (eqb w 50331648) (eqb w 67108864)
  where
    at : (a b c d e : Bool) → Named n (cond a (clear_of (rest_of w)) (cond b (set_of n (rest_of w)) (cond c (link_of (rest_of w)) (cond d instruction.Loop (cond e instruction.End instruction.Unknown)))))
    at true b c d e = clear_named n (rest_of w) (leb 1 (rest_of w) && leb (rest_of w) 255)
    at false true c d e = set_named n (rest_of w) (leb (rest_of w / 65536) 7 && ltb (rest_of w % 65536) n) refl
    at false false true d e = link_named n (rest_of w) (leb (rest_of w / 65536) 7 && (leb (rest_of w / 256 % 256) 7 && leb (rest_of w % 256) 3)) refl
    at false false false true e = tt
    at false false false false true = tt
    at false false false false false = tt

pub named : (n w : ℕ) {i q : Instruction} → i ≡ decode n w → i ≡ q → Named n q
named n w e f = subst (Named n) (sym e ∙ f) (decode_named n w)
