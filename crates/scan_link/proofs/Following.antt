-- What one word does to the marks, in the terms of the code.
use Prim.Native.Nat.{ℕ, ◌*◌, ◌/◌, ◌%◌, ◌-◌, ◌<◌, ◌≤◌}
use mathlib.Core.Path.{◌≡◌, refl, sym, ap, ◌∙◌}
use mathlib.Core.Bool.{Bool, true, false, cond, not, ◌&&◌}
use mathlib.Core.List.{List}
use native.Mathlib.Omega.{arith}
use borrow.Author.Tests.{eq-eqb, ne_eqb}
use lib.Dec.{eqb}
use lib.Bits.{bit_and, and_zero_r, and_le_r}
use lib.ListN.{get_or, set}
use Rattle.theory.specs.Words.{tail_of, head_of, parity}
use Rattle.theory.specs.Origins.{plain_of, chooses, EndsFrom}
use Rattle.scan_lanes.specs.Lanes.{open_lanes, strike, put_lanes, lane_link, lane_from}
use Rattle.scan_link.specs.Classes.{lanes_for}

-- The head that the code found, of the plain word p, is a node.
pub head_inside : {n w : ℕ} → EndsFrom n w → {p v : ℕ} → p ≡ plain_of w → v ≡ head_of p → v < n
head_inside ends h e = rw (e, h) ends.ends.head_in

-- The lanes that a word opens: none, unless the set chooses it and it has the sign.
abbrev opened : ℕ → ℕ → ℕ → List ℕ → ℕ
opened os sign w m = cond (chooses os w && eqb (parity w) sign) (open_lanes m (plain_of w)) 0

-- A word puts the marks of the lanes that it opens.
lane_opened : (os sign w : ℕ) (m : List ℕ) → lane_from os sign w m ≡ cond (eqb (opened os sign w m) 0) m (put_lanes (opened os sign w m) (plain_of w) m)
unfolding lane_link
lane_opened os sign w m =
    let q : parity (plain_of w) ≡ parity w = omega arith in
    rw q (at (open_lanes m (plain_of w)) (chooses os w) (eqb (parity w) sign))
  where
    puts : (o : ℕ) (z : Bool) → cond (not z) (put_lanes o (plain_of w) m) m ≡ cond z m (put_lanes o (plain_of w) m)
    puts o true = refl
    puts o false = refl

    at : (o : ℕ) (p q : Bool)
        → cond p (cond (q && not (eqb o 0)) (put_lanes o (plain_of w) m) m) m ≡ cond (eqb (cond (p && q) o 0) 0) m (put_lanes (cond (p && q) o 0) (plain_of w) m)
    at o true true = puts o (eqb o 0)
    at o true false = refl
    at o false q = refl

-- Of three lanes the byte of the table leaves all or none.
and_lanes : (x : ℕ) (g : Bool) → bit_and x (cond g 7 0) ≡ cond g (bit_and x 7) 0
and_lanes x true = refl
and_lanes x false = and_zero_r x

lanes_few : (g : Bool) → cond g 7 0 ≤ 7
lanes_few true = omega arith
lanes_few false = omega arith

-- The code found the plain word p and its ends t and h.
module _ (w : ℕ) (m : List ℕ) {p t h : ℕ} (hp : p ≡ plain_of w) (ht : t ≡ tail_of p) (hh : h ≡ head_of p) where
  -- And the lanes x that the word may open.
  module _ (os sign : ℕ) {x : ℕ} (hx : x ≡ lanes_for os sign w) where
    abbrev found : ℕ
    found = bit_and (bit_and (get_or m t 0 / 16) (get_or m h 0)) x

    -- The code finds the lanes that the word opens.
    found_opened : found ≡ opened os sign w m
    found_opened =
        ap (bit_and (bit_and (get_or m t 0 / 16) (get_or m h 0))) hx
        ∙ and_lanes (bit_and (get_or m t 0 / 16) (get_or m h 0)) (chooses os w && eqb (parity w) sign)
        ∙ rw (ht, hh, hp) refl

    -- They are three at most.
    pub found_few : found ≤ 7
    found_few =
        let l : x ≤ 7 = rw hx (lanes_few (chooses os w && eqb (parity w) sign)) in
        omega (arith, and_le_r (bit_and (get_or m t 0 / 16) (get_or m h 0)) x, l)

    -- A word that opens no lane does nothing.
    pub follow_idle : found ≡ 0 → m ≡ lane_from os sign w m
    follow_idle e = sym (lane_opened os sign w m ∙ rw (← found_opened, eq-eqb found 0 e) refl)

    -- Any other puts the marks of its lanes.
    pub follow_puts : (found ≡ 0 → ⊥) → let a = set m t (bit_and (get_or m t 0) (255 - found % 4 * 16)) in
        set a h (bit_and (get_or a h 0) (255 - found / 4 * 4)) ≡ lane_from os sign w m
    unfolding strike
    follow_puts d = sym (lane_opened os sign w m ∙ rw (← found_opened, ne_eqb found 0 d, ← hp, ← ht, ← hh) refl)

  -- Where no lane is open whatever the class is, none is for the word.
  pub closed_idle : bit_and (get_or m t 0 / 16) (get_or m h 0) ≡ 0 → (os sign : ℕ) → lane_from os sign w m ≡ m
  closed_idle e os sign = sym (follow_idle os sign refl (ap (λ (b : ℕ). bit_and b (lanes_for os sign w)) e))
