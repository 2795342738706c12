-- Gathering, in the terms of the code.
use Prim.Native.Nat.{ℕ, ◌+◌, ◌/◌, ◌%◌, ◌^◌, ◌<◌, ◌≤◌}
use mathlib.Core.Path.{◌≡◌, refl, sym, ap, ◌∙◌}
use mathlib.Core.Bool.{Bool, true, false, cond, ◌&&◌}
use mathlib.Core.List.{List, [], ◌∷◌}
use borrow.Author.Tests.{eq-eqb, ne_eqb}
use lib.Bits.{bit_or}
use lib.ListN.{length, get_or, set, drop}
use Rattle.theory.specs.Words.{parity}
use Rattle.theory.specs.Marks.{has, mark, near, far, fires}
use Rattle.theory.specs.declared.Command.{Command}
use Rattle.theory.specs.Origins.{plain_of, chooses, chosen, EndsFrom}
use Rattle.theory.proofs.Inside.{near_in, far_in}
use Rattle.theory.proofs.origins.Folds.{run, picking, fold_go, fold_end}
use Rattle.unit_gather.specs.Aside.{fires_on, put, gather_one, gather}

-- The ends of the plain word p that a word with an origin stands for are nodes.
pub near_inside : (h : Bool) {n w p at : ℕ} → EndsFrom n w → p ≡ plain_of w → at ≡ near h p → at < n
near_inside h e i f = rw (f, i) (near_in h e.ends)

pub far_inside : (h : Bool) {n w p at : ℕ} → EndsFrom n w → p ≡ plain_of w → at ≡ far h p → at < n
far_inside h e i f = rw (f, i) (far_in h e.ends)

-- Whether a word fires, where the code read it as the plain word p.
module _ (origins : ℕ) (c : Command) (w : ℕ) (m : List ℕ) {r : Bool} (h : r ≡ chooses origins w) where
  pub fires_unchosen : r ≡ false → false ≡ fires_on origins c m w
  fires_unchosen f = rw (sym h ∙ f)

  module _ {p : ℕ} (g : r ≡ true) (i : p ≡ plain_of w) where
    plainly : {b : Bool} → b ≡ fires c m p → b ≡ fires_on origins c m w
    plainly e = e ∙ rw (sym h ∙ g, i)

    pub fires_other : (parity p ≡ c.sign → ⊥) → false ≡ fires_on origins c m w
    fires_other s = plainly (rw (ne_eqb (parity p) c.sign s))

    pub fires_tested : parity p ≡ c.sign → {at : ℕ} {q : Bool} → at ≡ near c.at_head p → q ≡ has c.test (get_or m at 0) → q ≡ fires_on origins c m w
    fires_tested s e t = plainly (t ∙ rw (eq-eqb (parity p) c.sign s, e))

-- What a word that fires does, and any other does not.
pub picked : {A : Type 0} (p q : Bool) (a b : A) → cond p (cond q a b) b ≡ cond (p && q) a b
picked true q a b = refl
picked false q a b = refl

-- One word, of which the code found whether it fires.
module _ (origins : ℕ) (c : Command) (w : ℕ) (m a : List ℕ) where
  -- What it does to the nodes that are kept aside.
  abbrev pub one : List ℕ
  one = picking origins (gather_one c m) w a

  module _ {r : Bool} (h : r ≡ fires_on origins c m w) where
    fired : one ≡ cond r (put (far c.at_head (plain_of w)) a) a
    fired = picked (chooses origins w) (fires c m (plain_of w)) (put (far c.at_head (plain_of w)) a) a ∙ ap (λ (q : Bool). cond q (put (far c.at_head (plain_of w)) a) a) (sym h)

    pub gather_not : r ≡ false → a ≡ one
    gather_not f = sym (fired ∙ rw f)

    pub gather_new : r ≡ true → {p to x : ℕ} → p ≡ plain_of w → to ≡ far c.at_head p → x ≡ 2 ^ (to % 8) → set a (to / 8) (bit_or (get_or a (to / 8) 0) x) ≡ one
    unfolding mark
    gather_new f i l b =
        let at = l ∙ ap (far c.at_head) i in
        let kept : set a (far c.at_head (plain_of w) / 8) (bit_or (get_or a (far c.at_head (plain_of w) / 8) 0) (2 ^ (far c.at_head (plain_of w) % 8))) ≡ one = sym (fired ∙ rw f) in
        rw (b, at) kept

gather_run : (c : Command) (m ws a : List ℕ) → gather c m ws a ≡ run (gather_one c m) ws a
unfolding gather run
gather_run c m [] a = refl
gather_run c m (w ∷ ws) a = gather_run c m ws (gather_one c m w a)

-- A loop that has come to word i.
module _ (origins : ℕ) (c : Command) (m ws : List ℕ) (i : ℕ) (a : List ℕ) where
  pub gather_go : i < length ws → {b : List ℕ} → b ≡ one origins c (get_or ws i 0) m a → gather c m (chosen origins (drop i ws)) a ≡ gather c m (chosen origins (drop (i + 1) ws)) b
  gather_go h e = fold_go origins (gather_one c m) (gather c m) (gather_run c m) ws i a h ∙ ap (gather c m (chosen origins (drop (i + 1) ws))) (sym e)

  pub gather_end : length ws ≤ i → gather c m (chosen origins (drop i ws)) a ≡ a
  gather_end = fold_end origins (gather_one c m) (gather c m) (gather_run c m) ws i a
