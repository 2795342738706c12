-- Marking the nodes that are kept aside, in the terms of the code.
use Prim.Native.Nat.{ℕ, suc, ◌+◌, ◌-◌, ◌^◌, ◌<◌, ◌≤◌}
use mathlib.Core.Path.{◌≡◌, sym, ap, ◌∙◌}
use mathlib.Core.Bool.{Bool, true, false, cond}
use mathlib.Core.List.{List}
use native.Mathlib.Omega.{arith}
use native.Mathlib.Numerals.{add-one}
use lib.Bits.{bit_or}
use lib.ListN.{length, get_or, set}
use Rattle.theory.specs.Marks.{has, mark, blank, command}
use Rattle.theory.specs.declared.Command.{Command}
use Rattle.theory.specs.Inside.{Inside}
use Rattle.theory.specs.Growth.{Set, kept}
use Rattle.theory.proofs.machine.Growth.{mark_had, mark_more}
use Rattle.unit_gather.specs.Aside.{holds, gather, spread}
use Rattle.unit_gather.proofs.Kept.{aside_command}

-- A marker put at node v, where the code's test whether it stands there said q.
module _ (k v : ℕ) (m : List ℕ) {q : Bool} (g : q ≡ has k (get_or m v 0)) where
  pub put_had : q ≡ true → (m ≡ mark k v m) × Set false m m
  put_had p = (sym (mark_had k v m (sym g ∙ p)), kept)

  pub put_new : {x : ℕ} → x ≡ 2 ^ k → q ≡ false → v < length m → (set m v (bit_or (get_or m v 0) x) ≡ mark k v m) × Set true m (set m v (bit_or (get_or m v 0) x))
  unfolding mark
  put_new b p l = (rw b, rw b (mark_more k v m l (sym g ∙ p)))

-- One node v: the code's test whether it is kept aside said r.
module _ (k v : ℕ) (a m : List ℕ) {r : Bool} (h : r ≡ holds a v) where
  pub held_not : r ≡ false → (m ≡ cond (holds a v) (mark k v m) m) × Set false m m
  held_not f = (rw (sym h ∙ f), kept)

  pub held_put : r ≡ true → {m' : List ℕ} → m' ≡ mark k v m → m' ≡ cond (holds a v) (mark k v m) m
  held_put f e = e ∙ rw (sym h ∙ f)

-- A loop that has come to node v of n.
module _ (k : ℕ) (a : List ℕ) (v n : ℕ) (m : List ℕ) where
  pub spread_go : v < n → {m' : List ℕ} → m' ≡ cond (holds a v) (mark k v m) m → spread k a v (n - v) m ≡ spread k a (v + 1) (n - (v + 1)) m'
  unfolding spread
  spread_go h e =
      let i : n - v ≡ suc (n - suc v) = omega arith in
      rw (add-one v, i, e)

  pub spread_end : n ≤ v → spread k a v (n - v) m ≡ m
  unfolding spread
  spread_end h = let i : n - v ≡ 0 = omega arith in rw i

pub spread_whole : (k : ℕ) (a : List ℕ) (n : ℕ) (m : List ℕ) → spread k a 0 n m ≡ spread k a 0 (n - 0) m
spread_whole k a n m = let e : n ≡ n - 0 = omega arith in ap (λ (i : ℕ). spread k a 0 i m) e

-- The nodes that the code gathered, and the marks that it left.
pub spread_command : (n : ℕ) → n ≤ 1024 → (c : Command) → c.put < 8 → (ws : List ℕ) → Inside n ws → (m : List ℕ) → length m ≡ n → {a m' : List ℕ}
    → a ≡ gather c m ws (blank 128) → m' ≡ spread c.put a 0 n m → m' ≡ command c ws m
spread_command n few c small ws e m size g f = f ∙ ap (λ (q : List ℕ). spread c.put q 0 n m) g ∙ aside_command n few c small ws e m size
