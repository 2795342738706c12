-- The chosen list: word by word as a loop comes to it, its members, joined lists, and plain words.
use Prim.Native.Nat.{ℕ, suc, ◌+◌, ◌≤◌, ◌<◌}
use mathlib.Core.Path.{◌≡◌, refl, sym, subst, ap, ◌∙◌}
use mathlib.Core.Bool.{Bool, true, false, cond}
use mathlib.Core.List.{List, [], ◌∷◌, ◌++◌, Memᴰ}
use native.Mathlib.Omega.{arith}
use native.Mathlib.Numerals.{add-one}
use lib.ListN.{length, get_or, drop, drop_of_length-le}
use lib.Seq.{drop-cons}
use Rattle.theory.specs.Origins.{origin_unit, from, origin_of, plain_of, among, chooses, chosen}

-- ── one word ──
pub origin_from : (i w : ℕ) → w < origin_unit → origin_of (from i w) ≡ i
origin_from i w h = omega arith

pub plain_from : (i w : ℕ) → w < origin_unit → plain_of (from i w) ≡ w
plain_from i w h = omega arith

-- A word is the plain word of its origin.
pub from_parts : (w : ℕ) → from (origin_of w) (plain_of w) ≡ w
from_parts w = omega arith

pub plain_below : (w : ℕ) → plain_of w < origin_unit
plain_below w = omega arith

-- A plain word has the origin 0 and loses nothing.
pub plain_origin : (w : ℕ) → w < origin_unit → origin_of w ≡ 0
plain_origin w h = omega arith

pub plain_itself : (w : ℕ) → w < origin_unit → plain_of w ≡ w
plain_itself w h = omega arith

-- ── a list of words ──
-- All words are plain.
abbrev pub Plain : List ℕ → Type 0
Plain ws = (w : ℕ) → Memᴰ w ws → w < origin_unit

module _ (set : ℕ) where
  pub chosen_in : (w : ℕ) (ws : List ℕ) → chooses set w ≡ true → chosen set (w ∷ ws) ≡ plain_of w ∷ chosen set ws
  unfolding chosen
  chosen_in w ws h = rw h

  -- In the terms of a loop that has come to word i: it goes on, it has come to the end.
  module _ (ws : List ℕ) (i : ℕ) where
    pub chosen_go : i < length ws
        → chosen set (drop i ws) ≡ cond (chooses set (get_or ws i 0)) (plain_of (get_or ws i 0) ∷ chosen set (drop (i + 1) ws)) (chosen set (drop (i + 1) ws))
    unfolding chosen
    chosen_go h = rw (add-one i, drop-cons ws i 0)

    pub chosen_end : length ws ≤ i → chosen set (drop i ws) ≡ []
    unfolding chosen
    chosen_end h = rw (drop_of_length-le ws h)

  -- The chosen words of joined lists are the chosen words of each, joined.
  pub chosen_join : (ws vs : List ℕ) → chosen set (ws ++ vs) ≡ chosen set ws ++ chosen set vs
  unfolding chosen
  chosen_join [] vs = refl
  chosen_join (w ∷ ws) vs = at (chooses set w) (chosen_join ws vs)
    where
      at : (q : Bool) → chosen set (ws ++ vs) ≡ chosen set ws ++ chosen set vs
          → cond q (plain_of w ∷ chosen set (ws ++ vs)) (chosen set (ws ++ vs)) ≡ cond q (plain_of w ∷ chosen set ws) (chosen set ws) ++ chosen set vs
      at true e = ap (λ (l : List ℕ). plain_of w ∷ l) e
      at false e = e

  pub chosen_length : (ws : List ℕ) → length (chosen set ws) ≤ length ws
  unfolding chosen
  chosen_length [] = omega arith
  chosen_length (w ∷ ws) = at (chooses set w) (chosen_length ws)
    where
      at : (q : Bool) → length (chosen set ws) ≤ length ws → length (cond q (plain_of w ∷ chosen set ws) (chosen set ws)) ≤ suc (length ws)
      at true h = omega arith
      at false h = omega arith

  -- A chosen word of the list is v, its origin removed.
  pub record Picked (ws : List ℕ) (v : ℕ) : Type 0 where
    pub it : ℕ
    pub listed : Memᴰ it ws
    pub picked : chooses set it ≡ true
    pub plain : plain_of it ≡ v

  later : {w : ℕ} {ws : List ℕ} {v : ℕ} → Picked ws v → Picked (w ∷ ws) v
  later p = record { it = p.it; listed = Memᴰ.tail p.listed; picked = p.picked; plain = p.plain }

  -- The members of the chosen list are just these.
  pub chosen_picked : (ws : List ℕ) (v : ℕ) → Memᴰ v (chosen set ws) → Picked ws v
  unfolding chosen
  chosen_picked [] v m = elim m [ ]
  chosen_picked (w ∷ ws) v m = at (chooses set w) refl m (chosen_picked ws v)
    where
      at : (q : Bool) → chooses set w ≡ q → Memᴰ v (cond q (plain_of w ∷ chosen set ws) (chosen set ws)) → (Memᴰ v (chosen set ws) → Picked ws v)
          → Picked (w ∷ ws) v
      at true e (Memᴰ.head h) f = record { it = w; listed = Memᴰ.head refl; picked = e; plain = sym h }
      at true e (Memᴰ.tail h) f = later (f h)
      at false e h f = later (f h)

  member_chosen : (ws : List ℕ) (w : ℕ) → Memᴰ w ws → chooses set w ≡ true → Memᴰ (plain_of w) (chosen set ws)
  unfolding chosen
  member_chosen [] w x e = elim x [ ]
  member_chosen (x ∷ ws) w (Memᴰ.head h) e = rw (ap (chooses set) (sym h) ∙ e) (Memᴰ.head (ap plain_of h))
  member_chosen (x ∷ ws) w (Memᴰ.tail h) e = at (chooses set x) (member_chosen ws w h e)
    where
      at : (q : Bool) → Memᴰ (plain_of w) (chosen set ws) → Memᴰ (plain_of w) (cond q (plain_of x ∷ chosen set ws) (chosen set ws))
      at true m = Memᴰ.tail m
      at false m = m

  pub picked_chosen : (ws : List ℕ) (v : ℕ) → Picked ws v → Memᴰ v (chosen set ws)
  picked_chosen ws v p = subst (λ (u : ℕ). Memᴰ u (chosen set ws)) p.plain (member_chosen ws p.it p.listed p.picked)

  -- What is chosen is plain.
  pub chosen_is_plain : (ws : List ℕ) → Plain (chosen set ws)
  chosen_is_plain ws v m = let p = chosen_picked ws v m in rw (← p.plain) (plain_below p.it)

  -- A list of plain words, read with a set that has 0, is the list itself.
  pub chosen_plain : among set 0 ≡ true → (ws : List ℕ) → Plain ws → chosen set ws ≡ ws
  unfolding chosen
  chosen_plain z [] h = refl
  chosen_plain z (w ∷ ws) h =
      let b = h w (Memᴰ.head refl) in
      chosen_in w ws (ap (among set) (plain_origin w b) ∙ z)
      ∙ rw (plain_itself w b, chosen_plain z ws (λ v m. h v (Memᴰ.tail m))) refl

-- So choosing again changes nothing.
pub chosen_again : (set set' : ℕ) → among set' 0 ≡ true → (ws : List ℕ) → chosen set' (chosen set ws) ≡ chosen set ws
chosen_again set set' z ws = chosen_plain set' z (chosen set ws) (chosen_is_plain set ws)

-- And plain words in front stay, where the set has 0.
pub chosen_joined : (set : ℕ) → among set 0 ≡ true → (ws vs : List ℕ) → Plain ws → chosen set (ws ++ vs) ≡ ws ++ chosen set vs
chosen_joined set z ws vs h = chosen_join set ws vs ∙ ap (λ (l : List ℕ). l ++ chosen set vs) (chosen_plain set z ws h)
