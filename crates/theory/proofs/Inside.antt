-- The ends of words that stand inside a net: one word, a word at a place, and all words of a legal list.
use Prim.Native.Nat.{ℕ, zero, suc, ◌+◌, ◌<◌}
use mathlib.Core.Path.{refl}
use mathlib.Core.Bool.{Bool, true, false}
use mathlib.Core.List.{List, [], ◌∷◌, Memᴰ}
use native.Mathlib.Nat.{le_of_suc-le-suc, not-suc-le-zero}
use lib.ListN.{length, get_or}
use Rattle.theory.specs.Nets.{LegalWords}
use Rattle.theory.specs.Inside.{Ends, Inside}
use Rattle.theory.specs.Marks.{near, far}

pub near_in : (atHead : Bool) {n w : ℕ} → Ends n w → near atHead w < n
near_in true e = e.head_in
near_in false e = e.tail_in

pub far_in : (atHead : Bool) {n w : ℕ} → Ends n w → far atHead w < n
far_in true e = e.tail_in
far_in false e = e.head_in

pub inside_first : {n w : ℕ} {ws : List ℕ} → Inside n (w ∷ ws) → Ends n w
inside_first {w = w} e = e w (Memᴰ.head refl)

pub inside_rest : {n w : ℕ} {ws : List ℕ} → Inside n (w ∷ ws) → Inside n ws
inside_rest e v h = e v (Memᴰ.tail h)

-- A place of a list holds one of its members.
pub at_member : (ws : List ℕ) (i : ℕ) → i < length ws → Memᴰ (get_or ws i 0) ws
at_member [] i l = absurd (not-suc-le-zero l)
at_member (w ∷ ws) zero l = Memᴰ.head refl
at_member (w ∷ ws) (suc i) l = Memᴰ.tail (at_member ws i (le_of_suc-le-suc l))

pub inside_at : {n : ℕ} (ws : List ℕ) → Inside n ws → (i : ℕ) → i < length ws → Ends n (get_or ws i 0)
inside_at ws e i l = e (get_or ws i 0) (at_member ws i l)

pub legal_inside : (o k : ℕ) (ws : List ℕ) → LegalWords o k ws → Inside (o + k) ws
legal_inside o k ws l w h = record { tail_in = (l w h).tail; head_in = (l w h).head.high }
