-- The moves listed for a list of words are the moves of its links, and they stay within the states.
use Prim.Native.Nat.{ℕ, zero, suc, ◌+◌, ◌<◌}
use mathlib.Core.Path.{◌≡◌, refl, sym, ap}
use mathlib.Core.List.Memᴰ
use mathlib.Core.List.{List, [], ◌∷◌, Memᴰ}
use mathlib.Core.Logic.{◌⊎◌, inl, inr, ⊎_elim}
use native.Mathlib.Omega.{arith}
use Rattle.theory.specs.Words.{Sign, is, isnt, sign_number, tail_of, head_of, parity}
use Rattle.theory.specs.Nets.{Statements, Links}
use Rattle.theory.specs.Paths.{Crossing}
use Rattle.theory.specs.Reasons.{Moves, up, across, down}
use Rattle.theory.specs.Searches.{Arc, arc, arcs_of, arcs}
use Rattle.theory.proofs.Legal.{Legal}
use Rattle.theory.proofs.reason.Levels.{Among}

from_is : {e f : Arc} → e ≡ f → e.from ≡ f.from
from_is q = ap (λ (y : Arc). y.from) q

to_is : {e f : Arc} → e ≡ f → e.to ≡ f.to
to_is q = ap (λ (y : Arc). y.to) q

arc_path : (a b c d : ℕ) → a ≡ c → b ≡ d → arc a b ≡ arc c d
arc_path a b c d p q = λ j. record { from = p j; to = q j }

module _ (n : ℕ) where
  more_links : (w : ℕ) (ws : List ℕ) {x y : ℕ} {s : Sign} → Links ws x y s → Links (w ∷ ws) x y s
  more_links w ws l = record { it = l.it; listed = Memᴰ.tail l.listed; tail = l.tail; head = l.head; sign = l.sign }

  more_moves : (w : ℕ) (ws : List ℕ) {s : Sign} {a b : ℕ} → Moves n (Links ws) s a b → Moves n (Links (w ∷ ws)) s a b
  more_moves w ws (up l) = up (more_links w ws l)
  more_moves w ws (across b e (inl l)) = across b e (inl (more_links w ws l))
  more_moves w ws (across b e (inr l)) = across b e (inr (more_links w ws l))
  more_moves w ws (down a b p q l) = down a b p q (more_links w ws l)

  this : (w : ℕ) (ws : List ℕ) (x y : ℕ) (s : Sign) → x ≡ tail_of w → y ≡ head_of w → parity w ≡ sign_number s → Links (w ∷ ws) x y s
  this w ws x y s p q e = record { it = w; listed = Memᴰ.head refl; tail = sym p; head = sym q; sign = e }

  of_word : (w : ℕ) (ws : List ℕ) (a b : ℕ) (l : List Arc) (s : Sign) (p : ℕ) → parity w ≡ p → Memᴰ (arc a b) (arcs_of n s (tail_of w) (head_of w) p l)
      → Moves n (Links (w ∷ ws)) s a b ⊎ Memᴰ (arc a b) l
  of_word w ws a b l is zero e m = ⊎_elim (λ q. inl (up (this w ws a b is (from_is q) (to_is q) e))) inr (Memᴰ.cases_cons m)
  of_word w ws a b l is (suc p) e m = inr m
  of_word w ws a b l isnt zero e m =
      ⊎_elim (λ q. inl (up (this w ws a b is (from_is q) (to_is q) e)))
      (λ m'. ⊎_elim (λ q. inl (down (head_of w) (tail_of w) (from_is q) (to_is q) (this w ws (tail_of w) (head_of w) is refl refl e))) inr (Memᴰ.cases_cons m')) (Memᴰ.cases_cons m)
  of_word w ws a b l isnt (suc p) e m =
      let f : parity w ≡ 1 = omega arith in
      ⊎_elim (λ q. inl (across (head_of w) (to_is q) (inl (this w ws a (head_of w) isnt (from_is q) refl f))))
      (λ m'. ⊎_elim (λ q. inl (across (tail_of w) (to_is q) (inr (this w ws (tail_of w) a isnt refl (from_is q) f)))) inr (Memᴰ.cases_cons m')) (Memᴰ.cases_cons m)

  -- A move listed is a move.
  pub arcs_moves : (s : Sign) (ws : List ℕ) (a b : ℕ) → Among (arcs n s ws) a b → Moves n (Links ws) s a b
  unfolding arcs
  arcs_moves s [] a b m = elim m [ ]
  arcs_moves s (w ∷ ws) a b m = go (of_word w ws a b (arcs n s ws) s (parity w) refl m) (λ m'. arcs_moves s ws a b m')
    where
      go : Moves n (Links (w ∷ ws)) s a b ⊎ Among (arcs n s ws) a b → (Among (arcs n s ws) a b → Moves n (Links ws) s a b) → Moves n (Links (w ∷ ws)) s a b
      go (inl v) f = v
      go (inr v) f = more_moves w ws (f v)

  after_word : (s : Sign) (t h p : ℕ) (l : List Arc) (c : Arc) → Memᴰ c l → Memᴰ c (arcs_of n s t h p l)
  after_word is t h zero l c m = Memᴰ.tail m
  after_word is t h (suc p) l c m = m
  after_word isnt t h zero l c m = Memᴰ.tail (Memᴰ.tail m)
  after_word isnt t h (suc p) l c m = Memᴰ.tail (Memᴰ.tail m)

  -- what stands among a word's own moves stands among all
  own_listed : (s : Sign) (ws : List ℕ) (w : ℕ) → Memᴰ w ws → (c : Arc) → ((l : List Arc) → Memᴰ c (arcs_of n s (tail_of w) (head_of w) (parity w) l)) → Memᴰ c (arcs n s ws)
  unfolding arcs
  own_listed s ws w m c f = at ws m
    where
      at : (ws : List ℕ) → Memᴰ w ws → Memᴰ c (arcs n s ws)
      at ws (Memᴰ.head {x = x} {xs = xs} e) = rw e at (f (arcs n s xs))
      at ws (Memᴰ.tail {x = x} {xs = xs} m) = after_word s (tail_of x) (head_of x) (parity x) (arcs n s xs) c (at xs m)

  up_arc : (s : Sign) (w p a b : ℕ) → p ≡ 0 → tail_of w ≡ a → head_of w ≡ b → (l : List Arc) → Memᴰ (arc a b) (arcs_of n s (tail_of w) (head_of w) p l)
  up_arc is w zero a b e p q l = Memᴰ.head (arc_path _ _ _ _ (sym p) (sym q))
  up_arc is w (suc k) a b e p q l = absurd (omega arith)
  up_arc isnt w zero a b e p q l = Memᴰ.head (arc_path _ _ _ _ (sym p) (sym q))
  up_arc isnt w (suc k) a b e p q l = absurd (omega arith)

  down_arc : (w p a b : ℕ) → p ≡ 0 → n + head_of w ≡ a → n + tail_of w ≡ b → (l : List Arc) → Memᴰ (arc a b) (arcs_of n isnt (tail_of w) (head_of w) p l)
  down_arc w zero a b e p q l = Memᴰ.tail (Memᴰ.head (arc_path _ _ _ _ (sym p) (sym q)))
  down_arc w (suc k) a b e p q l = absurd (omega arith)

  over_arc : (w p a b : ℕ) → p ≡ 1 → (((tail_of w ≡ a) × (n + head_of w ≡ b)) ⊎ ((head_of w ≡ a) × (n + tail_of w ≡ b))) → (l : List Arc) → Memᴰ (arc a b) (arcs_of n isnt (tail_of w) (head_of w) p l)
  over_arc w zero a b e c l = absurd (omega arith)
  over_arc w (suc k) a b e (inl c) l = Memᴰ.head (arc_path _ _ _ _ (sym c.0) (sym c.1))
  over_arc w (suc k) a b e (inr c) l = Memᴰ.tail (Memᴰ.head (arc_path _ _ _ _ (sym c.0) (sym c.1)))

  -- Every move is listed.
  pub moves_arcs : (ws : List ℕ) {s : Sign} {a b : ℕ} → Moves n (Links ws) s a b → Among (arcs n s ws) a b
  moves_arcs ws {s} {a} {b} (up l) = own_listed s ws l.it l.listed (arc a b) (up_arc s l.it (parity l.it) a b l.sign l.tail l.head)
  moves_arcs ws {s} {a} {b} (across d e (inl l)) = own_listed isnt ws l.it l.listed (arc a b) (over_arc l.it (parity l.it) a b l.sign (inl (l.tail, rw l.head (sym e))))
  moves_arcs ws {s} {a} {b} (across d e (inr l)) = own_listed isnt ws l.it l.listed (arc a b) (over_arc l.it (parity l.it) a b l.sign (inr (l.head, rw l.tail (sym e))))
  moves_arcs ws {s} {a} {b} (down c d p q l) = own_listed isnt ws l.it l.listed (arc a b) (down_arc l.it (parity l.it) a b l.sign (rw l.head (sym p)) (rw l.tail (sym q)))

module _ (o k : ℕ) (L : Statements) (legal : Legal o k L) where
  -- The two ends of a crossing are nodes.
  pub crossing_in : (u v : ℕ) → Crossing L u v → (u < o + k) × (v < o + k)
  crossing_in u v (inl l) = (legal.tail u v isnt l, (legal.head u v isnt l).high)
  crossing_in u v (inr l) = ((legal.head v u isnt l).high, legal.tail v u isnt l)

  -- Moves lead from states to states.
  pub moves_in : {s : Sign} {a b : ℕ} → Moves (o + k) L s a b → (a < (o + k) + (o + k)) × (b < (o + k) + (o + k))
  moves_in {a} {b} (up l) = let h = legal.tail a b is l in let i = (legal.head a b is l).high in (omega arith, omega arith)
  moves_in {a} {b} (across c e x) = let h = crossing_in a c x in let i = h.0 in let j = h.1 in (omega arith, omega arith)
  moves_in {a} {b} (down c d e f l) = let h = legal.tail d c is l in let i = (legal.head d c is l).high in (omega arith, omega arith)
