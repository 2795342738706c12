-- The derivation computed from a path without repeats is one, and derives what the path shows.
use Prim.Native.Nat.{ℕ, suc, ◌+◌, ◌-◌, ◌<◌}
use mathlib.Core.Path.{◌≡◌, refl, sym, ◌∙◌}
use mathlib.Core.Bool.{Bool, true, false, cond, ◌&&◌}
use mathlib.Core.List.{List, [], ◌∷◌, ◌++◌}
use mathlib.Core.Logic.{inl, inr}
use native.Mathlib.Omega.{arith}
use borrow.Author.Tests.{ltb-true, lt-ltb, ltb-false, eqb-true}
use lib.Dec.{eqb, ltb}
use lib.ListN.{length}
use Rattle.theory_laws.proofs.Booleans.{contradiction, and_left, and_right, same_test}
use Rattle.theory.specs.Words.{Sign, is, isnt, sign_number, tail_of, head_of, parity}
use Rattle.theory.specs.Nets.{Kind, Links}
use Rattle.theory.specs.Origins.{plain_of, chooses, chosen}
use Rattle.theory.specs.Paths.{last_of, Crossing}
use Rattle.theory.specs.Reasons.{FirstLinks, SecondLinks, Strict}
use Rattle.theory.specs.Checks.{listed}
use Rattle.theory.proofs.Legal.{Legal}
use Rattle.theory.proofs.reason.Steps.{listed_exactly}
use Rattle.derivation_lines.specs.Lines.{Line, line, r1, r3, r4, WordSays, Above, Follows, by_link, by_1, by_2, by_3, by_4, by_5, Derivation, Derives}
use Rattle.derivation_lines.specs.Tests.{says}
use Rattle.derivation_lines.specs.Deriving.{place_of, linked, Way, up, under, down, step_link, step_line, steps, climb, cross, turn, join, sink, swing, rise, derive}
use Rattle.derivation_lines.proofs.Growing.{still_above, at_seam, Grown, grown_none, grown_then, grown_one, grown_two}

below_next : (a b : ℕ) → ltb (suc a) (suc b) ≡ ltb a b
below_next a b =
    same_test _ _ (λ e. let h = ltb-true (suc a) (suc b) e in lt-ltb a b (omega arith)) (λ e. let h = ltb-true a b e in lt-ltb (suc a) (suc b) (omega arith))

-- Some chosen word says it exactly if it has a place.
pub listed_place : (set : ℕ) (ws : List ℕ) (x y p : ℕ) → listed x y p (chosen set ws) ≡ ltb (place_of set x y p ws) (length ws)
unfolding place_of listed chosen
listed_place set [] x y p = refl
listed_place set (w ∷ ws) x y p =
    at (chooses set w) (eqb (tail_of (plain_of w)) x && (eqb (head_of (plain_of w)) y && eqb (parity (plain_of w)) p)) refl (listed_place set ws x y p)
  where
    at : (c b : Bool) → (eqb (tail_of (plain_of w)) x && (eqb (head_of (plain_of w)) y && eqb (parity (plain_of w)) p)) ≡ b
        → listed x y p (chosen set ws) ≡ ltb (place_of set x y p ws) (length ws)
        → listed x y p (cond c (plain_of w ∷ chosen set ws) (chosen set ws))
        ≡ ltb (cond (c && (eqb (tail_of (plain_of w)) x && (eqb (head_of (plain_of w)) y && eqb (parity (plain_of w)) p))) 0 (suc (place_of set x y p ws))) (suc (length ws))
    at true true f e = rw f (sym (lt-ltb 0 (suc (length ws)) (omega arith)))
    at true false f e = rw f (e ∙ sym (below_next (place_of set x y p ws) (length ws)))
    at false b f e = e ∙ sym (below_next (place_of set x y p ws) (length ws))

-- The word at the place found says what was looked for.
pub place_says : (set : ℕ) (ws : List ℕ) (x y : ℕ) (s : Sign) → place_of set x y (sign_number s) ws < length ws → WordSays set ws (place_of set x y (sign_number s) ws) x y s
unfolding place_of
place_says set [] x y s h = absurd (omega arith)
place_says set (w ∷ ws) x y s h = at (says set x y (sign_number s) w) refl (place_says set ws x y s)
  where
    at : (b : Bool) → says set x y (sign_number s) w ≡ b → (place_of set x y (sign_number s) ws < length ws → WordSays set ws (place_of set x y (sign_number s) ws) x y s)
        → WordSays set (w ∷ ws) (cond (says set x y (sign_number s) w) 0 (suc (place_of set x y (sign_number s) ws))) x y s
    at true e g =
        let a = and_right (chooses set w) _ e in
        let f = and_right (eqb (tail_of (plain_of w)) x) _ a in
        rw e
        (record {
          listed = omega arith;
          picked = and_left (chooses set w) _ e;
          tail = eqb-true (tail_of (plain_of w)) x (and_left (eqb (tail_of (plain_of w)) x) _ a);
          head = eqb-true (head_of (plain_of w)) y (and_left (eqb (head_of (plain_of w)) y) _ f);
          sign = eqb-true (parity (plain_of w)) (sign_number s) (and_right (eqb (head_of (plain_of w)) y) _ f);
        })
    at false e g =
        let h' : suc (place_of set x y (sign_number s) ws) < suc (length ws) = rw e at h in
        let r = g (omega arith) in
        rw e (record { listed = omega (arith, r.listed); picked = r.picked; tail = r.tail; head = r.head; sign = r.sign })

-- The statement about x and u that the lines so far end with.
abbrev from : Way → ℕ → ℕ → ℕ
from up x u = x
from under x u = x
from down x u = u

abbrev to : Way → ℕ → ℕ → ℕ
to up x u = u
to under x u = u
to down x u = x

abbrev with : Way → Sign
with up = is
with under = isnt
with down = isnt

module _ (o k set : ℕ) (ws : List ℕ) (legal : Legal o k (Links (chosen set ws))) where
  -- A link's line follows.
  link_follows : (ls : List Line) (n x y : ℕ) (s : Sign) → Links (chosen set ws) x y s → Follows o k set ws ls n (linked set ws x y s)
  link_follows ls n x y s l = by_link (place_of set x y (sign_number s) ws) refl (place_says set ws x y s
      (ltb-true (place_of set x y (sign_number s) ws) (length ws) (sym (listed_place set ws x y (sign_number s)) ∙ (listed_exactly x y s (chosen set ws)).1 l)))

  -- All of these are kinds.
  abbrev Kinds : List ℕ → Type 0
  Kinds [] = Unit {0}
  Kinds (v ∷ vs) = Kind o k v × Kinds vs

  first_kinds : (x : ℕ) (xs : List ℕ) → FirstLinks (Links (chosen set ws)) x xs → Kinds xs
  first_kinds x [] f = tt
  first_kinds x (y ∷ ys) f = (legal.head x y is f.0, first_kinds y ys f.1)

  -- Down to a kind there are only kinds.
  second_kinds : (y : ℕ) (zs : List ℕ) → SecondLinks (Links (chosen set ws)) y zs → Kind o k (last_of y zs) → Kind o k y × Kinds zs
  second_kinds y [] f h = (h, tt)
  second_kinds y (z ∷ zs) f h = (legal.head z y is f.0, second_kinds z zs f.1 h)

  last_kind : (x : ℕ) (xs : List ℕ) → Kind o k x → Kinds xs → Kind o k (last_of x xs)
  last_kind x [] h f = h
  last_kind x (y ∷ ys) h f = last_kind y ys f.0 f.1

  -- What a way asks of x and of the nodes.
  abbrev Fit : Way → ℕ → Type 0
  Fit up x = Unit {0}
  Fit under x = x < o
  Fit down x = Kind o k x

  abbrev Walks : Way → ℕ → List ℕ → Type 0
  Walks up u vs = FirstLinks (Links (chosen set ws)) u vs
  Walks under u vs = SecondLinks (Links (chosen set ws)) u vs
  Walks down u vs = SecondLinks (Links (chosen set ws)) u vs

  -- One step: its link, and what it gives.
  step_grows : (w : Way) (x u v : ℕ) (vs : List ℕ) (done : List Line) → Fit w x → Kind o k u → Kind o k v → Walks w u (v ∷ vs)
      → Derives o k set ws done (from w x u) (to w x u) (with w)
      → Grown o k set ws done (done ++ (step_link w set ws u v ∷ step_line w (length done) x v ∷ [])) (from w x v) (to w x v) (with w) × Walks w v vs
  step_grows up x u v vs done f h i l d =
      let m = linked set ws u v is in (
        grown_two o k set ws done m (step_line up (length done) x v) d.lines (link_follows done (length done) u v is l.0)
            (by_2 x u v (length done - 1) (length done) refl h i (still_above done (m ∷ []) (omega arith) (omega arith) d.last) (at_seam done m)),
        l.1,
      )
  step_grows under x u v vs done f h i l d =
      let m = linked set ws v u is in (
        grown_two o k set ws done m (step_line under (length done) x v) d.lines (link_follows done (length done) v u is l.0)
            (by_5 v u x (length done) (length done - 1) refl i h f (at_seam done m) (still_above done (m ∷ []) (omega arith) (omega arith) d.last)),
        l.1,
      )
  step_grows down x u v vs done f h i l d =
      let m = linked set ws v u is in (
        grown_two o k set ws done m (step_line down (length done) x v) d.lines (link_follows done (length done) v u is l.0)
            (by_4 v u x (length done) (length done - 1) refl h f (at_seam done m) (still_above done (m ∷ []) (omega arith) (omega arith) d.last)),
        l.1,
      )

  -- All steps of a way.
  steps_grow : (w : Way) (x u : ℕ) (vs : List ℕ) (done : List Line) → Fit w x → Kind o k u → Kinds vs → Walks w u vs
      → Derives o k set ws done (from w x u) (to w x u) (with w)
      → Grown o k set ws done (steps w set ws x u vs done) (from w x (last_of u vs)) (to w x (last_of u vs)) (with w)
  unfolding steps
  steps_grow w x u [] done f h i l d = grown_none o k set ws done d
  steps_grow w x u (v ∷ vs) done f h i l d =
      let (g, r) = step_grows w x u v vs done f h i.0 l d in
      grown_then o k set ws g (steps_grow w x v vs _ f i.0 i.1 r g.derives)

  empty : Derivation o k set ws []
  empty n h = absurd (omega arith)

  -- The first part.
  climb_derives : (x v : ℕ) (vs : List ℕ) → FirstLinks (Links (chosen set ws)) x (v ∷ vs) → Derives o k set ws (climb set ws x (v ∷ vs)) x (last_of v vs) is
  unfolding climb
  climb_derives x v vs f =
      let i = first_kinds x (v ∷ vs) f in
      let g = grown_one o k set ws [] (linked set ws x v is) empty (link_follows [] 0 x v is f.0) in
      (steps_grow up x v vs (linked set ws x v is ∷ []) tt i.0 i.1 f.1 g.derives).derives

  climb_lines : (x : ℕ) (xs : List ℕ) → FirstLinks (Links (chosen set ws)) x xs → Derivation o k set ws (climb set ws x xs)
  unfolding climb
  climb_lines x [] f = empty
  climb_lines x (v ∷ vs) f = (climb_derives x v vs f).lines

  -- The crossing, either way round.
  cross_grows : (u v : ℕ) (done : List Line) → Kind o k v → Crossing (Links (chosen set ws)) u v → Derivation o k set ws done → Grown o k set ws done (cross set ws u v done) u v isnt
  unfolding cross
  cross_grows u v done h c d = at (listed u v 1 (chosen set ws)) refl c
    where
      at : (b : Bool) → listed u v 1 (chosen set ws) ≡ b → Crossing (Links (chosen set ws)) u v → Grown o k set ws done (cross set ws u v done) u v isnt
      at true e c = rw e (grown_one o k set ws done (linked set ws u v isnt) d (link_follows done (length done) u v isnt ((listed_exactly u v isnt (chosen set ws)).0 e)))
      at false e (inl l) = contradiction (sym e ∙ (listed_exactly u v isnt (chosen set ws)).1 l)
      at false e (inr l) =
          let m = linked set ws v u isnt in
          rw e
          (grown_two o k set ws done m (line u v isnt (r3 (length done))) d (link_follows done (length done) v u isnt l)
          (by_3 v u (length done) refl h (legal.head v u isnt l) (at_seam done m)))

  turn_grows : (u v : ℕ) (done : List Line) → Kind o k u → Kind o k v → Derives o k set ws done v u isnt → Grown o k set ws done (turn u v done) u v isnt
  turn_grows u v done h i d = grown_one o k set ws done (line u v isnt (r3 (length done - 1))) d.lines (by_3 v u (length done - 1) refl i h d.last)

  -- The first part put before xn ↛ y.
  join_derives : (x : ℕ) (xs : List ℕ) (y : ℕ) (done : List Line) → FirstLinks (Links (chosen set ws)) x xs → Kind o k y
      → ((j u v : ℕ) (t : Sign) → Above (climb set ws x xs) (length (climb set ws x xs)) j u v t → Above done (length done) j u v t)
      → Derives o k set ws done (last_of x xs) y isnt → Derives o k set ws (join x xs y (length (climb set ws x xs)) done) x y isnt
  join_derives x [] y done f h keeps d = d
  join_derives x (v ∷ vs) y done f h keeps d =
      let i = first_kinds x (v ∷ vs) f in
      let size = length (climb set ws x (v ∷ vs)) in
      (grown_one o k set ws done (line x y isnt (r4 (size - 1) (length done - 1))) d.lines
      (by_4 x (last_of v vs) y (size - 1) (length done - 1) refl (last_kind v vs i.0 i.1) h (keeps (size - 1) x (last_of v vs) is (climb_derives x v vs f).last) d.last)).derives

  -- x ↛ y1: first part and crossing.
  reach_derives : (x : ℕ) (xs : List ℕ) (y : ℕ) → FirstLinks (Links (chosen set ws)) x xs → Crossing (Links (chosen set ws)) (last_of x xs) y → Kind o k y
      → Derives o k set ws (sink set ws x xs y []) x y isnt
  unfolding steps
  reach_derives x xs y f c h =
      let g = cross_grows (last_of x xs) y (climb set ws x xs) h c (climb_lines x xs f) in
      join_derives x xs y (cross set ws (last_of x xs) y (climb set ws x xs)) f h g.keeps g.derives

  sink_derives : (x : ℕ) (xs : List ℕ) (y : ℕ) (ys : List ℕ) → x < o → FirstLinks (Links (chosen set ws)) x xs → Crossing (Links (chosen set ws)) (last_of x xs) y → SecondLinks (Links (chosen set ws)) y ys
      → Kind o k (last_of y ys) → Derives o k set ws (sink set ws x xs y ys) x (last_of y ys) isnt
  unfolding steps
  sink_derives x xs y ys a f c l h =
      let (i, j) = second_kinds y ys l h in
      (steps_grow under x y ys _ a i j l (reach_derives x xs y f c i)).derives

  swap : (u v : ℕ) → Crossing (Links (chosen set ws)) u v → Crossing (Links (chosen set ws)) v u
  swap u v (inl l) = inr l
  swap u v (inr l) = inl l

  swing_derives : (x : ℕ) (xs : List ℕ) (y : ℕ) (ys : List ℕ) → Kind o k x → FirstLinks (Links (chosen set ws)) x xs → Crossing (Links (chosen set ws)) (last_of x xs) y → SecondLinks (Links (chosen set ws)) y ys
      → Kind o k (last_of y ys) → Derives o k set ws (swing set ws x xs y ys) x (last_of y ys) isnt
  swing_derives x xs y ys a f c l h =
      let u = last_of x xs in
      let b = last_kind x xs a (first_kinds x xs f) in
      let (i, j) = second_kinds y ys l h in
      let g = cross_grows y u (climb set ws x xs) b (swap u y c) (climb_lines x xs f) in
      let t = steps_grow down u y ys (cross set ws y u (climb set ws x xs)) b i j l g.derives in
      let r = turn_grows u (last_of y ys) (steps down set ws u y ys (cross set ws y u (climb set ws x xs))) b h t.derives in
      let all = grown_then o k set ws (grown_then o k set ws g t) r in
      join_derives x xs (last_of y ys) _ f h all.keeps r.derives

  rise_derives : (x : ℕ) (xs : List ℕ) → FirstLinks (Links (chosen set ws)) x xs → Kind o k (last_of x xs) → Derives o k set ws (rise set ws x xs) x (last_of x xs) is
  rise_derives x [] f h = (grown_one o k set ws [] (line x x is r1) empty (by_1 x refl h)).derives
  rise_derives x (v ∷ vs) f h = climb_derives x v vs f

  -- The lines computed from a path without repeats derive what it shows.
  pub derive_derives : (x y : ℕ) (s : Sign) (xs ys : List ℕ) → x < o + k → Kind o k y → Strict (Links (chosen set ws)) x xs ys y s → Derives o k set ws (derive o set ws x xs ys) x y s
  unfolding derive
  derive_derives x y is xs [] n h p = rw (← p.1) (rise_derives x xs p.0 (rw p.1 h))
  derive_derives x y isnt xs [] n h p = absurd p
  derive_derives x y is xs (z ∷ zs) n h p = absurd p
  derive_derives x y isnt xs (z ∷ []) n h p = rw (← p.3) (reach_derives x xs z p.0 p.1 (rw p.3 h))
  derive_derives x y isnt xs (z ∷ w ∷ zs) n h p = rw (← p.3) (at (ltb x o) refl)
    where
      at : (b : Bool) → ltb x o ≡ b → Derives o k set ws (derive o set ws x xs (z ∷ w ∷ zs)) x (last_of w zs) isnt
      at true e = rw e (sink_derives x xs z (w ∷ zs) (ltb-true x o e) p.0 p.1 p.2 (rw p.3 h))
      at false e = rw e (swing_derives x xs z (w ∷ zs) (record { low = ltb-false x o e; high = n }) p.0 p.1 p.2 (rw p.3 h))
