-- How many lines a derivation has: two for each link of the path, less or more by one.
use Prim.Native.Nat.{ℕ, suc, ◌+◌, ◌-◌, ◌*◌, ◌≤◌}
use mathlib.Core.Path.{◌≡◌, refl}
use mathlib.Core.Bool.{Bool, true, false, cond}
use mathlib.Core.List.{List, [], ◌∷◌, ◌++◌}
use native.Mathlib.Omega.{arith}
use borrow.Author.Tests.{lt-ltb}
use lib.Dec.{ltb}
use lib.ListN.{length, length-append}
use Rattle.theory.specs.Words.{is, isnt}
use Rattle.theory.specs.Paths.{last_of}
use Rattle.theory.specs.Checks.{listed}
use Rattle.theory.specs.Origins.{chosen}
use Rattle.derivation_lines.specs.Lines.{Line, line, r3, r4}
use Rattle.derivation_lines.specs.Deriving.{linked, Way, up, under, down, step_link, step_line, steps, climb, cross, turn, join, sink, swing, rise, derive, cross_size, derived_size}

module _ (set : ℕ) (ws : List ℕ) where
  pub steps_length : (w : Way) (x u : ℕ) (vs : List ℕ) (done : List Line) → length (steps w set ws x u vs done) ≡ length done + (length vs + length vs)
  unfolding steps
  steps_length w x u [] done = omega arith
  steps_length w x u (v ∷ vs) done =
      omega (arith, steps_length w x v vs (done ++ (step_link w set ws u v ∷ step_line w (length done) x v ∷ [])), length-append done (step_link w set ws u v ∷ step_line w (length done) x v ∷ []))

  pub climb_length : (x : ℕ) (xs : List ℕ) → length (climb set ws x xs) ≡ length xs + length xs - 1
  unfolding climb
  climb_length x [] = omega arith
  climb_length x (v ∷ vs) = omega (arith, steps_length up x v vs (linked set ws x v is ∷ []))

  pub cross_length : (u v : ℕ) (done : List Line) → length (cross set ws u v done) ≡ length done + cross_size set ws u v
  unfolding cross
  cross_length u v done = at (listed u v 1 (chosen set ws)) (linked set ws u v isnt ∷ []) (linked set ws v u isnt ∷ line u v isnt (r3 (length done)) ∷ []) refl refl
    where
      at : (b : Bool) (one two : List Line) → length one ≡ 1 → length two ≡ 2 → length (cond b (done ++ one) (done ++ two)) ≡ length done + cond b 1 2
      at true one two e f = omega (arith, length-append done one)
      at false one two e f = omega (arith, length-append done two)

  pub join_length : (x : ℕ) (xs : List ℕ) (y f : ℕ) (done : List Line) → length done + length xs + length xs ≡ length (join x xs y f done) + (length xs + length xs - 1)
  join_length x [] y f done = omega arith
  join_length x (v ∷ vs) y f done = omega (arith, length-append done (line x y isnt (r4 (f - 1) (length done - 1)) ∷ []))

  turn_length : (u v : ℕ) (done : List Line) → length (turn u v done) ≡ length done + 1
  turn_length u v done = length-append done (line u v isnt (r3 (length done - 1)) ∷ [])

  pub sink_length : (x : ℕ) (xs : List ℕ) (y : ℕ) (ys : List ℕ) → length (sink set ws x xs y ys) ≡ length xs + length xs + cross_size set ws (last_of x xs) y + (length ys + length ys)
  sink_length x xs y ys =
      let c = cross set ws (last_of x xs) y (climb set ws x xs) in
      let j = join x xs y (length (climb set ws x xs)) c in
      omega (arith, steps_length under x y ys j, join_length x xs y (length (climb set ws x xs)) c, cross_length (last_of x xs) y (climb set ws x xs), climb_length x xs)

  pub swing_length : (x : ℕ) (xs : List ℕ) (y : ℕ) (ys : List ℕ) → length (swing set ws x xs y ys) ≡ length xs + length xs + cross_size set ws y (last_of x xs) + (length ys + length ys) + 1
  swing_length x xs y ys =
      let u = last_of x xs in
      let c = cross set ws y u (climb set ws x xs) in
      let t = steps down set ws u y ys c in
      omega (arith, join_length x xs (last_of y ys) (length (climb set ws x xs)) (turn u (last_of y ys) t), turn_length u (last_of y ys) t, steps_length down u y ys c, cross_length y u (climb set ws x xs), climb_length x xs)

  pub rise_length : (x : ℕ) (xs : List ℕ) → length (rise set ws x xs) ≡ cond (ltb 0 (length xs)) (length xs + length xs - 1) 1
  rise_length x [] = refl
  rise_length x (v ∷ vs) = rw (lt-ltb 0 (suc (length vs)) (omega arith)) (climb_length x (v ∷ vs))

  -- The size of a derivation.
  pub derive_size : (o x : ℕ) (xs ys : List ℕ) → length (derive o set ws x xs ys) ≡ derived_size o set ws x xs ys
  unfolding derive derived_size
  derive_size o x xs [] = rise_length x xs
  derive_size o x xs (y ∷ []) = omega (arith, sink_length x xs y [])
  derive_size o x xs (y ∷ z ∷ zs) = at (ltb x o)
    where
      at : (b : Bool) → length (cond b (sink set ws x xs y (z ∷ zs)) (swing set ws x xs y (z ∷ zs)))
          ≡ cond b (length xs + length xs + cross_size set ws (last_of x xs) y + (suc (length zs) + suc (length zs))) (length xs + length xs + cross_size set ws y (last_of x xs) + (suc (length zs) + suc (length zs)) + 1)
      at true = sink_length x xs y (z ∷ zs)
      at false = swing_length x xs y (z ∷ zs)

  few : (b : Bool) → cond {A = ℕ} b 1 2 ≤ 2
  few true = omega arith
  few false = omega arith

  -- It is at most two lines a link and one more.
  pub derive_short : (o x : ℕ) (xs ys : List ℕ) → length (derive o set ws x xs ys) ≤ 2 * (length xs + length ys) + 1
  unfolding derive
  derive_short o x [] [] = omega arith
  derive_short o x (v ∷ vs) [] = omega (arith, climb_length x (v ∷ vs))
  derive_short o x xs (y ∷ []) = omega (arith, sink_length x xs y [], few (listed (last_of x xs) y 1 (chosen set ws)))
  derive_short o x xs (y ∷ z ∷ zs) = at (ltb x o)
    where
      at : (b : Bool) → length (cond b (sink set ws x xs y (z ∷ zs)) (swing set ws x xs y (z ∷ zs))) ≤ 2 * (length xs + suc (suc (length zs))) + 1
      at true = omega (arith, sink_length x xs y (z ∷ zs), few (listed (last_of x xs) y 1 (chosen set ws)))
      at false = omega (arith, swing_length x xs y (z ∷ zs), few (listed y (last_of x xs) 1 (chosen set ws)))
