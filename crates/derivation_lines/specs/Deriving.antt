-- The derivation of what a path without repeats shows, computed: two lines a link, and at most one more.
use Rattle.std.specs.Prelude.{ℕ, suc, ◌+◌, ◌-◌, cond, List, [], ◌∷◌, ◌++◌, ltb, length}
use Rattle.theory.specs.Words.{Sign, is, isnt, sign_number}
use Rattle.theory.specs.Paths.{last_of}
use Rattle.theory.specs.Checks.{listed}
use Rattle.theory.specs.Origins.{chosen}
use Rattle.derivation_lines.specs.Lines.{Line, line, link, r1, r2, r3, r4, r5}
use Rattle.derivation_lines.specs.Tests.{says}

-- The index in the whole list of the first chosen word that says x → y (p = 0), or x ↛ y (p = 1); the number of words where none does.
unfoldable pub place_of : ℕ → ℕ → ℕ → ℕ → List ℕ → ℕ
place_of set x y p [] = 0
place_of set x y p (w ∷ ws) = cond (says set x y p w) 0 (suc (place_of set x y p ws))

-- The line of a link.
abbrev pub linked : ℕ → List ℕ → ℕ → ℕ → Sign → Line
linked set ws x y s = line x y s (link (place_of set x y (sign_number s) ws))

-- How a step from u to the next node v is taken, where the lines so far end with a statement about x and u:
-- up a first part, x → u and u → v give x → v (3.2); under an object x, v → u and x ↛ u give x ↛ v (3.5);
-- down to a kind, v → u and u ↛ x give v ↛ x (3.4).
pub data Way : Type 0 where
  up under down : Way

-- The link of the step.
abbrev pub step_link : Way → ℕ → List ℕ → ℕ → ℕ → Line
step_link up set ws u v = linked set ws u v is
step_link under set ws u v = linked set ws v u is
step_link down set ws u v = linked set ws v u is

-- What it gives, where the link is line n and the statement about x and u the one above it.
abbrev pub step_line : Way → ℕ → ℕ → ℕ → Line
step_line up n x v = line x v is (r2 (n - 1) n)
step_line under n x v = line x v isnt (r5 n (n - 1))
step_line down n x v = line v x isnt (r4 n (n - 1))

-- The lines `done` and those of the steps from u over the nodes vs.
unfoldable pub steps : Way → ℕ → List ℕ → ℕ → ℕ → List ℕ → List Line → List Line
steps w set ws x u [] done = done
steps w set ws x u (v ∷ vs) done = steps w set ws x v vs (done ++ (step_link w set ws u v ∷ step_line w (length done) x v ∷ []))

-- A first part from x: its last line says x → xn. There is none where x is xn.
unfoldable pub climb : ℕ → List ℕ → ℕ → List ℕ → List Line
climb set ws x [] = []
climb set ws x (v ∷ vs) = steps up set ws x v vs (linked set ws x v is ∷ [])

-- The crossing, so that the last line says u ↛ v: the link, or the link v ↛ u turned round.
unfoldable pub cross : ℕ → List ℕ → ℕ → ℕ → List Line → List Line
cross set ws u v done =
    cond (listed u v 1 (chosen set ws)) (done ++ (linked set ws u v isnt ∷ []))
    (done ++ (linked set ws v u isnt ∷ line u v isnt (r3 (length done)) ∷ []))

-- The last line, v ↛ u, turned round.
abbrev pub turn : ℕ → ℕ → List Line → List Line
turn u v done = done ++ (line u v isnt (r3 (length done - 1)) ∷ [])

-- The last line, xn ↛ y, and the last line of the first part, which has f lines, give x ↛ y. Nothing is to be done where x is xn.
abbrev pub join : ℕ → List ℕ → ℕ → ℕ → List Line → List Line
join x [] y f done = done
join x (v ∷ vs) y f done = done ++ (line x y isnt (r4 (f - 1) (length done - 1)) ∷ [])

-- x ↛ ym by the second part y, ys: first part and crossing, then down one link after another by (3.5), which is for objects.
abbrev pub sink : ℕ → List ℕ → ℕ → List ℕ → ℕ → List ℕ → List Line
sink set ws x xs y ys = steps under set ws x y ys (join x xs y (length (climb set ws x xs)) (cross set ws (last_of x xs) y (climb set ws x xs)))

-- The same of a kind: the crossing turned round, down by (3.4), turned again, and the first part put before it.
abbrev pub swing : ℕ → List ℕ → ℕ → List ℕ → ℕ → List ℕ → List Line
swing set ws x xs y ys =
    join x xs (last_of y ys) (length (climb set ws x xs))
    (turn (last_of x xs) (last_of y ys) (steps down set ws (last_of x xs) y ys (cross set ws y (last_of x xs) (climb set ws x xs))))

-- x → xn without a second part. A kind is itself by (3.1).
abbrev pub rise : ℕ → List ℕ → ℕ → List ℕ → List Line
rise set ws x [] = line x x is r1 ∷ []
rise set ws x (v ∷ vs) = climb set ws x (v ∷ vs)

-- The derivation of what the path x, xs; ys shows.
unfoldable pub derive : ℕ → ℕ → List ℕ → ℕ → List ℕ → List ℕ → List Line
derive o set ws x xs [] = rise set ws x xs
derive o set ws x xs (y ∷ []) = sink set ws x xs y []
derive o set ws x xs (y ∷ z ∷ zs) = cond (ltb x o) (sink set ws x xs y (z ∷ zs)) (swing set ws x xs y (z ∷ zs))

-- The lines of a crossing.
abbrev pub cross_size : ℕ → List ℕ → ℕ → ℕ → ℕ
cross_size set ws u v = cond (listed u v 1 (chosen set ws)) 1 2

-- How many lines the derivation has.
unfoldable pub derived_size : ℕ → ℕ → List ℕ → ℕ → List ℕ → List ℕ → ℕ
derived_size o set ws x xs [] = cond (ltb 0 (length xs)) (length xs + length xs - 1) 1
derived_size o set ws x xs (y ∷ []) = length xs + length xs + cross_size set ws (last_of x xs) y
derived_size o set ws x xs (y ∷ z ∷ zs) =
    cond (ltb x o) (length xs + length xs + cross_size set ws (last_of x xs) y + (suc (length zs) + suc (length zs)))
    (length xs + length xs + cross_size set ws y (last_of x xs) + (suc (length zs) + suc (length zs)) + 1)
