-- Lines that agree in all but the indices of their links: such are the derivations of one path from two lists of which the same words are chosen.
use Prim.Native.Nat.{ℕ, ◌-◌}
use mathlib.Core.Path.{◌≡◌, refl, sym, ap, ◌∙◌}
use mathlib.Core.Bool.{Bool, true, false, cond}
use mathlib.Core.List.{List, [], ◌∷◌, ◌++◌, map, map-append}
use lib.Dec.{ltb}
use lib.ListN.{length, get_or, take, drop, length-map}
use Rattle.theory.specs.Words.{isnt, word}
use Rattle.theory.specs.Origins.{chosen}
use Rattle.theory.specs.Paths.{last_of}
use Rattle.theory.specs.Checks.{listed}
use Rattle.derivation_lines.specs.Lines.{Line, line, Ground, link, r1, r2, r3, r4, r5, none}
use Rattle.derivation_lines.specs.Deriving.{linked, Way, up, under, down, step_link, step_line, steps, climb, cross, turn, join, sink, swing, rise, derive}
use Rattle.derivation_lines.specs.Flat.{rule_of, one_of, two_of, flat, derive_list}
use Rattle.promises.specs.Origins.{unindexed}

-- A line without the index of its link.
abbrev plain_ground : Ground → Ground
plain_ground (link i) = link 0
plain_ground r1 = r1
plain_ground (r2 i j) = r2 i j
plain_ground (r3 i) = r3 i
plain_ground (r4 i j) = r4 i j
plain_ground (r5 i j) = r5 i j
plain_ground none = none

abbrev pub plain_line : Line → Line
plain_line l = line l.tail l.head l.sign (plain_ground l.ground)

-- Lines that agree in all but these indices.
abbrev pub Alike : List Line → List Line → Type 0
Alike ls ms = map plain_line ls ≡ map plain_line ms

-- As many of them.
pub alike_length : (ls ms : List Line) → Alike ls ms → length ls ≡ length ms
alike_length ls ms e = sym (length-map ls plain_line) ∙ ap (length {A = Line}) e ∙ length-map ms plain_line

-- One part after another.
alike_append : (ks ms cs ds : List Line) → Alike ks ms → Alike cs ds → Alike (ks ++ cs) (ms ++ ds)
alike_append ks ms cs ds e f =
    map-append plain_line ks cs ∙ ap (λ (ls : List Line). ls ++ map plain_line cs) e ∙ ap (λ (ls : List Line). map plain_line ms ++ ls) f ∙ sym (map-append plain_line ms ds)

-- A line as it is written, in front of other numbers.
line_plain : (w : ℕ) (g : Ground) (rest out : List ℕ) → unindexed rest ≡ out
    → unindexed (w ∷ rule_of g ∷ one_of g ∷ two_of g ∷ rest) ≡ w ∷ rule_of (plain_ground g) ∷ one_of (plain_ground g) ∷ two_of (plain_ground g) ∷ out
unfolding unindexed
line_plain w (link i) rest out e = rw e
line_plain w r1 rest out e = rw e
line_plain w (r2 i j) rest out e = rw e
line_plain w (r3 i) rest out e = rw e
line_plain w (r4 i j) rest out e = rw e
line_plain w (r5 i j) rest out e = rw e
line_plain w none rest out e = rw e

-- Lines as they are written: without the indices they are those of the lines without them, and what stands behind is what it was.
pub flat_plain : (ls : List Line) (rest : List ℕ) → unindexed (flat ls ++ rest) ≡ flat (map plain_line ls) ++ unindexed rest
unfolding flat
flat_plain [] rest = refl
flat_plain (l ∷ ls) rest = line_plain (word l.tail l.head l.sign) l.ground (flat ls ++ rest) (flat (map plain_line ls) ++ unindexed rest) (flat_plain ls rest)

module _ (set : ℕ) (ws : List ℕ) (set' : ℕ) (vs : List ℕ) (same : (u v : ℕ) → listed u v 1 (chosen set ws) ≡ listed u v 1 (chosen set' vs)) where
  -- Steps.
  steps_alike : (w : Way) (x u : ℕ) (ns : List ℕ) (ks ms : List Line) → Alike ks ms → Alike (steps w set ws x u ns ks) (steps w set' vs x u ns ms)
  unfolding steps
  steps_alike w x u [] ks ms e = e
  steps_alike w x u (v ∷ ns) ks ms e =
      steps_alike w x v ns _ _ (alike_append ks ms _ _ e (one w ∙ ap (λ (n : ℕ). map plain_line (step_link w set' vs u v ∷ step_line w n x v ∷ [])) (alike_length ks ms e)))
    where
      one : (w : Way) → Alike (step_link w set ws u v ∷ step_line w (length ks) x v ∷ []) (step_link w set' vs u v ∷ step_line w (length ks) x v ∷ [])
      one up = refl
      one under = refl
      one down = refl

  climb_alike : (x : ℕ) (xs : List ℕ) → Alike (climb set ws x xs) (climb set' vs x xs)
  unfolding climb
  climb_alike x [] = refl
  climb_alike x (v ∷ ns) = steps_alike up x v ns _ _ refl

  cross_alike : (u v : ℕ) (ks ms : List Line) → Alike ks ms → Alike (cross set ws u v ks) (cross set' vs u v ms)
  unfolding cross
  cross_alike u v ks ms e = rw (same u v) (at (listed u v 1 (chosen set' vs)))
    where
      at : (q : Bool) → Alike (cond q (ks ++ (linked set ws u v isnt ∷ [])) (ks ++ (linked set ws v u isnt ∷ line u v isnt (r3 (length ks)) ∷ [])))
          (cond q (ms ++ (linked set' vs u v isnt ∷ [])) (ms ++ (linked set' vs v u isnt ∷ line u v isnt (r3 (length ms)) ∷ [])))
      at true = alike_append ks ms _ _ e refl
      at false = alike_append ks ms _ _ e (ap (λ (n : ℕ). line v u isnt (link 0) ∷ line u v isnt (r3 n) ∷ []) (alike_length ks ms e))

  turn_alike : (u v : ℕ) (ks ms : List Line) → Alike ks ms → Alike (turn u v ks) (turn u v ms)
  turn_alike u v ks ms e = alike_append ks ms _ _ e (ap (λ (n : ℕ). line u v isnt (r3 (n - 1)) ∷ []) (alike_length ks ms e))

  join_alike : (x : ℕ) (xs : List ℕ) (y : ℕ) {f g : ℕ} → f ≡ g → (ks ms : List Line) → Alike ks ms → Alike (join x xs y f ks) (join x xs y g ms)
  join_alike x [] y h ks ms e = e
  join_alike x (v ∷ ns) y {f} {g} h ks ms e =
      alike_append ks ms _ _ e
      (ap (λ (n : ℕ). line x y isnt (r4 (n - 1) (length ks - 1)) ∷ []) h ∙ ap (λ (n : ℕ). line x y isnt (r4 (g - 1) (n - 1)) ∷ []) (alike_length ks ms e))

  module _ (x : ℕ) (xs : List ℕ) (y : ℕ) (ys : List ℕ) where
    climbed : length (climb set ws x xs) ≡ length (climb set' vs x xs)
    climbed = alike_length (climb set ws x xs) (climb set' vs x xs) (climb_alike x xs)

    sink_alike : Alike (sink set ws x xs y ys) (sink set' vs x xs y ys)
    sink_alike =
        let u = last_of x xs in
        let ks = cross set ws u y (climb set ws x xs) in
        let ms = cross set' vs u y (climb set' vs x xs) in
        steps_alike under x y ys (join x xs y (length (climb set ws x xs)) ks) (join x xs y (length (climb set' vs x xs)) ms)
        (join_alike x xs y climbed ks ms (cross_alike u y (climb set ws x xs) (climb set' vs x xs) (climb_alike x xs)))

    swing_alike : Alike (swing set ws x xs y ys) (swing set' vs x xs y ys)
    swing_alike =
        let u = last_of x xs in
        let z = last_of y ys in
        let ks = steps down set ws u y ys (cross set ws y u (climb set ws x xs)) in
        let ms = steps down set' vs u y ys (cross set' vs y u (climb set' vs x xs)) in
        join_alike x xs z climbed (turn u z ks) (turn u z ms)
        (turn_alike u z ks ms
        (steps_alike down u y ys (cross set ws y u (climb set ws x xs)) (cross set' vs y u (climb set' vs x xs)) (cross_alike y u (climb set ws x xs) (climb set' vs x xs) (climb_alike x xs))))

  rise_alike : (x : ℕ) (xs : List ℕ) → Alike (rise set ws x xs) (rise set' vs x xs)
  rise_alike x [] = refl
  rise_alike x (v ∷ ns) = climb_alike x (v ∷ ns)

  -- The derivation of one path.
  derive_alike : (o x : ℕ) (xs ys : List ℕ) → Alike (derive o set ws x xs ys) (derive o set' vs x xs ys)
  unfolding derive
  derive_alike o x xs [] = rise_alike x xs
  derive_alike o x xs (y ∷ []) = sink_alike x xs y []
  derive_alike o x xs (y ∷ z ∷ zs) = at (ltb x o)
    where
      at : (q : Bool) → Alike (cond q (sink set ws x xs y (z ∷ zs)) (swing set ws x xs y (z ∷ zs))) (cond q (sink set' vs x xs y (z ∷ zs)) (swing set' vs x xs y (z ∷ zs)))
      at true = sink_alike x xs y (z ∷ zs)
      at false = swing_alike x xs y (z ∷ zs)

  -- So that of a reason as it is written.
  pub reason_alike : (o : ℕ) (p : List ℕ) → Alike (derive_list o set ws p) (derive_list o set' vs p)
  reason_alike o p = derive_alike o (get_or p 2 0) (take (get_or p 0 0 - 1) (drop 3 p)) (drop (get_or p 0 0 - 1) (drop 3 p))
