-- Lines stored one after another.
use Prim.Native.Nat.{ℕ, zero, suc, ◌+◌, ◌-◌, ◌*◌, ◌<◌, ◌≤◌}
use mathlib.Core.Path.{◌≡◌, refl, sym, ◌∙◌}
use mathlib.Core.Bool.{Bool, true, false, cond}
use mathlib.Core.List.{List, [], ◌∷◌, ◌++◌, append_assoc, append-nil}
use native.Mathlib.Omega.{arith}
use borrow.Author.Tests.{lt-ltb, le-ltb}
use lib.ListN.{length, get_or, set, drop, length-append, drop_of_length-le}
use lib.Seq.{sets, length-sets, drop-cons}
use Rattle.theory.specs.Words.{is, isnt, sign_at}
use Rattle.theory.specs.Checks.{listed}
use Rattle.theory.specs.Origins.{chosen}
use Rattle.derivation_lines.specs.Lines.{Line, line, r3}
use Rattle.derivation_lines.specs.Deriving.{place_of, linked, Way, up, under, down, step_link, step_line, steps, cross, cross_size}
use Rattle.derivation_lines.specs.Flat.{flat}
use Rattle.derivation_lines.proofs.Derived.{listed_place}
use Rattle.derivation_lines.proofs.Flatness.{sign_number_lem, flat_length, flat_append}
use Rattle.explain_line.specs.Blocks.{way_at, step_lines, cross_lines, put_lines}

sets_then : (l : List ℕ) (i : ℕ) (a b : List ℕ) (j : ℕ) → j ≡ i + length a → sets (sets l i a) j b ≡ sets l i (a ++ b)
sets_then l i [] b j e = let f : j ≡ i = omega arith in rw f
sets_then l i (v ∷ a) b j e = sets_then (set l i v) (suc i) a b j (omega arith)

-- Lines after lines.
pub put_then : (l : List ℕ) (n : ℕ) (ls ms : List Line) (m : ℕ) → m ≡ n + length ls → put_lines (put_lines l n ls) m ms ≡ put_lines l n (ls ++ ms)
put_then l n ls ms m e =
    sets_then l (4 * n) (flat ls) (flat ms) (4 * m) (omega (arith, flat_length ls)) ∙ rw (flat_append ls ms)

pub put_length : (l : List ℕ) (n : ℕ) (ls : List Line) → length (put_lines l n ls) ≡ length l
put_length l n ls = length-sets l (4 * n) (flat ls)

-- Four stores, one after another.
pub four_places : (l : List ℕ) (i a b c d : ℕ) → set (set (set (set l i a) (i + 1) b) (i + 2) c) (i + 3) d ≡ sets l i (a ∷ b ∷ c ∷ d ∷ [])
four_places l i a b c d =
    let e : i + 1 ≡ suc i = omega arith in
    let f : i + 2 ≡ suc (suc i) = omega arith in
    let g : i + 3 ≡ suc (suc (suc i)) = omega arith in
    rw (e, f, g)

-- The line of a link.
pub link_put : (set : ℕ) (ws l : List ℕ) (n x y sign : ℕ) → sign ≤ 1 → {p : ℕ} {out : List ℕ} → p ≡ place_of set x y sign ws
    → out ≡ sets l (4 * n) ((x * 2048 + y * 2 + sign) ∷ 0 ∷ p ∷ 0 ∷ []) → out ≡ put_lines l n (linked set ws x y (sign_at sign) ∷ [])
unfolding flat
link_put set ws l n x y sign h e f = f ∙ rw (sign_number_lem sign h, e)

-- A line after a line.
put_two : (l : List ℕ) (n : ℕ) (a b : Line) {out : List ℕ} → out ≡ put_lines l n (a ∷ []) → put_lines out (n + 1) (b ∷ []) ≡ put_lines l n (a ∷ b ∷ [])
put_two l n a b e = rw e (put_then l n (a ∷ []) (b ∷ []) (n + 1) refl)

way_down : (way : ℕ) → (way ≡ 0 → ⊥) → (way ≡ 1 → ⊥) → way_at way ≡ down
way_down zero a b = absurd (a refl)
way_down (suc zero) a b = absurd (b refl)
way_down (suc (suc n)) a b = refl

-- A step each way: its link, then what it gives.
module _ (set : ℕ) (ws l : List ℕ) (n x u v : ℕ) {way : ℕ} {mid out : List ℕ} where
  pub step_up : way ≡ 0 → mid ≡ put_lines l n (linked set ws u v is ∷ []) → out ≡ sets mid (4 * (n + 1)) ((x * 2048 + v * 2 + 0) ∷ 2 ∷ (n - 1) ∷ n ∷ [])
      → out ≡ put_lines l n (step_link (way_at way) set ws u v ∷ step_line (way_at way) n x v ∷ [])
  unfolding flat
  step_up w e f = f ∙ (rw w (put_two l n (linked set ws u v is) (step_line up n x v) e))

  pub step_under : way ≡ 1 → mid ≡ put_lines l n (linked set ws v u is ∷ []) → out ≡ sets mid (4 * (n + 1)) ((x * 2048 + v * 2 + 1) ∷ 5 ∷ n ∷ (n - 1) ∷ [])
      → out ≡ put_lines l n (step_link (way_at way) set ws u v ∷ step_line (way_at way) n x v ∷ [])
  unfolding flat
  step_under w e f = f ∙ (rw w (put_two l n (linked set ws v u is) (step_line under n x v) e))

  pub step_down : (way ≡ 0 → ⊥) → (way ≡ 1 → ⊥) → mid ≡ put_lines l n (linked set ws v u is ∷ []) → out ≡ sets mid (4 * (n + 1)) ((v * 2048 + x * 2 + 1) ∷ 4 ∷ n ∷ (n - 1) ∷ [])
      → out ≡ put_lines l n (step_link (way_at way) set ws u v ∷ step_line (way_at way) n x v ∷ [])
  unfolding flat
  step_down w y e f = f ∙ (rw (way_down way w y) (put_two l n (linked set ws v u is) (step_line down n x v) e))

-- The steps over the nodes, of which the loop has come to node i and line m.
module _ (w : Way) (set : ℕ) (ws : List ℕ) (x : ℕ) (nodes l : List ℕ) (m i : ℕ) where
  pub steps_put_go : i < length nodes - 1 → {out : List ℕ} → out ≡ put_lines l m (step_link w set ws (get_or nodes i 0) (get_or nodes (i + 1) 0) ∷ step_line w m x (get_or nodes (i + 1) 0) ∷ [])
      → put_lines l m (step_lines w set ws x (get_or nodes i 0) (drop (i + 1) nodes) m)
      ≡ put_lines out (m + 2) (step_lines w set ws x (get_or nodes (i + 1) 0) (drop (i + 1 + 1) nodes) (m + 2))
  unfolding step_lines
  steps_put_go h e =
      let f : i + 1 + 1 ≡ suc (i + 1) = omega arith in
      let g : m + 2 ≡ suc (suc m) = omega arith in
      let v = get_or nodes (i + 1) 0 in
      rw (drop-cons nodes (i + 1) 0 (omega arith), f, g, e)
      (sym (put_then l m (step_link w set ws (get_or nodes i 0) v ∷ step_line w m x v ∷ []) (step_lines w set ws x v (drop (suc (i + 1)) nodes) (suc (suc m))) (suc (suc m)) (omega arith)))

  pub steps_put_end : length nodes - 1 ≤ i → put_lines l m (step_lines w set ws x (get_or nodes i 0) (drop (i + 1) nodes) m) ≡ l
  unfolding step_lines flat
  steps_put_end h = rw (drop_of_length-le nodes {i = i + 1} (omega arith))

-- A crossing: the link stands, or the other way round and is turned.
module _ (set : ℕ) (ws l : List ℕ) (n u v : ℕ) {p : ℕ} (found : p ≡ place_of set u v 1 ws) where
  one_way : p < length ws → listed u v 1 (chosen set ws) ≡ true
  one_way h = listed_place set ws u v 1 ∙ lt-ltb (place_of set u v 1 ws) (length ws) (omega arith)

  pub crossed_size : p < length ws → cross_size set ws u v ≡ 1
  crossed_size h = rw (one_way h)

  pub crossed_put : p < length ws → {out : List ℕ} → out ≡ sets l (4 * n) ((u * 2048 + v * 2 + 1) ∷ 0 ∷ p ∷ 0 ∷ [])
      → out ≡ put_lines l n (cross_lines set ws u v n)
  unfolding cross_lines flat
  crossed_put h e = e ∙ rw (one_way h, found)

  other_way : length ws ≤ p → listed u v 1 (chosen set ws) ≡ false
  other_way h = listed_place set ws u v 1 ∙ le-ltb (place_of set u v 1 ws) (length ws) (omega arith)

  pub turned_size : length ws ≤ p → cross_size set ws u v ≡ 2
  turned_size h = rw (other_way h)

  pub turned_put : length ws ≤ p → {mid out : List ℕ} → mid ≡ put_lines l n (linked set ws v u isnt ∷ []) → out ≡ sets mid (4 * (n + 1)) ((u * 2048 + v * 2 + 1) ∷ 3 ∷ n ∷ 0 ∷ [])
      → out ≡ put_lines l n (cross_lines set ws u v n)
  unfolding cross_lines flat
  turned_put h e f = f ∙ (rw (other_way h) (put_two l n (linked set ws v u isnt) (line u v isnt (r3 n)) e))

-- The blocks make the lines of a derivation.
pub steps_block : (w : Way) (set : ℕ) (ws : List ℕ) (x u : ℕ) (vs : List ℕ) (done : List Line) → steps w set ws x u vs done ≡ done ++ step_lines w set ws x u vs (length done)
unfolding steps step_lines
steps_block w set ws x u [] done = sym (append-nil done)
steps_block w set ws x u (v ∷ vs) done =
    let two = step_link w set ws u v ∷ step_line w (length done) x v ∷ [] in
    let e : length (done ++ two) ≡ suc (suc (length done)) = omega (arith, length-append done two) in
    steps_block w set ws x v vs (done ++ two) ∙ rw e (append_assoc done two (step_lines w set ws x v vs (suc (suc (length done)))))

pub cross_block : (set : ℕ) (ws : List ℕ) (u v : ℕ) (done : List Line) → cross set ws u v done ≡ done ++ cross_lines set ws u v (length done)
unfolding cross cross_lines
cross_block set ws u v done = at (listed u v 1 (chosen set ws)) (linked set ws u v isnt ∷ []) (linked set ws v u isnt ∷ line u v isnt (r3 (length done)) ∷ [])
  where
    at : (b : Bool) (one two : List Line) → cond b (done ++ one) (done ++ two) ≡ done ++ cond b one two
    at true one two = refl
    at false one two = refl
