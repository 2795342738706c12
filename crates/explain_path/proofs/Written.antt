-- Blocks of lines that are written one after another make a derivation, in the terms of the code.
use Prim.Native.Nat.{ℕ, suc, ◌+◌, ◌-◌, ◌*◌, ◌<◌, ◌≤◌}
use mathlib.Core.Path.{◌≡◌, refl, sym, ap, ◌∙◌}
use mathlib.Core.Bool.{Bool, true, false, cond}
use mathlib.Core.List.{List, [], ◌∷◌, ◌++◌, append-nil}
use native.Mathlib.Omega.{arith}
use lib.ListN.{length, get_or, drop, length-append, length-drop, drop_of_length-le}
use lib.Seq.{sets, drop-cons}
use Rattle.theory.specs.Words.{is, isnt}
use Rattle.theory.specs.Paths.{last_of}
use Rattle.theory.specs.Checks.{listed}
use Rattle.theory.specs.Origins.{chosen}
use Rattle.derivation_lines.specs.Lines.{Line, line, r3}
use Rattle.derivation_lines.specs.Deriving.{linked, up, under, down, steps, climb, cross, turn, join, sink, swing, rise, cross_size}
use Rattle.derivation_lines.specs.Flat.{flat}
use Rattle.derivation_lines.proofs.Sizes.{climb_length, cross_length, steps_length, sink_length, swing_length}
use Rattle.explain_line.specs.Blocks.{step_lines, cross_lines, put_lines}
use Rattle.explain_line.proofs.Stored.{put_then, steps_block, cross_block}
use Rattle.explain_path.specs.Parts.{join_lines}

-- A block after the lines that stand already.
more : (l : List ℕ) (done block all : List Line) {mid out : List ℕ} → all ≡ done ++ block → mid ≡ put_lines l 0 done → out ≡ put_lines mid (length done) block → out ≡ put_lines l 0 all
more l done block all a f g = g ∙ (rw (f, a) (put_then l 0 done block (length done) (omega arith)))

-- No line changes nothing.
put_none : (l : List ℕ) (n : ℕ) → l ≡ put_lines l n []
unfolding flat
put_none l n = refl

-- The last node of a part.
pub last_at : (p : List ℕ) → 1 ≤ length p → get_or p (length p - 1) 0 ≡ last_of (get_or p 0 0) (drop 1 p)
last_at [] h = absurd (omega arith)
last_at (x ∷ xs) h = let e : suc (length xs) - 1 ≡ length xs = omega arith in rw e (go x xs)
  where
    go : (x : ℕ) (xs : List ℕ) → get_or (x ∷ xs) (length xs) 0 ≡ last_of x xs
    go x [] = refl
    go x (y ∷ ys) = go y ys

few : (b : Bool) → (1 ≤ cond {A = ℕ} b 1 2) × (cond {A = ℕ} b 1 2 ≤ 2)
few true = (omega arith, omega arith)
few false = (omega arith, omega arith)

-- A crossing takes one line or two.
pub cross_few : (set : ℕ) (ws : List ℕ) (u v : ℕ) → (1 ≤ cross_size set ws u v) × (cross_size set ws u v ≤ 2)
cross_few set ws u v = few (listed u v 1 (chosen set ws))

-- The first part of a path, as a list of its nodes.
module _ (set : ℕ) (ws l p : List ℕ) where
  abbrev x : ℕ
  x = get_or p 0 0

  abbrev xs : List ℕ
  xs = drop 1 p

  -- One node has no line.
  pub no_climb : length p ≤ 1 → l ≡ put_lines l 0 (climb set ws x xs)
  unfolding climb
  no_climb h = rw (drop_of_length-le p {i = 1} h) (put_none l 0)

  -- More have a link's line, and the lines of the steps after it.
  pub climb_put : 1 < length p → {q mid out : List ℕ} → q ≡ drop 1 p → mid ≡ put_lines l 0 (linked set ws x (get_or p 1 0) is ∷ []) → out ≡ put_lines mid 1 (step_lines up set ws x (get_or q 0 0) (drop 1 q) 1)
      → out ≡ put_lines l 0 (climb set ws x xs)
  unfolding climb
  climb_put h {q} {mid} {out} e f g =
      let d : drop 1 p ≡ get_or p 1 0 ∷ drop 2 p = drop-cons p 1 0 h in
      let g' : out ≡ put_lines mid 1 (step_lines up set ws x (get_or p 1 0) (drop 2 p) 1) = rw (e, d) at g in
      rw d
      (more l (linked set ws x (get_or p 1 0) is ∷ []) (step_lines up set ws x (get_or p 1 0) (drop 2 p) 1) (steps up set ws x (get_or p 1 0) (drop 2 p) (linked set ws x (get_or p 1 0) is ∷ []))
      (steps_block up set ws x (get_or p 1 0) (drop 2 p) (linked set ws x (get_or p 1 0) is ∷ [])) f g')

  -- x → x alone, and anything longer.
  pub rise_one : length p ≡ 1 → {out : List ℕ} → out ≡ sets l (4 * 0) ((x * 2048 + x * 2 + 0) ∷ 1 ∷ 0 ∷ 0 ∷ []) → out ≡ put_lines l 0 (rise set ws x xs)
  unfolding flat
  rise_one h e = e ∙ rw (drop_of_length-le p {i = 1} (omega arith))

  pub rise_more : 1 ≤ length p → (length p ≡ 1 → ⊥) → {out : List ℕ} → out ≡ put_lines l 0 (climb set ws x xs) → out ≡ put_lines l 0 (rise set ws x xs)
  rise_more h g e = let d : drop 1 p ≡ get_or p 1 0 ∷ drop 2 p = drop-cons p 1 0 (omega arith) in rw d (rw d at e)

-- The line that joins the two parts.
module _ (l p : List ℕ) (y f n : ℕ) where
  pub no_join : length p ≡ 1 → (n ≡ n + length (join_lines (get_or p 0 0) (drop 1 p) y f n)) × (l ≡ put_lines l n (join_lines (get_or p 0 0) (drop 1 p) y f n))
  no_join h = rw (drop_of_length-le p {i = 1} (omega arith)) (omega arith, put_none l n)

  module _ (some : 1 ≤ length p) (more-than : length p ≡ 1 → ⊥) where
    longer : drop 1 p ≡ get_or p 1 0 ∷ drop 2 p
    longer = drop-cons p 1 0 (omega arith)

    pub one_line : length (join_lines (get_or p 0 0) (drop 1 p) y f n) ≡ 1
    one_line = rw longer

    pub join_put : {out : List ℕ} → out ≡ sets l (4 * n) ((get_or p 0 0 * 2048 + y * 2 + 1) ∷ 4 ∷ (f - 1) ∷ (n - 1) ∷ [])
        → (n + 1 ≡ n + length (join_lines (get_or p 0 0) (drop 1 p) y f n)) × (out ≡ put_lines l n (join_lines (get_or p 0 0) (drop 1 p) y f n))
    unfolding flat
    join_put e = rw longer (refl, e)

-- With the joining line the first part takes two lines a link.
pub join_total : (p : List ℕ) (y f n : ℕ) → 1 ≤ length p → length (join_lines (get_or p 0 0) (drop 1 p) y f n) + (length p - 1 + (length p - 1) - 1) ≡ length p - 1 + (length p - 1)
join_total [] y f n h = absurd (omega arith)
join_total (a ∷ []) y f n h = omega arith
join_total (a ∷ b ∷ p) y f n h = omega arith

join_block : (z : ℕ) (zs : List ℕ) (y f : ℕ) (done : List Line) → join z zs y f done ≡ done ++ join_lines z zs y f (length done)
join_block z [] y f done = sym (append-nil done)
join_block z (v ∷ vs) y f done = refl

-- The two parts of a path, as lists of their nodes.
module _ (set : ℕ) (ws l p s : List ℕ) (first : 1 ≤ length p) (second : 1 ≤ length s) where
  abbrev z : ℕ
  z = get_or p 0 0

  abbrev zs : List ℕ
  zs = drop 1 p

  abbrev b : ℕ
  b = get_or s 0 0

  abbrev bs : List ℕ
  bs = drop 1 s

  abbrev u : ℕ
  u = get_or p (length p - 1) 0

  abbrev v : ℕ
  v = get_or s (length s - 1) 0

  pub sink_total : length (sink set ws z zs b bs) ≡ length p - 1 + (length p - 1) + cross_size set ws u b + (length s - 1 + (length s - 1))
  sink_total = rw (last_at p first) (omega (arith, sink_length set ws z zs b bs, length-drop 1 p, length-drop 1 s))

  pub swing_total : length (swing set ws z zs b bs) ≡ length p - 1 + (length p - 1) + cross_size set ws b u + (length s - 1 + (length s - 1)) + 1
  swing_total = rw (last_at p first) (omega (arith, swing_length set ws z zs b bs, length-drop 1 p, length-drop 1 s))

  -- The first part has f lines.
  module _ {f : ℕ} (lines : f ≡ length p - 1 + (length p - 1) - 1) {l₁ : List ℕ} (climbed : l₁ ≡ put_lines l 0 (climb set ws z zs)) where
    size : f ≡ length (climb set ws z zs)
    size = omega (arith, climb_length set ws z zs, length-drop 1 p)

    crossed : (c d : ℕ) {l₂ : List ℕ} → l₂ ≡ put_lines l₁ f (cross_lines set ws c d f) → l₂ ≡ put_lines l 0 (cross set ws c d (climb set ws z zs))
    crossed c d e =
        more l (climb set ws z zs) (cross_lines set ws c d (length (climb set ws z zs))) (cross set ws c d (climb set ws z zs)) (cross_block set ws c d (climb set ws z zs)) climbed (rw size at e)

    -- Crossing, joining line, and the steps under x.
    pub sink_put : {t n : ℕ} {l₂ l₃ l₄ : List ℕ} → t ≡ cross_size set ws u b → n ≡ f + t + length (join_lines z zs b f (f + t)) → l₂ ≡ put_lines l₁ f (cross_lines set ws u b f)
        → l₃ ≡ put_lines l₂ (f + t) (join_lines z zs b f (f + t)) → l₄ ≡ put_lines l₃ n (step_lines under set ws z b bs n) → l₄ ≡ put_lines l 0 (sink set ws z zs b bs)
    sink_put {t} {n} {l₂} {l₃} {l₄} et en e₂ e₃ e₄ =
        let w = last_of z zs in
        let h : u ≡ w = last_at p first in
        let d₁ = climb set ws z zs in
        let d₂ = cross set ws w b d₁ in
        let d₃ = join z zs b (length d₁) d₂ in
        let t₂ : f + t ≡ length d₂ = omega (arith, cross_length set ws w b d₁, et ∙ ap (λ (q : ℕ). cross_size set ws q b) h, size) in
        let f₂ : l₂ ≡ put_lines l 0 d₂ = rw h at (crossed u b e₂) in
        let f₃ : l₃ ≡ put_lines l 0 d₃ = more l d₂ (join_lines z zs b (length d₁) (length d₂)) d₃ (join_block z zs b (length d₁) d₂) f₂ (rw (t₂, size) at e₃) in
        let t₃ : n ≡ length d₃ = (rw (t₂, size) at en) ∙ sym (ap length (join_block z zs b (length d₁) d₂) ∙ length-append d₂ (join_lines z zs b (length d₁) (length d₂))) in
        more l d₃ (step_lines under set ws z b bs (length d₃)) (steps under set ws z b bs d₃) (steps_block under set ws z b bs d₃) f₃ (rw t₃ at e₄)

    -- The crossing turned, the steps down to v, that turned again, and the joining line.
    pub swing_put : {t m : ℕ} {l₂ l₃ l₄ l₅ : List ℕ} → t ≡ cross_size set ws b u → m ≡ f + t + 2 * (length s - 1) → l₂ ≡ put_lines l₁ f (cross_lines set ws b u f)
        → l₃ ≡ put_lines l₂ (f + t) (step_lines down set ws u b bs (f + t)) → l₄ ≡ sets l₃ (4 * m) ((u * 2048 + v * 2 + 1) ∷ 3 ∷ (m - 1) ∷ 0 ∷ [])
        → l₅ ≡ put_lines l₄ (m + 1) (join_lines z zs v f (m + 1)) → l₅ ≡ put_lines l 0 (swing set ws z zs b bs)
    unfolding flat
    swing_put {t} {m} {l₂} {l₃} {l₄} {l₅} et em e₂ e₃ e₄ e₅ =
        let w = last_of z zs in
        let y = last_of b bs in
        let h : u ≡ w = last_at p first in
        let i : v ≡ y = last_at s second in
        let d₁ = climb set ws z zs in
        let d₂ = cross set ws b w d₁ in
        let d₃ = steps down set ws w b bs d₂ in
        let d₄ = turn w y d₃ in
        let t₂ : f + t ≡ length d₂ = omega (arith, cross_length set ws b w d₁, et ∙ ap (λ (q : ℕ). cross_size set ws b q) h, size) in
        let t₃ : m ≡ length d₃ = omega (arith, steps_length set ws down w b bs d₂, length-drop 1 s) in
        let t₄ : m + 1 ≡ length d₄ = omega (arith, length-append d₃ (line w y isnt (r3 (length d₃ - 1)) ∷ [])) in
        let f₂ : l₂ ≡ put_lines l 0 d₂ = rw h at (crossed b u e₂) in
        let f₃ : l₃ ≡ put_lines l 0 d₃ = more l d₂ (step_lines down set ws w b bs (length d₂)) d₃ (steps_block down set ws w b bs d₂) f₂ (rw (h, t₂) at e₃) in
        let f₄ : l₄ ≡ put_lines l 0 d₄ = more l d₃ (line w y isnt (r3 (length d₃ - 1)) ∷ []) d₄ refl f₃ (rw (h, i, t₃) at e₄) in
        more l d₄ (join_lines z zs y (length d₁) (length d₄)) (join z zs y (length d₁) d₄) (join_block z zs y (length d₁) d₄) f₄ (rw (i, t₄, size) at e₅)
