-- Warshall's algorithm: after the turn of m as the middle, the rows are closed through every middle up to m.
use Prim.Native.Nat.{ℕ, zero, suc, ◌+◌, ◌*◌, ◌≤◌, ◌<◌}
use mathlib.Core.Path.{◌≡◌, refl, sym, ap, ◌∙◌}
use mathlib.Core.Bool.{Bool, true, false, cond, ◌&&◌, ◌||◌}
use mathlib.Core.List.{List}
use mathlib.Core.Logic.{◌⊎◌, inl, inr, ⊎_elim}
use native.Mathlib.Omega.{arith}
use native.Mathlib.Decide.{ℕ_discrete}
use lib.ListN.{length}
use Rattle.theory_laws.proofs.Booleans.{or_false, or_split, or_true, and_left, and_right}
use Rattle.theory.specs.Rows.{Wide, bit_at}
use Rattle.rows_steps.specs.Rows.{gain}
use Rattle.rows_steps.specs.Steps.{empty_row, copied, through, middles}
use Rattle.rows_steps.proofs.Grown.{Grown, grown_none, grown_then, grown_gain, gain_wide}
use Rattle.rows_steps.proofs.Places.{row_ends, gain_long, gain_same, gain_other, empty_long, empty_wide, copied_bit}
use Rattle.rows_steps.proofs.Sound.{Sound}

-- ── one middle ──
module _ (n w m : ℕ) (r : List ℕ) where
  -- One node's turn.
  abbrev turn : ℕ → List ℕ → List ℕ
  turn x l = cond (bit_at l (x * w) m) (gain (x * w) 0 w r l) l

  turn_long : (x : ℕ) (l : List ℕ) → length (turn x l) ≡ length l
  turn_long x l = at (bit_at l (x * w) m)
    where
      at : (p : Bool) → length (cond p (gain (x * w) 0 w r l) l) ≡ length l
      at true = gain_long (x * w) 0 w r l
      at false = refl

  turn_grown : {l₀ l : List ℕ} → Grown (n * w) l₀ l → (Wide l₀ → Wide r) → (x : ℕ) → x < n → n * w ≤ length l₀ → Grown (n * w) l₀ (turn x l)
  turn_grown {l₀} {l} t f x h g = at (bit_at l (x * w) m)
    where
      at : (p : Bool) → Grown (n * w) l₀ (cond p (gain (x * w) 0 w r l) l)
      at true = grown_gain t (x * w) 0 w r f (row_ends w x n h) g
      at false = t

  turn_same : (x : ℕ) (l : List ℕ) (y : ℕ) → x < n → n * w ≤ length l → y < w * 64
      → bit_at (turn x l) (x * w) y ≡ (bit_at l (x * w) y || (bit_at l (x * w) m && bit_at r 0 y))
  turn_same x l y h room g = at (bit_at l (x * w) m)
    where
      at : (p : Bool) → bit_at (cond p (gain (x * w) 0 w r l) l) (x * w) y ≡ (bit_at l (x * w) y || (p && bit_at r 0 y))
      at true = gain_same n w l room x 0 r y h g
      at false = sym (or_false (bit_at l (x * w) y))

  turn_other : (x : ℕ) (l : List ℕ) (u y : ℕ) → (u ≡ x → ⊥) → n * w ≤ length l → y < w * 64 → bit_at (turn x l) (u * w) y ≡ bit_at l (u * w) y
  turn_other x l u y f room g = at (bit_at l (x * w) m)
    where
      at : (p : Bool) → bit_at (cond p (gain (x * w) 0 w r l) l) (u * w) y ≡ bit_at l (u * w) y
      at true = gain_other n w l room x 0 r u y f g
      at false = refl

  through_grown : {l₀ : List ℕ} (x j : ℕ) (l : List ℕ) → Grown (n * w) l₀ l → (Wide l₀ → Wide r) → x + j ≤ n → n * w ≤ length l₀ → Grown (n * w) l₀ (through w m r x j l)
  unfolding through
  through_grown x zero l t f h g = t
  through_grown x (suc j) l t f h g = through_grown (suc x) j (turn x l) (turn_grown t f x (omega arith) g) f (omega arith) g

  through_before : (x j : ℕ) (l : List ℕ) (u y : ℕ) → u < x → n * w ≤ length l → y < w * 64 → bit_at (through w m r x j l) (u * w) y ≡ bit_at l (u * w) y
  unfolding through
  through_before x zero l u y h room g = refl
  through_before x (suc j) l u y h room g =
      through_before (suc x) j (turn x l) u y (omega arith) (omega (arith, turn_long x l)) g ∙ turn_other x l u y (λ (e : u ≡ x). omega arith) room g

  through_from : (x j : ℕ) (l : List ℕ) (u y : ℕ) → x ≤ u → u < x + j → x + j ≤ n → n * w ≤ length l → y < w * 64 → m < w * 64
      → bit_at (through w m r x j l) (u * w) y ≡ (bit_at l (u * w) y || (bit_at l (u * w) m && bit_at r 0 y))
  unfolding through
  through_from x zero l u y a b i room g k = absurd (omega arith)
  through_from x (suc j) l u y a b i room g k = at (ℕ_discrete u x)
      (λ f. through_from (suc x) j (turn x l) u y (omega arith) (omega arith) (omega arith) (omega (arith, turn_long x l)) g k)
    where
      at : Dec (u ≡ x)
          → ((u ≡ x → ⊥) → bit_at (through w m r (suc x) j (turn x l)) (u * w) y ≡ (bit_at (turn x l) (u * w) y || (bit_at (turn x l) (u * w) m && bit_at r 0 y)))
          → bit_at (through w m r (suc x) j (turn x l)) (u * w) y ≡ (bit_at l (u * w) y || (bit_at l (u * w) m && bit_at r 0 y))
      at (yes e) f =
          through_before (suc x) j (turn x l) u y (omega arith) (omega (arith, turn_long x l)) g
          ∙ ap (λ (q : ℕ). bit_at (turn x l) (q * w) y) e
          ∙ turn_same x l y (omega arith) room g
          ∙ ap (λ (q : ℕ). bit_at l (q * w) y || (bit_at l (q * w) m && bit_at r 0 y)) (sym e)
      at (no d) f = f d ∙ rw (turn_other x l u y d room g, turn_other x l u m d room k)

-- The turn of m.
abbrev pub middle : ℕ → ℕ → ℕ → List ℕ → List ℕ
middle n w m l = through w m (copied w (m * w) l) 0 n l

-- Closed through each middle from o on below m.
abbrev pub ClosedThrough : ℕ → ℕ → ℕ → ℕ → List ℕ → Type 0
ClosedThrough n w o m l =
    (z x y : ℕ) → o ≤ z → z < m → x < n → y < w * 64 → bit_at l (x * w) z ≡ true → bit_at l (z * w) y ≡ true → bit_at l (x * w) y ≡ true

module _ (n w : ℕ) (few : n ≤ w * 64) (short : w ≤ 16) where
  middle_grown : (m : ℕ) (l : List ℕ) → n * w ≤ length l → Grown (n * w) l (middle n w m l)
  middle_grown m l room =
      through_grown n w m (copied w (m * w) l) 0 n l grown_none (λ d. gain_wide 0 (m * w) w l empty_row (empty_long w short) d empty_wide) (omega arith) room

  module _ (m : ℕ) (l : List ℕ) (inside : m < n) (room : n * w ≤ length l) where
    -- After it: what was so, and what is m is what m is.
    pub middle_at : (x y : ℕ) → x < n → y < w * 64 → bit_at (middle n w m l) (x * w) y ≡ (bit_at l (x * w) y || (bit_at l (x * w) m && bit_at l (m * w) y))
    middle_at x y h g =
        through_from n w m (copied w (m * w) l) 0 n l x y (omega arith) (omega arith) (omega arith) room g (omega arith)
        ∙ ap (λ (q : Bool). bit_at l (x * w) y || (bit_at l (x * w) m && q)) (copied_bit w (m * w) l short y g)

    middle_sound : (P : ℕ → ℕ → Type 0) → ((x y : ℕ) → P x m → P m y → P x y) → Sound n w P l → Sound n w P (middle n w m l)
    middle_sound P f s x y i g e =
        or_split (bit_at l (x * w) y) (bit_at l (x * w) m && bit_at l (m * w) y) (sym (middle_at x y i g) ∙ e)
        (λ b. s x y i g b)
        (λ b. f x y (s x m i (omega arith) (and_left (bit_at l (x * w) m) (bit_at l (m * w) y) b)) (s m y inside g (and_right (bit_at l (x * w) m) (bit_at l (m * w) y) b)))

  -- ── all middles ──
  -- One middle more.
  closed_more : (o m : ℕ) (l : List ℕ) → m < n → n * w ≤ length l → ClosedThrough n w o m l → ClosedThrough n w o (suc m) (middle n w m l)
  closed_more o m l h r c z x y a b i g p q = at (ℕ_discrete z m)
    where
      after : (x y : ℕ) → x < n → y < w * 64 → bit_at (middle n w m l) (x * w) y ≡ true
          → (bit_at l (x * w) y ≡ true) ⊎ ((bit_at l (x * w) m ≡ true) × (bit_at l (m * w) y ≡ true))
      after x y i g e =
          or_split (bit_at l (x * w) y) (bit_at l (x * w) m && bit_at l (m * w) y) (sym (middle_at m l h r x y i g) ∙ e) inl
          (λ t. inr (and_left (bit_at l (x * w) m) (bit_at l (m * w) y) t, and_right (bit_at l (x * w) m) (bit_at l (m * w) y) t))

      was : (x y : ℕ) → x < n → y < w * 64 → bit_at l (x * w) y ≡ true → bit_at (middle n w m l) (x * w) y ≡ true
      was x y i g e = middle_at m l h r x y i g ∙ rw e

      by : (x y : ℕ) → x < n → y < w * 64 → bit_at l (x * w) m ≡ true → bit_at l (m * w) y ≡ true → bit_at (middle n w m l) (x * w) y ≡ true
      by x y i g e f = middle_at m l h r x y i g ∙ rw (e, f) (or_true (bit_at l (x * w) y))

      -- To the middle, and from it, nothing is new.
      to : (x : ℕ) → x < n → bit_at (middle n w m l) (x * w) m ≡ true → bit_at l (x * w) m ≡ true
      to x i e = ⊎_elim (λ t. t) (λ t. t.0) (after x m i (omega arith) e)

      from : (y : ℕ) → y < w * 64 → bit_at (middle n w m l) (m * w) y ≡ true → bit_at l (m * w) y ≡ true
      from y g e = ⊎_elim (λ t. t) (λ t. t.1) (after m y h g e)

      low : z < m → bit_at (middle n w m l) (x * w) y ≡ true
      low d = ⊎_elim
          (λ s. ⊎_elim
          (λ t. was x y i g (c z x y a d i g s t))
          (λ t. by x y i g (c z x m a d i (omega arith) s t.0) t.1)
          (after z y (omega arith) g q))
          (λ s. ⊎_elim
          (λ t. by x y i g s.0 (c z m y a d h g s.1 t))
          (λ t. by x y i g s.0 t.1)
          (after z y (omega arith) g q))
          (after x z i (omega arith) p)

      at : Dec (z ≡ m) → bit_at (middle n w m l) (x * w) y ≡ true
      at (yes e) = by x y i g (to x i (rw e at p)) (from y g (rw e at q))
      at (no f) = low (omega arith)

  pub middles_grown : (m j : ℕ) (l : List ℕ) → m + j ≤ n → n * w ≤ length l → Grown (n * w) l (middles w n m j l)
  unfolding middles
  middles_grown m zero l h r = grown_none
  middles_grown m (suc j) l h r =
      let g = middle_grown m l r in
      grown_then g (middles_grown (suc m) j (middle n w m l) (omega arith) (omega (arith, g.long)))

  pub middles_sound : (P : ℕ → ℕ → Type 0) (m j : ℕ) (l : List ℕ) → m + j ≤ n → n * w ≤ length l
      → ((q x y : ℕ) → m ≤ q → q < m + j → P x q → P q y → P x y) → Sound n w P l → Sound n w P (middles w n m j l)
  unfolding middles
  middles_sound P m zero l h r f s = s
  middles_sound P m (suc j) l h r f s =
      let g = middle_grown m l r in
      middles_sound P (suc m) j (middle n w m l) (omega arith) (omega (arith, g.long)) (λ q x y a b. f q x y (omega arith) (omega arith))
      (middle_sound m l (omega arith) r P (λ x y. f m x y (omega arith) (omega arith)) s)

  pub middles_closed : (o m j : ℕ) (l : List ℕ) → m + j ≤ n → n * w ≤ length l → ClosedThrough n w o m l → ClosedThrough n w o (m + j) (middles w n m j l)
  unfolding middles
  middles_closed o m zero l h r c = let e : m + 0 ≡ m = omega arith in rw e c
  middles_closed o m (suc j) l h r c =
      let g = middle_grown m l r in
      let e : m + suc j ≡ suc m + j = omega arith in
      rw e (middles_closed o (suc m) j (middle n w m l) (omega arith) (omega (arith, g.long)) (closed_more o m l (omega arith) r c))
