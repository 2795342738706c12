-- Rows in which every bit of n rows of w words means something that is so.
use Prim.Native.Nat.{ℕ, ◌+◌, ◌*◌, ◌/◌, ◌≤◌, ◌<◌}
use mathlib.Core.Path.{◌≡◌, refl, sym, ◌∙◌}
use mathlib.Core.Bool.{Bool, true, false, cond}
use mathlib.Core.List.{List}
use mathlib.Core.Logic.{⊎_elim}
use native.Mathlib.Decide.{ℕ_discrete}
use lib.ListN.{length}
use Rattle.theory_laws.proofs.Booleans.{or_split}
use Rattle.theory.specs.Rows.{bit_at}
use Rattle.rows_steps.specs.Rows.{put, gain}
use Rattle.rows_steps.proofs.Grown.{Grown}
use Rattle.rows_steps.proofs.Places.{gain_same, gain_other, put_only}

-- Of every bit that is set P is so.
abbrev pub Sound : ℕ → ℕ → (ℕ → ℕ → Type 0) → List ℕ → Type 0
Sound n w P l = (x y : ℕ) → x < n → y < w * 64 → bit_at l (x * w) y ≡ true → P x y

-- What grew has every bit that it had.
pub still : {z : ℕ} {l l' : List ℕ} → Grown z l l' → (a y : ℕ) → bit_at l a y ≡ true → bit_at l' a y ≡ true
still g a y e = g.keeps (a + y / 64) (_) e

module _ (n w : ℕ) (P : ℕ → ℕ → Type 0) (l : List ℕ) (room : n * w ≤ length l) (sound : Sound n w P l) where
  pub put_sound : (x y : ℕ) → x < n → y < w * 64 → P x y → Sound n w P (put (x * w) y l)
  put_sound x y h g p u v i j e = ⊎_elim
      (λ q. rw (q.0, q.1) p)
      (λ b. sound u v i j b)
      (put_only n w l room x y u v h g j e)

  pub gain_sound : (x b : ℕ) (r : List ℕ) → x < n → ((y : ℕ) → y < w * 64 → bit_at r b y ≡ true → P x y) → Sound n w P (gain (x * w) b w r l)
  gain_sound x b r h f u v i j e = at (ℕ_discrete u x)
    where
      at : Dec (u ≡ x) → P u v
      at (yes d) =
          let q : bit_at (gain (x * w) b w r l) (x * w) v ≡ true = rw d at e in
          rw d (or_split (bit_at l (x * w) v) (bit_at r b v) (sym (gain_same n w l room x b r v h j) ∙ q) (λ s. sound x v h j s) (λ s. f v j s))
      at (no d) = sound u v i j (sym (gain_other n w l room x b r u v d j) ∙ e)

-- Either of two lists.
pub sound_if : (n w : ℕ) (P : ℕ → ℕ → Type 0) (l l' : List ℕ) (p : Bool) → (p ≡ true → Sound n w P l') → Sound n w P l → Sound n w P (cond p l' l)
sound_if n w P l l' true f g = f refl
sound_if n w P l l' false f g = g
