-- No passed up to what is (3.4): a row gains the rows of all nodes in its yes row, and nothing else, though rows change on the way.
use Prim.Native.Nat.{ℕ, zero, suc, ◌+◌, ◌*◌, ◌/◌, ◌%◌, ◌≤◌, ◌<◌}
use mathlib.Core.Path.{◌≡◌, refl, sym, ◌∙◌}
use mathlib.Core.Bool.{true}
use mathlib.Core.List.{List, [], ◌∷◌, Memᴰ}
use native.Mathlib.Omega.{arith}
use native.Mathlib.Decide.{ℕ_discrete}
use lib.ListN.{length, get_or}
use Rattle.theory_laws.proofs.Booleans.{contradiction, or_true, or_split}
use Rattle.theory.specs.Rows.{Wide, bit_at}
use Rattle.rows_steps.specs.Members.{members}
use Rattle.rows_steps.specs.Rows.{gain}
use Rattle.rows_steps.specs.Steps.{empty_row, gather_nodes, gather_words, gather}
use Rattle.rows_steps.proofs.Members.{member_is}
use Rattle.rows_steps.proofs.Grown.{Grown, grown_none, grown_then, grown_gain, gain_wide}
use Rattle.rows_steps.proofs.Places.{row_ends, gain_long, gain_bit, gain_same, empty_long, empty_bit, empty_wide}
use Rattle.rows_steps.proofs.Sound.{Sound, still, gain_sound}

-- ── the nodes of one word, in a row r of at least w words ──
module _ (w base : ℕ) (l : List ℕ) where
  nodes_long : (ts r : List ℕ) → length (gather_nodes w base ts l r) ≡ length r
  unfolding gather_nodes
  nodes_long [] r = refl
  nodes_long (t ∷ ts) r = nodes_long ts (gain 0 ((base + t) * w) w l r) ∙ gain_long 0 ((base + t) * w) w l r

  nodes_wide : (ts r : List ℕ) → w ≤ length r → Wide l → Wide r → Wide (gather_nodes w base ts l r)
  unfolding gather_nodes
  nodes_wide [] r h d e = e
  nodes_wide (t ∷ ts) r h d e =
      nodes_wide ts (gain 0 ((base + t) * w) w l r) (omega (arith, gain_long 0 ((base + t) * w) w l r)) d (gain_wide 0 ((base + t) * w) w l r (omega arith) d e)

  module _ (y : ℕ) (small : y < w * 64) where
    -- What the row had, and what the nodes have,
    nodes_set : (ts r : List ℕ) → w ≤ length r → bit_at r 0 y ≡ true → bit_at (gather_nodes w base ts l r) 0 y ≡ true
    unfolding gather_nodes
    nodes_set [] r h e = e
    nodes_set (t ∷ ts) r h e =
        nodes_set ts (gain 0 ((base + t) * w) w l r) (omega (arith, gain_long 0 ((base + t) * w) w l r)) (gain_bit 0 ((base + t) * w) w l r (omega arith) y small ∙ rw e)

    nodes_gained : (ts r : List ℕ) → w ≤ length r → (t : ℕ) → Memᴰ t ts → bit_at l ((base + t) * w) y ≡ true → bit_at (gather_nodes w base ts l r) 0 y ≡ true
    unfolding gather_nodes
    nodes_gained [] r h t m b = elim m [ ]
    nodes_gained (u ∷ ts) r h t (mathlib.Core.List.Memᴰ.head e) b =
        let c : bit_at l ((base + u) * w) y ≡ true = rw e at b in
        nodes_set ts (gain 0 ((base + u) * w) w l r) (omega (arith, gain_long 0 ((base + u) * w) w l r))
        (gain_bit 0 ((base + u) * w) w l r (omega arith) y small ∙ rw c (or_true (bit_at r 0 y)))
    nodes_gained (u ∷ ts) r h t (mathlib.Core.List.Memᴰ.tail m) b =
        nodes_gained ts (gain 0 ((base + u) * w) w l r) (omega (arith, gain_long 0 ((base + u) * w) w l r)) t m b

    -- and nothing else.
    nodes_only : (Q : Type 0) (ts r : List ℕ) → w ≤ length r → (bit_at r 0 y ≡ true → Q) → ((t : ℕ) → Memᴰ t ts → bit_at l ((base + t) * w) y ≡ true → Q)
        → bit_at (gather_nodes w base ts l r) 0 y ≡ true → Q
    unfolding gather_nodes
    nodes_only Q [] r h f g e = f e
    nodes_only Q (t ∷ ts) r h f g e =
        nodes_only Q ts (gain 0 ((base + t) * w) w l r) (omega (arith, gain_long 0 ((base + t) * w) w l r))
        (λ b. or_split (bit_at r 0 y) (bit_at l ((base + t) * w) y) (sym (gain_bit 0 ((base + t) * w) w l r (omega arith) y small) ∙ b) f (g t (mathlib.Core.List.Memᴰ.head refl)))
        (λ u m. g u (mathlib.Core.List.Memᴰ.tail m)) e

-- ── the words of a yes row ──
module _ (w a : ℕ) (yeses l : List ℕ) where
  -- The members of word i are the bits of the row there.
  member_bit : (i t : ℕ) → Memᴰ t (members (get_or yeses (a + i) 0)) → (t < 64) × (bit_at yeses a (i * 64 + t) ≡ true)
  member_bit i t m =
      let r = (member_is (get_or yeses (a + i) 0) t).0 m in
      let h : t < 64 = r.1 in
      let p : (i * 64 + t) % 64 ≡ t = omega arith in
      let q : (i * 64 + t) / 64 ≡ i = omega arith in
      (h, rw (p, q) r.0)

  bit_member : (q : ℕ) → bit_at yeses a q ≡ true → Memᴰ (q % 64) (members (get_or yeses (a + q / 64) 0))
  bit_member q b = (member_is (get_or yeses (a + q / 64) 0) (q % 64)).1 (b, omega arith)

  -- The row after word i.
  abbrev after : ℕ → List ℕ → List ℕ
  after i r = gather_nodes w (i * 64) (members (get_or yeses (a + i) 0)) l r

  after_long : (i : ℕ) (r : List ℕ) → length (after i r) ≡ length r
  after_long i r = nodes_long w (i * 64) l (members (get_or yeses (a + i) 0)) r

  pub words_long : (i j : ℕ) (r : List ℕ) → length (gather_words w a i j yeses l r) ≡ length r
  unfolding gather_words
  words_long i zero r = refl
  words_long i (suc j) r = words_long (suc i) j (after i r) ∙ after_long i r

  words_wide : (i j : ℕ) (r : List ℕ) → w ≤ length r → Wide l → Wide r → Wide (gather_words w a i j yeses l r)
  unfolding gather_words
  words_wide i zero r h d e = e
  words_wide i (suc j) r h d e =
      words_wide (suc i) j (after i r) (omega (arith, after_long i r)) d (nodes_wide w (i * 64) l (members (get_or yeses (a + i) 0)) r h d e)

  module _ (y : ℕ) (small : y < w * 64) where
    words_set : (i j : ℕ) (r : List ℕ) → w ≤ length r → bit_at r 0 y ≡ true → bit_at (gather_words w a i j yeses l r) 0 y ≡ true
    unfolding gather_words
    words_set i zero r h e = e
    words_set i (suc j) r h e =
        words_set (suc i) j (after i r) (omega (arith, after_long i r)) (nodes_set w (i * 64) l y small (members (get_or yeses (a + i) 0)) r h e)

    words_gained : (i j : ℕ) (r : List ℕ) → w ≤ length r → (q : ℕ) → i ≤ q / 64 → q / 64 < i + j → bit_at yeses a q ≡ true → bit_at l (q * w) y ≡ true
        → bit_at (gather_words w a i j yeses l r) 0 y ≡ true
    unfolding gather_words
    words_gained i zero r h q k n c e = absurd (omega arith)
    words_gained i (suc j) r h q k n c e = at (ℕ_discrete (q / 64) i) (λ f. words_gained (suc i) j (after i r) (omega (arith, after_long i r)) q (omega arith) (omega arith) c e)
      where
        at : Dec (q / 64 ≡ i) → ((q / 64 ≡ i → ⊥) → bit_at (gather_words w a (suc i) j yeses l (after i r)) 0 y ≡ true)
            → bit_at (gather_words w a (suc i) j yeses l (after i r)) 0 y ≡ true
        at (yes d) f =
            let ts = members (get_or yeses (a + i) 0) in
            let m : Memᴰ (q % 64) ts = rw d at (bit_member q c) in
            let p : i * 64 + q % 64 ≡ q = omega arith in
            words_set (suc i) j (after i r) (omega (arith, after_long i r)) (nodes_gained w (i * 64) l y small ts r h (q % 64) m (rw p e))
        at (no d) f = f d

    words_only : (Q : Type 0) (i j : ℕ) (r : List ℕ) → w ≤ length r → i + j ≤ w → (bit_at r 0 y ≡ true → Q)
        → ((q : ℕ) → q < w * 64 → bit_at yeses a q ≡ true → bit_at l (q * w) y ≡ true → Q) → bit_at (gather_words w a i j yeses l r) 0 y ≡ true → Q
    unfolding gather_words
    words_only Q i zero r h k f g e = f e
    words_only Q i (suc j) r h k f g e =
        words_only Q (suc i) j (after i r) (omega (arith, after_long i r)) (omega arith)
        (nodes_only w (i * 64) l y small Q (members (get_or yeses (a + i) 0)) r h f
        (λ t m. let b = member_bit i t m in g (i * 64 + t) (omega (arith, b.0)) b.1))
        g e

-- ── all rows ──
room : (w : ℕ) → w ≤ 16 → w ≤ length empty_row
room w h = omega (arith, empty_long w h)

module _ (n w : ℕ) (few : n ≤ w * 64) (short : w ≤ 16) (yeses : List ℕ) where
  -- What row x gains, and the rows then.
  abbrev row : ℕ → List ℕ → List ℕ
  row x l = gather_words w (x * w) 0 w yeses l empty_row

  abbrev next : ℕ → List ℕ → List ℕ
  next x l = gain (x * w) 0 w (row x l) l

  next_grown : (x : ℕ) (l : List ℕ) → x < n → n * w ≤ length l → Grown (n * w) l (next x l)
  next_grown x l h big =
      grown_gain grown_none (x * w) 0 w (row x l) (λ d. words_wide w (x * w) yeses l 0 w empty_row (room w short) d empty_wide) (row_ends w x n h) big

  pub gather_grown : (x j : ℕ) (l : List ℕ) → x + j ≤ n → n * w ≤ length l → Grown (n * w) l (gather w x j yeses l)
  unfolding gather
  gather_grown x zero l h big = grown_none
  gather_grown x (suc j) l h big =
      let g = next_grown x l (omega arith) big in
      grown_then g (gather_grown (suc x) j (next x l) (omega arith) (omega (arith, g.long)))

  pub gather_sound : (P : ℕ → ℕ → Type 0) (x j : ℕ) (l : List ℕ) → x + j ≤ n → n * w ≤ length l
      → ((u q : ℕ) → u < n → q < w * 64 → bit_at yeses (u * w) q ≡ true → (q < n) × ((y : ℕ) → P q y → P u y)) → Sound n w P l → Sound n w P (gather w x j yeses l)
  unfolding gather
  gather_sound P x zero l h big f s = s
  gather_sound P x (suc j) l h big f s =
      let g = next_grown x l (omega arith) big in
      gather_sound P (suc x) j (next x l) (omega arith) (omega (arith, g.long)) f
      (gain_sound n w P l big s x 0 (row x l) (omega arith)
      (λ y small e.
      words_only w (x * w) yeses l y small (P x y) 0 w empty_row (room w short) (omega arith) (λ b. contradiction (sym (empty_bit y) ∙ b))
      (λ q k b c. let t = f x q (omega arith) k b in t.1 y (s q y t.0 small c)) e))

  -- Row u has what the rows of the nodes in its yes row had.
  pub gather_set : (x j : ℕ) (l : List ℕ) → x + j ≤ n → n * w ≤ length l → (u q y : ℕ) → x ≤ u → u < x + j → q < w * 64 → bit_at yeses (u * w) q ≡ true → y < w * 64
      → bit_at l (q * w) y ≡ true → bit_at (gather w x j yeses l) (u * w) y ≡ true
  unfolding gather
  gather_set x zero l h big u q y a b k c g e = absurd (omega arith)
  gather_set x (suc j) l h big u q y a b k c g e = at (ℕ_discrete u x)
      (λ f.
      let t = next_grown x l (omega arith) big in
      gather_set (suc x) j (next x l) (omega arith) (omega (arith, t.long)) u q y (omega arith) (omega arith) k c g (still t (q * w) y e))
    where
      at : Dec (u ≡ x) → ((u ≡ x → ⊥) → bit_at (gather w (suc x) j yeses (next x l)) (u * w) y ≡ true) → bit_at (gather w (suc x) j yeses (next x l)) (u * w) y ≡ true
      at (yes d) f =
          let t = next_grown x l (omega arith) big in
          let b : bit_at (row x l) 0 y ≡ true = words_gained w (x * w) yeses l y g 0 w empty_row (room w short) q (omega arith) (omega arith) (rw d at c) e in
          rw d
          (still (gather_grown (suc x) j (next x l) (omega arith) (omega (arith, t.long))) (x * w) y
          (gain_same n w l big x 0 (row x l) y (omega arith) g ∙ rw b (or_true (bit_at l (x * w) y))))
      at (no d) f = f d
