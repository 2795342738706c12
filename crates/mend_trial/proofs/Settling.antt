-- Rounds over plain words from the marks of a trial, with more bytes behind them.
use Prim.Native.Nat.{ℕ, ◌+◌, ◌-◌, ◌*◌, ◌^◌, ◌≤◌, ◌<◌}
use mathlib.Core.Path.{◌≡◌, refl, ap, ◌∙◌}
use mathlib.Core.List.{List, ◌++◌}
use native.Mathlib.Omega.{arith}
use lib.Bits.{bit_or}
use lib.ListN.{length, get_or, set, drop, replicate, get_or-append}
use lib.Seq.{drop-append_seam, set-append_left}
use Rattle.theory.specs.Words.{tail_of, head_of, parity}
use Rattle.theory.specs.Marks.{T, F, U, mark, blank, commands, scan_start}
use Rattle.theory.specs.Scans.{Scan}
use Rattle.theory.specs.Inside.{Ends, Inside}
use Rattle.theory.specs.Origins.{chosen, InsideFrom}
use Rattle.theory.proofs.machine.Frame.{mark_frame, rounds_frame}
use Rattle.theory.proofs.machine.Starts.{blank_byte, blank_room, commands_put_8, T_long, start_long}
use Rattle.theory.proofs.machine.Bounds.{BytesBelow, rounds_long}
use Rattle.theory.proofs.origins.Choosing.{Plain, plain_origin, plain_itself, chosen_plain}
use Rattle.scan_start.specs.Starts.{Low}
use Rattle.theory.specs.Mending.{link_start, settled_marks, first_with, clashing_node, clashing_kind}
use Rattle.theory.proofs.mending.Starting.{marker_is, marker_isnt, link_long, link_low}
use Rattle.mend_trial.proofs.Searching.{with_frame}

-- ── words whose ends are nodes are plain ──
module _ (n : ℕ) (ws : List ℕ) (few : n ≤ 1024) (e : Inside n ws) where
  inside_plain : Plain ws
  inside_plain w m = omega (arith, (e w m).tail_in)

  pub inside_from_plain : InsideFrom n ws
  inside_from_plain w m =
      let b = inside_plain w m in
      record { origin = omega (arith, plain_origin w b); ends = rw (plain_itself w b) (e w m) }

  -- So a scan that reads them as plain words reads all of them.
  pub settled_plain : (m : List ℕ) → settled_marks n (chosen 1 ws) m ≡ settled_marks n ws m
  settled_plain m = ap (λ (l : List ℕ). settled_marks n l m) (chosen_plain 1 refl ws inside_plain)

-- ── the marks to begin with ──
-- T at p, as the code writes it.
put_T : (n p : ℕ) (past : List ℕ) → p < n → set (replicate n 0 ++ past) p 1 ≡ mark T p (blank n) ++ past
unfolding mark
put_T n p past h = set-append_left (blank n) past p 1 (blank_room n p h) ∙ rw (blank_byte n p)

-- T at p and the marker j at q, as the code writes them.
put : (j n p q : ℕ) (past : List ℕ) → p < n → q < n
    → set (set (replicate n 0 ++ past) p 1) q (bit_or (get_or (set (replicate n 0 ++ past) p 1) q 0) (2 ^ j)) ≡ mark j q (mark T p (blank n)) ++ past
unfolding mark
put j n p q past h i =
    rw (put_T n p past h) (mark_frame past j q (mark T p (blank n)) (omega (arith, T_long n p h)))

module _ (n w : ℕ) (past : List ℕ) (e : Ends n w) where
  pub put_is : parity w ≡ 0 → set (set (replicate n 0 ++ past) (tail_of w) 1) (head_of w) (bit_or (get_or (set (replicate n 0 ++ past) (tail_of w) 1) (head_of w) 0) 4) ≡ link_start n w ++ past
  put_is h = rw (marker_is w h) (put U n (tail_of w) (head_of w) past e.tail_in e.head_in)

  pub put_isnt : parity w ≡ 1 → set (set (replicate n 0 ++ past) (tail_of w) 1) (head_of w) (bit_or (get_or (set (replicate n 0 ++ past) (tail_of w) 1) (head_of w) 0) 2) ≡ link_start n w ++ past
  put_isnt h = rw (marker_isnt w h) (put F n (tail_of w) (head_of w) past e.tail_in e.head_in)

-- Bytes of the nodes below 8 stay so with more behind them.
low_more : (n : ℕ) (m past : List ℕ) → length m ≡ n → BytesBelow n 3 m → Low n (m ++ past)
low_more n m past l b v h = rw (get_or-append m past 0 v (omega (arith, l))) (b v h)

pub link_low_more : (n w : ℕ) (past : List ℕ) → Ends n w → Low n (link_start n w ++ past)
link_low_more n w past e = low_more n (link_start n w) past (link_long n w e) (link_low n w e)

-- The marks of the nodes settle as they would alone, and what is behind them stays.
module _ (n : ℕ) (ws : List ℕ) (e : Inside n ws) (m past : List ℕ) (l : length m ≡ n) where
  abbrev marks_of : Scan → List ℕ
  marks_of s = s.marks

  settled_frame : settled_marks n ws (m ++ past) ≡ settled_marks n ws m ++ past
  settled_frame = ap marks_of (rounds_frame past commands commands_put_8 ws (3 * n + 1) 0 m (rw l e))

  settled_long : length (settled_marks n ws m) ≡ n
  settled_long = rounds_long n ws e commands commands_put_8 (3 * n + 1) m (omega (arith, l)) ∙ l

  module _ (m₁ m₂ : List ℕ) (e₁ : m₁ ≡ m ++ past) (e₂ : m₂ ≡ settled_marks n ws m₁) where
    left : m₂ ≡ settled_marks n ws m ++ past
    left = e₂ ∙ ap (settled_marks n ws) e₁ ∙ settled_frame

    pub first_left : (a b v j : ℕ) → v + j ≤ n → first_with a b m₂ v j ≡ first_with a b (settled_marks n ws m) v j
    first_left a b v j h = rw left (with_frame a b (settled_marks n ws m) past v j (omega (arith, settled_long)))

    pub past_left : drop n m₂ ≡ past
    past_left =
        let d = drop-append_seam (settled_marks n ws m) past in
        rw left (rw settled_long at d)

-- What the two searches find, in the terms of the code.
module _ (n : ℕ) (ws : List ℕ) (e : Inside n ws) (m : List ℕ) {m₁ m₂ : List ℕ} {r : ℕ} (s : m₂ ≡ settled_marks n ws m₁) where
  pub node_found : (w : ℕ) → Ends n w → m₁ ≡ link_start n w ++ drop n m → r ≡ first_with T F m₂ 0 (n - 0) → (r ≡ clashing_node n ws w) × (drop n m₂ ≡ drop n m)
  node_found w d p f =
      let l = link_long n w d in
      let j : n - 0 ≡ n = omega arith in
      (f ∙ first_left n ws e (link_start n w) (drop n m) l m₁ m₂ p s T F 0 (n - 0) (omega arith) ∙ ap (first_with T F (settled_marks n ws (link_start n w)) 0) j, past_left n ws e (link_start n w) (drop n m) l m₁ m₂ p s)

  pub kind_found : (o k x : ℕ) → n ≡ o + k → x < n → m₁ ≡ scan_start n x ++ drop n m → r ≡ first_with U F m₂ o (n - o) → (r ≡ clashing_kind o k ws x) × (drop n m₂ ≡ drop n m)
  kind_found o k x z h p f =
      let l = start_long n x h in
      let j : n - o ≡ k = omega arith in
      (rw (← z) (f ∙ first_left n ws e (scan_start n x) (drop n m) l m₁ m₂ p s U F o (n - o) (omega arith) ∙ ap (first_with U F (settled_marks n ws (scan_start n x)) o) j), past_left n ws e (scan_start n x) (drop n m) l m₁ m₂ p s)
