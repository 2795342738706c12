-- The text of lines, one line at a time.
use Prim.Native.Nat.{ℕ, zero, suc, ◌+◌, ◌-◌, ◌*◌, ◌/◌, ◌≤◌, ◌<◌}
use mathlib.Core.Path.{◌≡◌, refl, sym, ap, ◌∙◌}
use mathlib.Core.Bool.{Bool}
use mathlib.Core.List.{List, [], ◌∷◌, ◌++◌, append_assoc, append-nil}
use native.Mathlib.Omega.{arith}
use native.Mathlib.Numerals.{add-one}
use lib.ListN.{length, get_or, take, drop, get_or-append, length-append, length-drop}
use lib.Seq.{take_all, get_or-drop, drop-drop, drop-append_seam}
use Rattle.text_field.specs.Writing.{Wrote}
use Rattle.text_field.proofs.Writing.{rest, rejoined, wrote_more, wrote_as}
use Rattle.derivation_lines.specs.Lines.{Line, blank}
use Rattle.derivation_lines.specs.Flat.{line_at, lines_of}
use Rattle.derivation_lines.proofs.Flatness.{lines_length, line_read}
use Rattle.why_line.specs.Text.{line_text, lines_text}

module _ (told : Bool) (ws : List ℕ) where
  -- One line more.
  lines_more : (ls : List Line) (n i : ℕ) → i < length ls → lines_text told ws n (take (suc i) ls) ≡ lines_text told ws n (take i ls) ++ line_text told ws (n + i) (get_or ls i blank)
  unfolding lines_text
  lines_more [] n i h = absurd (omega arith)
  lines_more (l ∷ ls) n zero h =
      let e : n + 0 ≡ n = omega arith in
      append-nil (line_text told ws n l) ∙ rw e refl
  lines_more (l ∷ ls) n (suc i) h =
      let e : suc n + i ≡ n + suc i = omega arith in
      ap (λ (t : List ℕ). line_text told ws n l ++ t) (lines_more ls (suc n) i (omega arith) ∙ ap (λ (m : ℕ). lines_text told ws (suc n) (take i ls) ++ line_text told ws m (get_or ls i blank)) e)
      ∙ sym (append_assoc (line_text told ws n l) (lines_text told ws (suc n) (take i ls)) (line_text told ws (n + suc i) (get_or ls i blank)))

  -- One line more, written into what the lines before it leave.
  pub line_written : (l text : List ℕ) (n : ℕ) {xs ys : List ℕ} {at r : ℕ} → Wrote (lines_text told ws 0 (take n (lines_of l))) text xs at
      → length (lines_text told ws 0 (take n (lines_of l))) ≤ length text → n < length l / 4
      → Wrote (line_text told ws n (line_at (get_or l (4 * n) 0) (get_or l (4 * n + 1) 0) (get_or l (4 * n + 2) 0) (get_or l (4 * n + 3) 0))) (rest at xs) ys r
      → Wrote (lines_text told ws 0 (take (n + 1) (lines_of l))) text (rejoined at xs ys) (at + r)
  line_written l text n w h b v =
      let e : 0 + n ≡ n = omega arith in
      let d : lines_text told ws 0 (take n (lines_of l)) ++ line_text told ws n (line_at (get_or l (4 * n) 0) (get_or l (4 * n + 1) 0) (get_or l (4 * n + 2) 0) (get_or l (4 * n + 3) 0))
      ≡ lines_text told ws 0 (take (suc n) (lines_of l)) =
      sym (lines_more (lines_of l) 0 n (omega (arith, lines_length l)) ∙ rw (e, line_read l n (omega arith)) refl) in
      rw add-one (wrote_as d (wrote_more w h v))

  -- All lines written.
  pub lines_written : (l text : List ℕ) (n : ℕ) {xs : List ℕ} {at : ℕ} → length l / 4 ≤ n → Wrote (lines_text told ws 0 (take n (lines_of l))) text xs at
      → Wrote (lines_text told ws 0 (lines_of l)) text xs at
  lines_written l text n h w = wrote_as (ap (lines_text told ws 0) (take_all n (lines_of l) (omega (arith, lines_length l)))) w

-- Four numbers taken off what stands from line n on are that line's, and the next line's stand behind them.
module _ (l line more : List ℕ) (n : ℕ) (taken : drop (4 * n) l ≡ line ++ more) (four : length line ≡ 4) where
  pub line_inside : 4 * n + 4 ≤ length l
  line_inside =
      let e : length l - 4 * n ≡ 4 + length more = sym (length-drop (4 * n) l) ∙ ap length taken ∙ simp (length-append, four) in
      omega arith

  pub next_left : more ≡ drop (4 * (n + 1)) l
  next_left =
      let e : more ≡ drop (4 * n + 4) l = rw (← drop-drop 4 (4 * n) l, taken, ← four) (sym (drop-append_seam line more)) in
      e ∙ ap (λ (j : ℕ). drop j l) (omega arith)

  pub number_there : (j : ℕ) → j < 4 → get_or line j 0 ≡ get_or l (4 * n + j) 0
  number_there j h = sym (get_or-append line more 0 j (omega arith)) ∙ ap (λ (k : List ℕ). get_or k j 0) (sym taken) ∙ simp get_or-drop

  pub word_there : get_or line 0 0 ≡ get_or l (4 * n) 0
  word_there = number_there 0 (omega arith) ∙ ap (λ (j : ℕ). get_or l j 0) (omega arith)

-- Where fewer than four are left, no line is.
pub none_left : (l rest : List ℕ) (n : ℕ) → rest ≡ drop (4 * n) l → length rest < 4 → length l / 4 ≤ n
none_left l rest n e h = let d : length rest ≡ length l - 4 * n = ap length e ∙ length-drop (4 * n) l in omega arith
