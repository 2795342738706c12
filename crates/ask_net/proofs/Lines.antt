-- The lines of the questions, one line at a time.
use Prim.Native.Nat.{ℕ, zero, suc, ◌+◌, ◌*◌, ◌≤◌}
use mathlib.Core.Path.{◌≡◌, sym, ap, ◌∙◌}
use mathlib.Core.List.{List, ◌++◌, append_assoc, append-nil}
use native.Mathlib.Omega.{arith}
use native.Mathlib.Numerals.{add-one}
use native.Mathlib.Nat.{suc-mul, add_assoc}
use lib.ListN.{length, drop}
use lib.Seq.{get_or-drop}
use Rattle.text_field.specs.Writing.{Wrote}
use Rattle.text_field.proofs.Writing.{rest, rejoined, wrote_more, wrote_as}
use Rattle.theory.specs.Marks.{blank}
use Rattle.question.specs.Table.{questioned}
use Rattle.question.specs.Table.{Asked}
use Rattle.netfile_numbers.specs.Bytes.{u16_at}
use Rattle.ask_line.specs.Line.{line_of}
use Rattle.ask_net.specs.Lines.{lines_of}

module _ (o k : ℕ) (ws : List ℕ) (set : ℕ) where
  -- The line of the question at the byte i of a body.
  abbrev line_at : List ℕ → ℕ → List ℕ
  line_at b i = line_of (u16_at b i) (u16_at b (i + 2)) (questioned o k ws set (u16_at b i) (u16_at b (i + 2)) (blank 1024)).answer

  further : (b : List ℕ) (i j : ℕ) → u16_at (drop i b) j ≡ u16_at b (i + j)
  further b i j = simp (get_or-drop, ← add_assoc)

  line_further : (b : List ℕ) (i j : ℕ) → line_at (drop i b) j ≡ line_at b (i + j)
  line_further b i j =
      let e : i + (j + 2) ≡ i + j + 2 = omega arith in
      let f : u16_at (drop i b) (j + 2) ≡ u16_at b (i + j + 2) = further b i (j + 2) ∙ ap (u16_at b) e in
      rw (further b i j, f)

  -- One line more.
  pub lines_more : (j : ℕ) (b : List ℕ) → lines_of o k ws set (suc j) b ≡ lines_of o k ws set j b ++ line_at b (j * 4)
  unfolding lines_of
  lines_more zero b = append-nil _
  lines_more (suc j) b =
      let e : 4 + j * 4 ≡ suc j * 4 = omega (arith, suc-mul j 4) in
      ap (λ (l : List ℕ). line_at b 0 ++ l) (lines_more j (drop 4 b) ∙ ap (λ (l : List ℕ). lines_of o k ws set j (drop 4 b) ++ l) (line_further b 4 (j * 4) ∙ ap (line_at b) e))
      ∙ sym (append_assoc (line_at b 0) (lines_of o k ws set j (drop 4 b)) (line_at b (suc j * 4)))

  -- One line more, written into what the lines before it leave.
  pub line_written : (b l : List ℕ) (i : ℕ) {xs ys : List ℕ} {at x y r : ℕ} {a : Asked} → Wrote (lines_of o k ws set i b) l xs at → length (lines_of o k ws set i b) ≤ length l
      → x ≡ u16_at b (i * 4) → y ≡ u16_at b (i * 4 + 2) → a ≡ (questioned o k ws set x y (blank 1024)).answer
      → Wrote (line_of x y a) (rest at xs) ys r → Wrote (lines_of o k ws set (i + 1) b) l (rejoined at xs ys) (at + r)
  line_written b l i {x = x} {y = y} {a = a} w h e f g v =
      let d : line_of x y a ≡ line_at b (i * 4) = rw (g, e, f) in
      rw add-one (wrote_as (ap (λ (t : List ℕ). lines_of o k ws set i b ++ t) d ∙ sym (lines_more i b)) (wrote_more w h v))

  -- All lines written.
  pub lines_written : (b l : List ℕ) {i n : ℕ} {xs : List ℕ} {at : ℕ} → i ≡ n → Wrote (lines_of o k ws set i b) l xs at → Wrote (lines_of o k ws set n b) l xs at
  lines_written b l e w = wrote_as (ap (λ (j : ℕ). lines_of o k ws set j b) e) w
