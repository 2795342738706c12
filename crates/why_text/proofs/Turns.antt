-- The text of a file is made of its turns, one after another until one is the last.
use Prim.Native.Nat.{ℕ, zero, suc, ◌+◌, ◌*◌, ◌/◌, ◌≤◌, ◌<◌}
use mathlib.Core.Path.{◌≡◌, refl, sym, ap, ◌∙◌}
use mathlib.Core.Bool.{Bool, true, false, cond}
use mathlib.Core.List.{List, [], ◌++◌, append-nil}
use native.Mathlib.Omega.{arith}
use native.Mathlib.Nat.{suc-mul, add_assoc}
use borrow.Author.Tests.{lt-ltb, le-ltb, ltb-true}
use lib.ListN.{length, drop}
use lib.Seq.{get_or-drop, drop-drop}
use Rattle.netfile_numbers.specs.Bytes.{u16_at}
use Rattle.why_question.specs.Because.{question_text}
use Rattle.why_text.specs.Text.{questions_text, why_of}
use Rattle.why_text.specs.Turns.{Part, question_at, question_part, part_of, goes_on, turns_from}
use Rattle.why_text.proofs.Seen.{Seen, one, each, file_seen}

-- ── the questions of a body, one by one ──
module _ (told : Bool) (o k : ℕ) (ws : List ℕ) (set : ℕ) (b : List ℕ) where
  further : (i j : ℕ) → u16_at b (i + j) ≡ u16_at (drop i b) j
  further i j = simp (get_or-drop, ← add_assoc)

  pub question_there : (i : ℕ) → i < length b / 4 → question_at told o k ws set b i ≡ question_text told o k ws set (u16_at b (i * 4)) (u16_at b (i * 4 + 2))
  unfolding question_at
  question_there i h = rw (lt-ltb i (length b / 4) h)

  pub no_question : (i : ℕ) → length b / 4 ≤ i → question_at told o k ws set b i ≡ []
  unfolding question_at
  no_question i h = rw (le-ltb i (length b / 4) h)

  -- The first question of what is left of the body at question i.
  question_next : (i : ℕ) → i < length b / 4 → question_at told o k ws set b i ≡ question_text told o k ws set (u16_at (drop (i * 4) b) 0) (u16_at (drop (i * 4) b) 2)
  question_next i h =
      let e : i * 4 ≡ i * 4 + 0 = omega arith in
      question_there i h ∙ rw (ap (u16_at b) e ∙ further (i * 4) 0, further (i * 4) 2)

  left_after : (i : ℕ) → drop (suc i * 4) b ≡ drop 4 (drop (i * 4) b)
  left_after i =
      let e : suc i * 4 ≡ i * 4 + 4 = omega (arith, suc-mul i 4) in
      ap (λ (n : ℕ). drop n b) e ∙ sym (drop-drop 4 (i * 4) b)

-- ── the turns of a file ──
module _ (s : List ℕ) where
  -- One turn, and those after it where it is not the last.
  one_turn : (left i : ℕ) {p : Part} → part_of s i ≡ p → turns_from (suc left) s i ≡ p.text ++ cond p.going (turns_from left s (suc i)) []
  unfolding turns_from
  one_turn left i e = ap (λ (p : Part). p.text ++ cond p.going (turns_from left s (suc i)) []) e

  -- The turns from turn i on print the questions from question i on.
  module _ (told : Bool) (o k : ℕ) (ws : List ℕ) (set : ℕ) (b : List ℕ) (e : (i : ℕ) → part_of s i ≡ question_part told o k ws set b i) where
    questions_from : (left i j : ℕ) → i + j ≡ length b / 4 → j ≤ left → turns_from left s i ≡ questions_text told o k ws set j (drop (i * 4) b)
    unfolding turns_from questions_text
    questions_from zero i zero f h = refl
    questions_from zero i (suc j) f h = absurd (omega (arith, h))
    questions_from (suc left) i zero f h =
        one_turn left i (e i) ∙ rw (no_question told o k ws set b i (omega (arith, f)), le-ltb (i + 1) (length b / 4) (omega (arith, f)))
    questions_from (suc left) i (suc zero) f h =
        one_turn left i (e i) ∙ rw (question_next told o k ws set b i (omega (arith, f)), le-ltb (i + 1) (length b / 4) (omega (arith, f)))
    questions_from (suc left) i (suc (suc j)) f h =
        one_turn left i (e i)
        ∙ rw (
          question_next told o k ws set b i (omega (arith, f)),
          lt-ltb (i + 1) (length b / 4) (omega (arith, f)),
          questions_from left (suc i) (suc j) (omega (arith, f)) (omega (arith, h)),
          left_after told o k ws set b i,
        )

-- The text of a file is that of its turns, and 8,192 are enough for any.
pub by_turns : (s : List ℕ) → turns_from 8192 s 0 ≡ why_of s
by_turns s = at (file_seen s)
  where
    at : Seen s → turns_from 8192 s 0 ≡ why_of s
    at (one text e f) = one_turn s 8191 0 (e 0) ∙ append-nil text ∙ sym f
    at (each told o k ws set b h e f) = questions_from s told o k ws set b e 8192 0 (length b / 4) (omega arith) h ∙ sym f

-- So a turn after which another follows is none of the last.
pub goes_on_below : (s : List ℕ) (i : ℕ) → goes_on s i ≡ true → i + 1 < 8192
goes_on_below s i g = at (file_seen s)
  where
    at : Seen s → i + 1 < 8192
    at (one text e f) = let z : false ≡ true = sym (ap (λ (p : Part). p.going) (e i)) ∙ g in absurd (omega (arith, ltb-true 0 0 z))
    at (each told o k ws set b h e f) = omega (arith, ltb-true (i + 1) (length b / 4) (sym (ap (λ (p : Part). p.going) (e i)) ∙ g), h)
