-- Numbers of four bytes by their halves, and a body by one number at a time.
use Prim.Native.Nat.{ℕ, zero, suc, ◌+◌, ◌-◌, ◌*◌, ◌/◌, ◌≤◌, ◌<◌}
use mathlib.Core.Path.{◌≡◌, refl, sym, ap, ◌∙◌}
use mathlib.Core.List.{List, [], ◌∷◌, ◌++◌}
use native.Mathlib.Omega.{arith}
use native.Mathlib.Numerals.{add-one}
use native.Mathlib.Nat.{suc-mul, add_assoc}
use lib.ListN.{length, get_or, set, drop, get_or-append, length-append, length-drop}
use lib.Seq.{get_or-drop, drop-drop, drop-append_seam}
use Rattle.theory_laws.specs.Over.{over}
use Rattle.theory_laws.proofs.Over.{over_one}
use Rattle.netfile_numbers.specs.Bytes.{u16_at, u32_at, u32s}

-- Four bytes are two numbers of two bytes.
pub two_halves : (b : List ℕ) (i low high : ℕ) → low ≡ u16_at b i → high ≡ u16_at b (i + 2) → low + high * 65536 ≡ u32_at b i
two_halves b i low high e f =
    let g : get_or b (i + 2 + 1) 0 ≡ get_or b (i + 3) 0 = ap (λ (j : ℕ). get_or b j 0) (omega arith) in
    omega arith

-- So many bytes further on.
pub further : (b : List ℕ) (i j : ℕ) → u32_at (drop i b) j ≡ u32_at b (i + j)
further b i j = simp (get_or-drop, ← add_assoc)

-- There are as many words as asked for.
pub length_words : (j : ℕ) (b : List ℕ) → length (u32s j b) ≡ j
unfolding u32s
length_words zero b = refl
length_words (suc j) b = ap suc (length_words j (drop 4 b))

-- One word more.
pub words_more : (j : ℕ) (b : List ℕ) → u32s (suc j) b ≡ u32s j b ++ u32_at b (j * 4) ∷ []
unfolding u32s
words_more zero b = refl
words_more (suc j) b =
    let e : 4 + j * 4 ≡ suc j * 4 = omega (arith, suc-mul j 4) in
    ap (λ (l : List ℕ). u32_at b 0 ∷ l) (words_more j (drop 4 b) ∙ ap (λ (w : ℕ). u32s j (drop 4 b) ++ w ∷ []) (further b 4 (j * 4) ∙ ap (u32_at b) e))

-- All words stored: the front of l, and its rest untouched.
pub words_all : (b l xs : List ℕ) (i n : ℕ) → i ≡ n → xs ≡ over (u32s i b) l → xs ≡ u32s n b ++ drop n l
words_all b l xs i n e f = f ∙ rw (length_words, e)

-- The first four bytes of what stands from i on are the number there.
first_number : (b x r : List ℕ) (i : ℕ) → drop i b ≡ x ++ r → length x ≡ 4 → u32_at x 0 ≡ u32_at b i
first_number b x r i e f =
    let at : (j : ℕ) → j < 4 → get_or (x ++ r) j 0 ≡ get_or x j 0 = λ j h. get_or-append x r 0 j (omega arith) in
    let same : u32_at x 0 ≡ u32_at (x ++ r) 0 = omega (arith, at 0 (omega arith), at 1 (omega arith), at 2 (omega arith), at 3 (omega arith)) in
    same ∙ ap (λ (l : List ℕ). u32_at l 0) (sym e) ∙ further b i 0 ∙ ap (u32_at b) (omega arith)

-- Four bytes x of a body taken: what stands from the next number on is left,
module _ (b x more : List ℕ) (i : ℕ) (taken : drop (i * 4) b ≡ x ++ more) (four : length x ≡ 4) where
  pub number_taken : (i * 4 + 4 ≤ length b) × (more ≡ drop ((i + 1) * 4) b)
  number_taken =
      let inside : length b - i * 4 ≡ 4 + length more = sym (length-drop (i * 4) b) ∙ ap length taken ∙ simp (length-append, four) in
      let next : more ≡ drop (i * 4 + 4) b = rw (← drop-drop 4 (i * 4) b, taken, ← four) (sym (drop-append_seam x more)) in
      (omega arith, next ∙ ap (λ (j : ℕ). drop j b) (omega arith))

  -- and their number stored: one word more.
  pub words_stored : (l xs : List ℕ) (w : ℕ) → i < length l → xs ≡ over (u32s i b) l → w ≡ u32_at x 0 → set xs i w ≡ over (u32s (i + 1) b) l
  words_stored l xs w h e f =
      let g : w ≡ u32_at b (i * 4) = f ∙ first_number b x more (i * 4) taken four in
      rw (add-one, words_more, e, g) (over_one (u32s i b) l (u32_at b (i * 4)) i (length_words i b) h)

-- Where fewer than four bytes are left, all whole numbers are read.
pub all_read : (b rest : List ℕ) (i : ℕ) → i * 4 ≤ length b → rest ≡ drop (i * 4) b → length rest < 4 → i ≡ length b / 4
all_read b rest i h e k = let n : length rest ≡ length b - i * 4 = ap length e ∙ length-drop (i * 4) b in omega arith
