-- The text of the bodies by what is read of them, and of a file by its contents; and that all of it fits.
use Prim.Native.Nat.{ℕ, ◌+◌, ◌*◌, ◌/◌, ◌≤◌}
use mathlib.Core.Path.{◌≡◌, sym, ap, ◌∙◌}
use mathlib.Core.Logic.{inl, inr}
use mathlib.Core.List.{List, ◌++◌, map}
use native.Mathlib.Omega.{arith}
use lib.ListN.{length, get_or, take, drop, length-append, length-take, length-drop, get_or-map}
use borrow.Author.Tests.{eq-eqb, ne_eqb}
use lib.Seq.{take_at}
use Rattle.std.specs.Prelude.{Ok, Err}
use Rattle.netfile_numbers.specs.Bytes.{u32_at, u32s}
use Rattle.netfile_entry.specs.Entries.{entries, contents_size}
use Rattle.netfile.specs.declared.Malformed.{Malformed}
use Rattle.netfile.specs.Contents.{file_limit, contents_of, stretch, cut, bodies_of, Contents}
use Rattle.netfile.specs.Places.{words_start, SetStands}
use Rattle.netfile_numbers.proofs.Reading.{length_words}
use Rattle.netfile.proofs.Places.{says_place}
use Rattle.netfile.proofs.Stretches.{stretches}
use Rattle.text_field.specs.Decimal.{decimal}
use Rattle.ask_answer.specs.Ending.{field, last_field}
use Rattle.ask_line.specs.Line.{file_word}
use Rattle.ask_net.specs.Lines.{chosen_text, plain_text}
use Rattle.ask_text.specs.Text.{words_of, bodies_text, text_of}

-- The words are what was read into the front of the place for them.
pub first_words : (b l xs : List ℕ) (n : ℕ) → xs ≡ u32s n b ++ drop n l → take n xs ≡ u32s n b
first_words b l xs n e = ap (take n) e ∙ take_at (u32s n b) (drop n l) n (length_words n b)

pub words_read : (b l xs : List ℕ) (n : ℕ) → xs ≡ u32s n b ++ drop n l → n ≡ length (take n xs)
words_read b l xs n e = sym (ap length (first_words b l xs n e) ∙ length_words n b)

module _ (nodes words questions origins : List ℕ) {o k : ℕ} {ws : List ℕ} (e : o ≡ u32_at nodes 0) (f : k ≡ u32_at nodes 4) (g : ws ≡ words_of words) where
  -- The text where there is no set, and where there is one.
  pub plain_joined : length origins ≡ 0 → plain_text o k ws questions ≡ bodies_text nodes words questions origins
  plain_joined h = rw (e, f, g, eq-eqb (length origins) 0 h)

  pub chosen_joined : (length origins ≡ 0 → ⊥) → {set : ℕ} → set ≡ u32_at origins 0 → chosen_text o k ws set questions ≡ bodies_text nodes words questions origins
  chosen_joined h d = rw (e, f, g, d, ne_eqb (length origins) 0 h)

-- ── a file ──

-- The four bodies that the reader hands back of a file: their text is the file's, and there is room for it.
pub record Handed (s nodes words questions origins : List ℕ) : Type 0 where
  pub text_is : bodies_text nodes words questions origins ≡ text_of s
  pub nodes_room : 8 ≤ length nodes
  pub words_room : length words ≤ file_limit
  pub set_room : (length origins ≡ 0 → ⊥) → 4 ≤ length origins
  pub questions_room : length questions / 4 * 31 ≤ 262144

module _ (s : List ℕ) {c : Contents} (e : c ≡ contents_of s) where
  -- Four bodies of a file that is not malformed: their text is the file's, and it fits.
  pub handed : {A : Type 0} (now : A → List ℕ) (r : List A) (z : A) {p : ℕ × ℕ} → c ≡ Ok p → map now r ≡ bodies_of s
      → Handed s (now (get_or r 0 z)) (now (get_or r 1 z)) (now (get_or r 2 z)) (now (get_or r 3 z))
  unfolding text_of
  handed now r z {p} f g =
      let (q, d) = p in
      let t = stretches s q d (sym e ∙ f) in
      let h : map now r ≡ cut s (contents_size (entries s)) (words_start (entries s) s) (words_start (entries s) s) q q d d (length s) = g ∙ t.says _ _ _ in
      let body : (i : ℕ) → now (get_or r i z) ≡ get_or (cut s (contents_size (entries s)) (words_start (entries s) s) (words_start (entries s) s) q q d d (length s)) i (now z) =
      λ i. sym (get_or-map now r i z) ∙ ap (λ (l : List (List ℕ)). get_or l i (now z)) h in
      let n0 : now (get_or r 0 z) ≡ stretch s (contents_size (entries s)) (words_start (entries s) s) = body 0 in
      let n1 : now (get_or r 1 z) ≡ stretch s (words_start (entries s) s) q = body 1 in
      let n2 : now (get_or r 2 z) ≡ stretch s q d = body 2 in
      let n3 : now (get_or r 3 z) ≡ stretch s d (length s) = body 3 in
      record {
        text_is = rw (n0, n1, n2, n3) (sym (t.says _ _ _));
        nodes_room = rw n0 (simp (length-take, length-drop) (omega (arith, t.nodes, t.start, t.middle, t.end)));
        words_room = rw n1 (simp (length-take, length-drop) (omega (arith, t.limit, t.middle, t.end)));
        set_room = rw n3 (last t.set);
        questions_room = rw n2 (simp (length-take, length-drop) (omega (arith, t.limit, t.end)));
      }
    where
      last : SetStands s p.1 → (length (stretch s p.1 (length s)) ≡ 0 → ⊥) → 4 ≤ length (stretch s p.1 (length s))
      last (inl h) n = absurd (n (simp (length-take, length-drop) (omega (arith, h.1))))
      last (inr h) n = simp (length-take, length-drop) (omega (arith, h.1))

  -- The line of a malformed one.
  pub file_report_lem : {m : Malformed} → c ≡ Err m → field file_word (field (decimal 9) (last_field (decimal m.place))) ≡ text_of s
  unfolding text_of
  file_report_lem {m} f = sym (says_place s m.place (sym e ∙ f) _ _ _)

-- What is printed stands in front of the text.
pub printed : (s rest : List ℕ) {left : List ℕ} {r : ℕ} → left ≡ text_of s ++ rest → r ≡ length (text_of s) → (r ≤ length left) × (r ≡ length (take r left))
printed s rest {left} e f =
    let g : length left ≡ length (text_of s) + length rest = ap length e ∙ length-append (text_of s) rest in
    (omega arith, simp length-take (omega arith))
