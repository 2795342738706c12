-- The part that a turn prints, in the terms of the code.
use Prim.Native.Nat.{ℕ, ◌+◌, ◌*◌, ◌/◌, ◌≤◌, ◌<◌}
use mathlib.Core.Path.{◌≡◌, refl, sym, ap, ◌∙◌}
use mathlib.Core.Bool.{Bool, true, false}
use mathlib.Core.List.{List, map}
use borrow.Author.Tests.{eq-eqb, ne_eqb}
use lib.Dec.{ltb}
use lib.ListN.{length, get_or, get_or-map}
use Rattle.std.specs.Prelude.{Ok, Err}
use Rattle.net.specs.Table.{Reply, refusal_reply, check_net, check_plain}
use Rattle.net.specs.declared.Refusal.{Refusal}
use Rattle.net.specs.Table.{Checked}
use Rattle.netfile_numbers.specs.Bytes.{u16_at, u32_at}
use Rattle.netfile_entry.specs.Entries.{entries, contents_size}
use Rattle.netfile.specs.declared.Malformed.{Malformed}
use Rattle.netfile.specs.Contents.{contents_of, cut, bodies_of, Contents}
use Rattle.netfile.specs.Places.{words_start}
use Rattle.netfile.proofs.Places.{says_place}
use Rattle.netfile.proofs.Stretches.{stretches}
use Rattle.text_field.specs.Decimal.{decimal}
use Rattle.text_field.specs.Writing.{Wrote}
use Rattle.text_field.proofs.Writing.{wrote_as}
use Rattle.ask_answer.specs.Ending.{field, last_field}
use Rattle.ask_line.specs.Line.{file_word, net_word}
use Rattle.ask_net.proofs.NetText.{net_report}
use Rattle.ask_text.specs.Text.{words_of}
use Rattle.why_question.specs.Because.{question_text}
use Rattle.why_text.specs.Turns.{Part, last_part, question_at, net_part, bodies_part, part_of, Turned}
use Rattle.why_text.specs.declared.Turn.{Turn}
use Rattle.why_text.proofs.Turns.{question_there, no_question}

-- A part said in another way.
pub turned_as : {p q : Part} {l l' : List ℕ} {t : Turn} → p ≡ q → Turned p l l' t → Turned q l l' t
turned_as e w = rw (← e) w

-- Two turns of one part print the same and tell the same.
pub turned_unique : (p : Part) (l l' l'' : List ℕ) (t u : Turn) → Turned p l l' t → Turned p l l'' u → (t ≡ u) × (l' ≡ l'')
turned_unique p l l' l'' t u a b = (
  (λ i. record {
    size = (a.text.size ∙ sym b.text.size) i;
    going = (a.going ∙ sym b.going) i;
  }),
  a.text.list ∙ sym b.text.list,
)

-- ── a question ──
module _ (told : Bool) (o k : ℕ) (ws : List ℕ) (set : ℕ) (b : List ℕ) (i : ℕ) where
  pub nothing_written : (l : List ℕ) → length b / 4 ≤ i → Wrote (question_at told o k ws set b i) l l 0
  nothing_written l h = wrote_as (sym (no_question told o k ws set b i h)) (record { list = refl; size = refl })

  pub question_is : {x y : ℕ} → i < length b / 4 → x ≡ u16_at b (i * 4) → y ≡ u16_at b (i * 4 + 2) → question_text told o k ws set x y ≡ question_at told o k ws set b i
  question_is h e f = rw (e, f) (sym (question_there told o k ws set b i h))

  -- ── a net, by what its check gave ──
  module _ {c : Checked} {l l' : List ℕ} {size : ℕ} where
    pub net_question : {n : ℕ} → c ≡ Ok n → Wrote (question_at told o k ws set b i) l l' size
        → Turned (net_part told o k ws set b i c) l l' (record { size = size; going = ltb (i + 1) (length b / 4) })
    unfolding net_part
    net_question e w = rw e (record { text = w; going = refl })

    pub net_refused : {r : Refusal} {given : Reply} → c ≡ Err r → given ≡ refusal_reply r
        → Wrote (field net_word (field (decimal given.number) (field (decimal given.first) (last_field (decimal given.second))))) l l' size
        → Turned (net_part told o k ws set b i c) l l' (record { size = size; going = false })
    unfolding net_part
    net_refused {r} e f w = rw e (record { text = wrote_as (net_report o k ws set b refl f) w; going = refl })

-- ── the bodies of a file ──
module _ (nodes words questions origins : List ℕ) (i : ℕ) {o k : ℕ} {ws : List ℕ} {c : Checked} (e : o ≡ u32_at nodes 0) (f : k ≡ u32_at nodes 4) (g : ws ≡ words_of words) where
  -- The part where there is no set, and where there is one.
  pub plain_joined : length origins ≡ 0 → c ≡ check_plain o k ws → net_part false o k ws 1 questions i c ≡ bodies_part nodes words questions origins i
  plain_joined h d = rw (d, e, f, g, eq-eqb (length origins) 0 h)

  pub chosen_joined : (length origins ≡ 0 → ⊥) → {set : ℕ} → set ≡ u32_at origins 0 → c ≡ check_net o k ws set → net_part true o k ws set questions i c ≡ bodies_part nodes words questions origins i
  chosen_joined h z d = rw (d, e, f, g, z, ne_eqb (length origins) 0 h)

-- ── a file ──
module _ (s : List ℕ) {c : Contents} (e : c ≡ contents_of s) (i : ℕ) where
  -- The line of a malformed one.
  pub malformed_part : {m : Malformed} → c ≡ Err m → last_part (field file_word (field (decimal 9) (last_field (decimal m.place)))) ≡ part_of s i
  unfolding part_of
  malformed_part {m} f = sym (says_place s m.place (sym e ∙ f) _ _ _)

  -- The part of the four bodies that the reader hands back is the file's.
  pub handed_part : {A : Type 0} (now : A → List ℕ) (r : List A) (z : A) {p : ℕ × ℕ} → c ≡ Ok p → map now r ≡ bodies_of s
      → bodies_part (now (get_or r 0 z)) (now (get_or r 1 z)) (now (get_or r 2 z)) (now (get_or r 3 z)) i ≡ part_of s i
  unfolding part_of
  handed_part now r z {p} f g =
      let (q, d) = p in
      let t = stretches s q d (sym e ∙ f) in
      let body : (j : ℕ) → now (get_or r j z) ≡ get_or (cut s (contents_size (entries s)) (words_start (entries s) s) (words_start (entries s) s) q q d d (length s)) j (now z) =
      λ j. sym (get_or-map now r j z) ∙ ap (λ (l : List (List ℕ)). get_or l j (now z)) (g ∙ t.says _ _ _) in
      rw (body 0, body 1, body 2, body 3) (sym (t.says _ _ _))
