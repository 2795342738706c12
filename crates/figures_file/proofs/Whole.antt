-- The figures by what is read of the bodies, and of a file by its contents.
use Prim.Native.Nat.{ℕ, ◌≤◌}
use mathlib.Core.Path.{◌≡◌, sym, ap, ◌∙◌}
use mathlib.Core.Logic.{inl, inr}
use mathlib.Core.List.{List, map}
use native.Mathlib.Omega.{arith}
use borrow.Author.Tests.{eq-eqb, ne_eqb}
use lib.ListN.{length, get_or, length-take, length-drop, get_or-map}
use Rattle.std.specs.Prelude.{Ok, Err}
use Rattle.netfile_numbers.specs.Bytes.{u32_at}
use Rattle.netfile_entry.specs.Entries.{entries, contents_size}
use Rattle.netfile.specs.declared.Malformed.{Malformed}
use Rattle.netfile.specs.Contents.{file_limit, contents_of, stretch, cut, bodies_of, Contents, malformed_at}
use Rattle.netfile.specs.Places.{words_start, SetStands}
use Rattle.netfile.proofs.Places.{says_place}
use Rattle.netfile.proofs.Stretches.{stretches}
use Rattle.ask_text.specs.Text.{words_of}
use Rattle.figures.specs.Figured.{refused, figured_net, figured_plain}
use Rattle.figures.specs.declared.Figured.{Figured}
use Rattle.figures_file.specs.Files.{figured_bodies, figured_file}

module _ (nodes words origins : List ℕ) {r : Figured} {o k : ℕ} {ws : List ℕ} (e : o ≡ u32_at nodes 0) (f : k ≡ u32_at nodes 4) (g : ws ≡ words_of words) where
  -- The figures where there is no set, and where there is one.
  pub plain_joined : length origins ≡ 0 → r ≡ figured_plain o k ws → r ≡ figured_bodies nodes words origins
  plain_joined h q = q ∙ rw (e, f, g, eq-eqb (length origins) 0 h)

  pub chosen_joined : (length origins ≡ 0 → ⊥) → {set : ℕ} → set ≡ u32_at origins 0 → r ≡ figured_net o k ws set → r ≡ figured_bodies nodes words origins
  chosen_joined h d q = q ∙ rw (e, f, g, d, ne_eqb (length origins) 0 h)

-- The figures of a file whose questions start at q and whose set starts at d, and of a malformed one.
pub file_bodies : (s : List ℕ) (q d : ℕ) → contents_of s ≡ Ok (q, d)
    → figured_file s ≡ figured_bodies (stretch s (contents_size (entries s)) (words_start (entries s) s)) (stretch s (words_start (entries s) s) q) (stretch s d (length s))
unfolding figured_file
file_bodies s q d e = (stretches s q d e).says _ _ _

pub file_malformed : (s : List ℕ) (place : ℕ) → contents_of s ≡ Err (malformed_at place) → figured_file s ≡ refused 9
unfolding figured_file
file_malformed s place e = says_place s place e _ _ _

-- Three of the four bodies that the reader hands back of a file: their figures are the file's.
pub record Handed (s nodes words origins : List ℕ) : Type 0 where
  pub figured_is : figured_bodies nodes words origins ≡ figured_file s
  pub nodes_room : 8 ≤ length nodes
  pub words_room : length words ≤ file_limit
  pub set_room : (length origins ≡ 0 → ⊥) → 4 ≤ length origins

module _ (s : List ℕ) {c : Contents} (e : c ≡ contents_of s) where
  pub handed : {A : Type 0} (now : A → List ℕ) (r : List A) (z : A) {p : ℕ × ℕ} → c ≡ Ok p → map now r ≡ bodies_of s
      → Handed s (now (get_or r 0 z)) (now (get_or r 1 z)) (now (get_or r 3 z))
  handed now r z {p} f g =
      let (q, d) = p in
      let t = stretches s q d (sym e ∙ f) in
      let h : map now r ≡ cut s (contents_size (entries s)) (words_start (entries s) s) (words_start (entries s) s) q q d d (length s) = g ∙ t.says _ _ _ in
      let body : (i : ℕ) → now (get_or r i z) ≡ get_or (cut s (contents_size (entries s)) (words_start (entries s) s) (words_start (entries s) s) q q d d (length s)) i (now z) =
      λ i. sym (get_or-map now r i z) ∙ ap (λ (l : List (List ℕ)). get_or l i (now z)) h in
      let n0 : now (get_or r 0 z) ≡ stretch s (contents_size (entries s)) (words_start (entries s) s) = body 0 in
      let n1 : now (get_or r 1 z) ≡ stretch s (words_start (entries s) s) q = body 1 in
      let n3 : now (get_or r 3 z) ≡ stretch s d (length s) = body 3 in
      record {
        figured_is = rw (n0, n1, n3) (sym (file_bodies s q d (sym e ∙ f)));
        nodes_room = rw n0 (simp (length-take, length-drop) (omega (arith, t.nodes, t.start, t.middle, t.end)));
        words_room = rw n1 (simp (length-take, length-drop) (omega (arith, t.limit, t.middle, t.end)));
        set_room = rw n3 (last t.set);
      }
    where
      last : SetStands s p.1 → (length (stretch s p.1 (length s)) ≡ 0 → ⊥) → 4 ≤ length (stretch s p.1 (length s))
      last (inl h) n = absurd (n (simp (length-take, length-drop) (omega (arith, h.1))))
      last (inr h) n = simp (length-take, length-drop) (omega (arith, h.1))

  -- What is given for a malformed one.
  pub refused_malformed : {m : Malformed} → c ≡ Err m → refused 9 ≡ figured_file s
  refused_malformed {m} f = sym (file_malformed s m.place (sym e ∙ f))
