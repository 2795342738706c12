-- Where a 9 is given and where not, as the entries of the contents read.
use Prim.Native.Nat.{ℕ, zero, suc, ◌≤◌, ◌<◌}
use mathlib.Core.Path.{◌≡◌, refl, sym, ap, subst, ◌∙◌}
use mathlib.Core.Logic.{◌↔◌, ◌⊎◌, inl, inr}
use mathlib.Core.List.{List}
use native.Mathlib.Omega.{arith}
use lib.ListN.{length}
use Rattle.std.specs.Prelude.{Ok, Err}
use Rattle.netfile_numbers.specs.Bytes.{u32_at}
use Rattle.netfile.specs.Contents.{malformed_at, Contents, contents_reply, contents_of}
use Rattle.netfile.specs.Places.{Three, Four, Missized, words_start, questions_start, set_start, FirstRight, SecondRight, ThirdRight, FourthRight, ThreeOrFour, Fault, RightThree, RightFour, Right, Says}
use Rattle.netfile.proofs.Reading.{missized, first_shut, second_shut, third_shut, fourth_shut, all_open}
use Rattle.netfile.proofs.Tests.{Read, either, open_entry, shut_entry, size, read_three, read_four, three_or_four, first, second, third, fourth}

-- ── what is wrong or right, and what is said ──

module _ (s : List ℕ) where
  module _ {count : ℕ} (r : Read count s) where
    wrong_first : (FirstRight count s → ⊥) → Says s (λ A wrong right. wrong 0)
    wrong_first p = first_shut s r.sized count r.counted _ refl (shut_entry count s 0 _ (first s r) p)

    module _ (p : FirstRight count s) where
      wrong_second : (SecondRight count s → ⊥) → Says s (λ A wrong right. wrong 1)
      wrong_second q = second_shut s r.sized count r.counted _ _ _ refl (open_entry count s 0 _ (first s r) p) _ refl (shut_entry count s 1 _ (second s r) q)

      wrong_third : SecondRight count s → (ThirdRight count s → ⊥) → Says s (λ A wrong right. wrong 2)
      wrong_third q t =
          third_shut s r.sized count r.counted _ _ _ refl (open_entry count s 0 _ (first s r) p) _ _ _ refl (open_entry count s 1 _ (second s r) q)
          _ refl (shut_entry count s 2 _ (third s r) t)

  wrong_fourth : Four s → FirstRight 4 s → SecondRight 4 s → ThirdRight 4 s → (FourthRight s → ⊥) → Says s (λ A wrong right. wrong 4)
  wrong_fourth z p q t u =
      let r = read_four s z in
      fourth_shut s r.sized 4 r.counted _ _ _ refl (open_entry 4 s 0 _ (first s r) p) _ _ _ refl (open_entry 4 s 1 _ (second s r) q)
      _ _ _ refl (open_entry 4 s 2 _ (third s r) t) _ refl (shut_entry 4 s 3 _ (fourth s) u)

  pub wrong_size : Missized s → Says s (λ A wrong right. wrong 3)
  wrong_size h = missized s ((size s).1 h)

  -- Where something is wrong its place is said, whatever is asked.
  pub fault_says : (place : ℕ) → Fault s place → Says s (λ A wrong right. wrong place)
  fault_says zero (inl h) = wrong_first (read_three s h.0) h.1
  fault_says zero (inr h) = wrong_first (read_four s h.0) h.1
  fault_says (suc zero) (inl h) = wrong_second (read_three s h.0) h.1.0 h.1.1
  fault_says (suc zero) (inr h) = wrong_second (read_four s h.0) h.1.0 h.1.1
  fault_says (suc (suc zero)) (inl h) = wrong_third (read_three s h.0) h.1.0 h.1.1.0 h.1.1.1
  fault_says (suc (suc zero)) (inr h) = wrong_third (read_four s h.0) h.1.0 h.1.1.0 h.1.1.1
  fault_says (suc (suc (suc zero))) h = wrong_size h
  fault_says (suc (suc (suc (suc zero)))) h = wrong_fourth h.0 h.1.0 h.1.1.0 h.1.1.1.0 h.1.1.1.1
  fault_says (suc (suc (suc (suc (suc place))))) h = absurd h

  -- Where nothing is, the bodies stand one after another up to the end of the file.
  pub right_three : RightThree s
      → Says s (λ A wrong right. right 24 (words_start 3 s) (words_start 3 s) (questions_start 3 s) (questions_start 3 s) (length s) (length s) (length s))
  right_three (z, (p, (q, t))) A wrong right =
      let r = read_three s z in
      rw (← t.1.1.1 refl)
      (all_open s r.sized 3 r.counted _ _ _ refl (open_entry 3 s 0 _ (first s r) p) _ _ _ refl (open_entry 3 s 1 _ (second s r) q)
      _ _ _ refl (open_entry 3 s 2 _ (third s r) t) _ _ _ refl refl A wrong right)

  pub right_four : RightFour s
      → Says s (λ A wrong right. right 32 (words_start 4 s) (words_start 4 s) (questions_start 4 s) (questions_start 4 s) (set_start 4 s) (set_start 4 s) (length s))
  right_four (z, (p, (q, (t, u)))) A wrong right =
      let r = read_four s z in
      rw (← u.1.1)
      (all_open s r.sized 4 r.counted _ _ _ refl (open_entry 4 s 0 _ (first s r) p) _ _ _ refl (open_entry 4 s 1 _ (second s r) q)
      _ _ _ refl (open_entry 4 s 2 _ (third s r) t) _ _ _ refl (open_entry 4 s 3 _ (fourth s) u) A wrong right)

-- The ways in which a file reads: something is wrong at a place, or nothing is.
pub data ReadsAs (s : List ℕ) : Type 0 where
  wrong_at : (place : ℕ) → Fault s place → ReadsAs s
  all_three : RightThree s → ReadsAs s
  all_four : RightFour s → ReadsAs s

module _ (s : List ℕ) where
  -- The first three entries decide, unless they are right.
  by_entries : {count : ℕ} → Read count s → ((P : ℕ → Type 0) → P count → ThreeOrFour s P) → (FirstRight count s × (SecondRight count s × ThirdRight count s) → ReadsAs s) → ReadsAs s
  by_entries {count} r into next = at (either _ (first s r)) (either _ (second s r)) (either _ (third s r))
    where
      at : FirstRight count s ⊎ (FirstRight count s → ⊥) → SecondRight count s ⊎ (SecondRight count s → ⊥) → ThirdRight count s ⊎ (ThirdRight count s → ⊥) → ReadsAs s
      at (inr p) q t = wrong_at 0 (into (λ n. FirstRight n s → ⊥) p)
      at (inl p) (inr q) t = wrong_at 1 (into (λ n. FirstRight n s × (SecondRight n s → ⊥)) (p, q))
      at (inl p) (inl q) (inr t) = wrong_at 2 (into (λ n. FirstRight n s × (SecondRight n s × (ThirdRight n s → ⊥))) (p, (q, t)))
      at (inl p) (inl q) (inl t) = next (p, (q, t))

  -- Every file reads in one of these ways.
  pub reads_as : ReadsAs s
  reads_as = at (either _ (size s))
    where
      last : (z : Four s) → FirstRight 4 s × (SecondRight 4 s × ThirdRight 4 s) → FourthRight s ⊎ (FourthRight s → ⊥) → ReadsAs s
      last z (p, (q, t)) (inl u) = all_four (z, (p, (q, (t, u))))
      last z (p, (q, t)) (inr u) = wrong_at 4 (z, (p, (q, (t, u))))

      counted : Three s ⊎ Four s → ReadsAs s
      counted (inl z) = by_entries (read_three s z) (λ P h. inl (z, h)) (λ h. all_three (z, h))
      counted (inr z) = by_entries (read_four s z) (λ P h. inr (z, h)) (λ h. last z h (either _ (fourth s)))

      at : Missized s ⊎ (Missized s → ⊥) → ReadsAs s
      at (inl h) = wrong_at 3 h
      at (inr h) = counted (three_or_four s h)

-- ── each place exactly when ──

-- A place is no body.
no_body : {A : Type 0} {place q d : ℕ} {r : Contents} → r ≡ Err (malformed_at place) → r ≡ Ok (q, d) → A
no_body e f = let z : ◌≡◌ {A = ℕ} 9 0 = ap (λ (c : Contents). (contents_reply c).number) (sym e ∙ f) in absurd (omega arith)

-- One answer of the reader has one value.
module _ {q d q' d' : ℕ} (e : ◌≡◌ {A = Contents} (Ok (q, d)) (Ok (q', d'))) where
  questions_same : q ≡ q'
  questions_same = ap (λ (c : Contents). (contents_reply c).first) e

  set_same : d ≡ d'
  set_same = ap (λ (c : Contents). (contents_reply c).second) e

place_same : {p q : ℕ} → ◌≡◌ {A = Contents} (Err (malformed_at p)) (Err (malformed_at q)) → p ≡ q
place_same e = ap (λ (c : Contents). (contents_reply c).first) e

module _ (s : List ℕ) where
  -- A place is given exactly where something is wrong there.
  pub places : (place : ℕ) → contents_of s ≡ Err (malformed_at place) ↔ Fault s place
  places place = (λ e. at e (reads_as s), λ h. fault_says s place h _ _ _)
    where
      at : contents_of s ≡ Err (malformed_at place) → ReadsAs s → Fault s place
      at e (wrong_at p h) = subst (Fault s) (place_same (sym (fault_says s p h _ _ _) ∙ e)) h
      at e (all_three h) = no_body e (right_three s h _ _ _)
      at e (all_four h) = no_body e (right_four s h _ _ _)

  -- Place 3: the size.
  pub place_3 : contents_of s ≡ Err (malformed_at 3) ↔ Missized s
  place_3 = places 3

  -- Place 0: the first entry.
  pub place_0 : contents_of s ≡ Err (malformed_at 0) ↔ ThreeOrFour s (λ count. FirstRight count s → ⊥)
  place_0 = places 0

  -- Place 1: the second entry, the first being right.
  pub place_1 : contents_of s ≡ Err (malformed_at 1) ↔ ThreeOrFour s (λ count. FirstRight count s × (SecondRight count s → ⊥))
  place_1 = places 1

  -- Place 2: the third entry, those before it being right.
  pub place_2 : contents_of s ≡ Err (malformed_at 2) ↔ ThreeOrFour s (λ count. FirstRight count s × (SecondRight count s × (ThirdRight count s → ⊥)))
  place_2 = places 2

  -- Place 4: the fourth entry, the others being right.
  pub place_4 : contents_of s ≡ Err (malformed_at 4) ↔ Four s × (FirstRight 4 s × (SecondRight 4 s × (ThirdRight 4 s × (FourthRight s → ⊥))))
  place_4 = places 4

  -- No other place is given.
  pub no_other_place : (place : ℕ) → contents_of s ≡ Err (malformed_at place) → place < 5
  no_other_place place e = at place ((places place).0 e)
    where
      at : (p : ℕ) → Fault s p → p < 5
      at zero h = omega arith
      at (suc zero) h = omega arith
      at (suc (suc zero)) h = omega arith
      at (suc (suc (suc zero))) h = omega arith
      at (suc (suc (suc (suc zero)))) h = omega arith
      at (suc (suc (suc (suc (suc p))))) h = absurd h

  -- No place: all entries are right, and questions and set start where the bodies before them end.
  pub no_place : (q d : ℕ) → contents_of s ≡ Ok (q, d) ↔ Right s q d
  no_place q d = (λ e. at e (reads_as s), back)
    where
      at : contents_of s ≡ Ok (q, d) → ReadsAs s → Right s q d
      at e (wrong_at p h) = no_body (fault_says s p h _ _ _) e
      at e (all_three h) = let f = sym e ∙ right_three s h _ _ _ in inl (h, (questions_same f, set_same f))
      at e (all_four h) = let f = sym e ∙ right_four s h _ _ _ in inr (h, (questions_same f, set_same f))

      back : Right s q d → contents_of s ≡ Ok (q, d)
      back (inl (h, (f, g))) = rw (f, g) (right_three s h _ _ _)
      back (inr (h, (f, g))) = rw (f, g) (right_four s h _ _ _)

  -- A malformed file says its place, whatever is asked of it.
  pub says_place : (place : ℕ) → contents_of s ≡ Err (malformed_at place) → Says s (λ A wrong right. wrong place)
  says_place place e = fault_says s place ((places place).0 e)

  -- ── four entries in a small file ──

  -- Below 32 bytes the contents do not fit,
  pub four_below_32 : u32_at s 0 ≡ 32 → length s < 32 → contents_of s ≡ Err (malformed_at 3)
  four_below_32 e h = wrong_size s (inl (inr (e, h))) _ _ _

  -- and from 32 to 39 the first body does not.
  pub four_below_40 : u32_at s 0 ≡ 32 → 32 ≤ length s → length s < 40 → contents_of s ≡ Err (malformed_at 0)
  four_below_40 e l h = (places 0).1 (inr ((e, (l, omega arith)), λ p. omega (arith, p.1)))
