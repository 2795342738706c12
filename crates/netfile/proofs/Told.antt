-- The entries that a file tells: the contents and the bodies are made of them, and each lies in the file.
use Prim.Native.Nat.{ℕ}
use mathlib.Core.Path.{◌≡◌, refl, sym, ap, ◌∙◌}
use mathlib.Core.List.{List, [], ◌∷◌}
use native.Mathlib.Omega.{arith}
use lib.ListN.{get_or}
use Rattle.std.specs.Prelude.{Result, Ok, Err}
use Rattle.netfile_entry.proofs.Opening.{InFile}
use Rattle.netfile.specs.declared.Malformed.{Malformed}
use Rattle.netfile.specs.Contents.{Contents, entries_of, told_entries, contents_of, stretch, no_bodies, bodies_of}
use Rattle.netfile.proofs.Places.{ReadsAs, wrong_at, all_three, all_four, fault_says, right_three, right_four, reads_as}

-- Entry n of those told.
abbrev pub entry : List (ℕ × ℕ) → ℕ → ℕ × ℕ
entry l n = get_or l n (0, 0)

-- The contents that they say, and the bodies that they cut.
abbrev pub contents_in : Result (List (ℕ × ℕ)) Malformed → Contents
contents_in (Ok l) = Ok ((entry l 2).0, (entry l 3).0)
contents_in (Err malformed) = Err malformed

abbrev body : List ℕ → ℕ × ℕ → List ℕ
body s p = stretch s p.0 p.1

abbrev pub bodies_in : List ℕ → Result (List (ℕ × ℕ)) Malformed → List (List ℕ)
bodies_in s (Ok l) = body s (entry l 0) ∷ body s (entry l 1) ∷ body s (entry l 2) ∷ body s (entry l 3) ∷ []
bodies_in s (Err malformed) = no_bodies

-- Each of four lies in the file.
abbrev Inside : List ℕ → ℕ × ℕ → Type 0
Inside s p = InFile s p.0 p.1

abbrev pub AllInside : List ℕ → Result (List (ℕ × ℕ)) Malformed → Type 0
AllInside s (Ok l) = Inside s (entry l 0) × Inside s (entry l 1) × Inside s (entry l 2) × Inside s (entry l 3)
AllInside s (Err malformed) = ◌≡◌ {A = ℕ} 0 0

module _ (s : List ℕ) where
  -- What is made of what a file says is said by the file.
  made : {A B : Type 0} (f : A → B) (wrong : ℕ → A) (right : ℕ → ℕ → ℕ → ℕ → ℕ → ℕ → ℕ → ℕ → A)
      → entries_of (λ place. f (wrong place)) (λ a e b i c g d h. f (right a e b i c g d h)) s ≡ f (entries_of wrong right s)
  made {A} {B} f wrong right = at (reads_as s)
    where
      at : ReadsAs s → entries_of (λ place. f (wrong place)) (λ a e b i c g d h. f (right a e b i c g d h)) s ≡ f (entries_of wrong right s)
      at (wrong_at p h) = let t = fault_says s p h in t _ _ _ ∙ sym (ap f (t _ _ _))
      at (all_three h) = let t = right_three s h in t _ _ _ ∙ sym (ap f (t _ _ _))
      at (all_four h) = let t = right_four s h in t _ _ _ ∙ sym (ap f (t _ _ _))

  pub contents_told : contents_of s ≡ contents_in (told_entries s)
  contents_told = made contents_in _ _

  pub bodies_told : bodies_of s ≡ bodies_in s (told_entries s)
  bodies_told = made (bodies_in s) _ _

  pub inside_told : AllInside s (told_entries s)
  inside_told = at (reads_as s)
    where
      at : ReadsAs s → AllInside s (told_entries s)
      at (wrong_at p h) = rw (fault_says s p h _ _ _) refl
      at (all_three h) = rw (right_three s h _ _ _) ((omega arith, omega arith), (omega arith, omega arith), (omega arith, omega arith), (omega arith, omega arith))
      at (all_four h) = rw (right_four s h _ _ _) ((omega arith, omega arith), (omega arith, omega arith), (omega arith, omega arith), (omega arith, omega arith))
