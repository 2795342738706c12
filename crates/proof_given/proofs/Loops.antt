-- The loops over the net's words and over the added ones: they find the word, go on, or come to the end.
use Prim.Native.Nat.{ℕ, zero, suc, ◌+◌, ◌≤◌, ◌<◌}
use mathlib.Core.Path.{◌≡◌, refl, sym, ◌∙◌}
use mathlib.Core.Bool.{Bool, true, false, cond, ◌||◌}
use mathlib.Core.List.{List, [], ◌∷◌}
use native.Mathlib.Omega.{arith}
use native.Mathlib.Numerals.{add-one}
use lib.Dec.{eqb}
use lib.ListN.{length, get_or, take, drop}
use borrow.Author.Tests.{eq-eqb, ne_eqb}
use Rattle.std.specs.List.{list_any}
use Rattle.std.proofs.lemmas.List.Folds.{list_any_more}
use Rattle.std.proofs.Math.Bool.{or_comm}
use Rattle.theory.specs.Words.{tail_of}
use Rattle.theory.specs.Origins.{plain_of, chooses, chosen}
use Rattle.theory.proofs.origins.Folds.{gather, gathering_go, gathering_end}
use Rattle.proof_form.specs.Checker.{stands_in, about, given}
use Rattle.proof_given.specs.Held.{held}

-- ── the chosen words ──
stands_gather : (w : ℕ) (ws : List ℕ) → stands_in w ws ≡ gather (λ v r. eqb v w || r) false ws
unfolding stands_in gather
stands_gather w [] = refl
stands_gather w (v ∷ ws) = rw (stands_gather w ws)

-- Whether w is one of the chosen words from place i on.
abbrev pub chosen_from : ℕ → ℕ → List ℕ → ℕ → Bool
chosen_from set w ws i = stands_in w (chosen set (drop i ws))

module _ (set w : ℕ) (ws : List ℕ) (i : ℕ) where
  listed_go : i < length ws
      → chosen_from set w ws i ≡ cond (chooses set (get_or ws i 0)) (eqb (plain_of (get_or ws i 0)) w || chosen_from set w ws (i + 1)) (chosen_from set w ws (i + 1))
  listed_go h = gathering_go set (λ v r. eqb v w || r) false (stands_in w) (stands_gather w) ws i h

  module _ (h : i < length ws) {q : Bool} (eq : q ≡ chooses set (get_or ws i 0)) where
    pub listed_here : {p : ℕ} → q ≡ true → p ≡ plain_of (get_or ws i 0) → p ≡ w → chosen_from set w ws i ≡ true
    listed_here {p} e ep f = listed_go h ∙ rw (sym eq ∙ e, eq-eqb (plain_of (get_or ws i 0)) w (sym ep ∙ f))

    pub listed_other : {p : ℕ} → q ≡ true → p ≡ plain_of (get_or ws i 0) → (p ≡ w → ⊥) → chosen_from set w ws i ≡ chosen_from set w ws (i + 1)
    listed_other {p} e ep f = listed_go h ∙ rw (sym eq ∙ e, ne_eqb (plain_of (get_or ws i 0)) w (λ g. f (ep ∙ g)))

    pub listed_passed : q ≡ false → chosen_from set w ws i ≡ chosen_from set w ws (i + 1)
    listed_passed e = listed_go h ∙ rw (sym eq ∙ e)

  pub listed_end : length ws ≤ i → chosen_from set w ws i ≡ false
  listed_end h = gathering_end set (λ v r. eqb v w || r) false (stands_in w) (stands_gather w) ws i h

-- ── the added words ──
-- A test of some of the first c words, from the last on, is a test of some of them from the first on.
module _ (p : ℕ → Bool) (f : List ℕ → Bool) (none : f [] ≡ false) (more : (v : ℕ) (l : List ℕ) → f (v ∷ l) ≡ (p v || f l)) where
  held_any : (l : List ℕ) (c : ℕ) → c ≤ length l → f (held l c) ≡ list_any p (take c l)
  unfolding held
  held_any l zero h = none
  held_any l (suc c) h = more (get_or l c 0) (held l c) ∙ rw (held_any l c (omega arith), ← add-one c) (or_comm (p (get_or l c 0)) (list_any p (take c l)) ∙ sym (list_any_more p l c 0 h))

pub added_any : (l : List ℕ) (w c : ℕ) → c ≤ length l → stands_in w (held l c) ≡ list_any (λ v. eqb v w) (take c l)
unfolding stands_in
added_any l w c h = held_any (λ v. eqb v w) (stands_in w) refl (λ v l. refl) l c h

pub about_any : (l : List ℕ) (n c : ℕ) → c ≤ length l → about n (held l c) ≡ list_any (λ v. eqb (tail_of v) n) (take c l)
unfolding about
about_any l n c h = held_any (λ v. eqb (tail_of v) n) (about n) refl (λ v l. refl) l c h

-- The last of the first c words stands in front of the others: it is the word, or the word is sought among those.
module _ (l : List ℕ) (w last c : ℕ) (h : c ≡ last + 1) where
  added_last : stands_in w (held l c) ≡ (eqb (get_or l last 0) w || stands_in w (held l last))
  unfolding held stands_in
  added_last = rw (h, add-one last) refl

  pub added_here : get_or l last 0 ≡ w → eqb (get_or l last 0) w ≡ stands_in w (held l c)
  added_here e = rw added_last (rw (eq-eqb (get_or l last 0) w e) refl)

  pub added_before : (get_or l last 0 ≡ w → ⊥) → stands_in w (held l last) ≡ stands_in w (held l c)
  added_before f = rw added_last (rw (ne_eqb (get_or l last 0) w f) refl)

pub added_none : (l : List ℕ) (w c : ℕ) → c ≡ 0 → false ≡ stands_in w (held l c)
unfolding held stands_in
added_none l w c e = rw e refl

-- One of the two lists has the word.
pub given_added : (ws A : List ℕ) (w : ℕ) (r : Bool) → r ≡ stands_in w A → r ≡ true → true ≡ given ws A w
given_added ws A w r e f = rw (sym e ∙ f)

pub given_listed : (ws A : List ℕ) (w : ℕ) (r q : Bool) → r ≡ stands_in w A → r ≡ false → q ≡ stands_in w ws → q ≡ given ws A w
given_listed ws A w r q e f g = rw (sym e ∙ f, g)
