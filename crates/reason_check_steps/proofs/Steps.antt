-- A step of a path, word by word, and a path, step by step: each in the terms of the loop that goes over it.
use Prim.Native.Nat.{ℕ, suc, ◌+◌, ◌-◌, ◌<◌, ◌≤◌}
use mathlib.Core.Path.{◌≡◌, refl, sym, ◌∙◌}
use mathlib.Core.Bool.{Bool, true, false, cond, not, ◌&&◌, ◌||◌}
use mathlib.Core.List.{List, [], ◌∷◌}
use native.Mathlib.Decide.{dec_lt, ℕ_discrete}
use native.Mathlib.Numerals.{add-one}
use native.Mathlib.Omega.{arith}
use borrow.Author.Tests.{not-true, not-false, lt-ltb, le-ltb, eq-eqb, ne_eqb}
use lib.Dec.{eqb, ltb, leb}
use lib.ListN.{length, get_or, drop, drop_of_length-le}
use lib.Seq.{drop-cons}
use Rattle.theory_laws.proofs.Booleans.{or_assoc, or_true}
use Rattle.theory.specs.Checks.{listed, step_at, all_steps}
use Rattle.theory.specs.Origins.{plain_of, chooses, chosen}
use Rattle.theory.proofs.origins.Choosing.{chosen_go, chosen_end}
use Rattle.reason_check_step.specs.Steps.{word_says, makes, repeats}

or_exchange : (p q r s : Bool) → ((p || q) || (r || s)) ≡ ((p || r) || (q || s))
or_exchange true q r s = refl
or_exchange false true true s = refl
or_exchange false true false s = refl
or_exchange false false r s = refl

-- A kind is repeated whichever of its two places is named first.
again_turned : (o k u v : ℕ) → (eqb v u && (leb o v && ltb v (o + k))) ≡ (eqb u v && (leb o u && ltb u (o + k)))
again_turned o k u v = at (ℕ_discrete u v)
  where
    at : Dec (u ≡ v) → (eqb v u && (leb o v && ltb v (o + k))) ≡ (eqb u v && (leb o u && ltb u (o + k)))
    at (yes e) = rw e
    at (no n) = rw (ne_eqb u v n, ne_eqb v u (λ (e : v ≡ u). n (sym e)))

-- The first word's part in a choice among three.
choose_first : (p q x l g x₁ l₁ x₂ l₂ y m h : Bool)
    → cond p ((x || l) || g) (cond q ((x₁ || l₁) || (x₂ || l₂)) ((y || m) || h))
    ≡ (cond p x (cond q (x₁ || x₂) y) || cond p (l || g) (cond q (l₁ || l₂) (m || h)))
choose_first true q x l g x₁ l₁ x₂ l₂ y m h = or_assoc x l g
choose_first false true x l g x₁ l₁ x₂ l₂ y m h = or_exchange x₁ l₁ x₂ l₂
choose_first false false x l g x₁ l₁ x₂ l₂ y m h = or_assoc y m h

module _ (o k a i u v : ℕ) where
  -- Without words only a repeat is a step.
  step_without_words : step_at o k [] a i u v ≡ repeats o k a (suc i) u v
  unfolding listed repeats
  step_without_words = at (dec_lt (suc i) a) (ℕ_discrete (suc i) a)
    where
      at : Dec (suc i < a) → Dec (suc i ≡ a) → step_at o k [] a i u v ≡ repeats o k a (suc i) u v
      at (yes h) d = rw (lt-ltb (suc i) a h, ne_eqb (suc i) a (λ (e : suc i ≡ a). omega arith))
      at (no h) (yes e) = rw (le-ltb (suc i) a (omega arith), eq-eqb (suc i) a e)
      at (no h) (no n) = rw (le-ltb (suc i) a (omega arith), ne_eqb (suc i) a n) (again_turned o k u v)

  -- The first word makes the step, or it is one by the others.
  step_word : (w : ℕ) (ws : List ℕ) → step_at o k (w ∷ ws) a i u v ≡ (makes a (suc i) u v w || step_at o k ws a i u v)
  unfolding listed makes
  step_word w ws =
      choose_first (ltb (suc i) a) (eqb (suc i) a)
      (word_says u v 0 w) (listed u v 0 ws) (eqb u v && (leb o u && ltb u (o + k)))
      (word_says u v 1 w) (listed u v 1 ws) (word_says v u 1 w) (listed v u 1 ws)
      (word_says v u 0 w) (listed v u 0 ws) (eqb v u && (leb o v && ltb v (o + k)))

  repeat_steps : (ws : List ℕ) → repeats o k a (suc i) u v ≡ true → step_at o k ws a i u v ≡ true
  repeat_steps [] h = step_without_words ∙ h
  repeat_steps (w ∷ ws) h = step_word w ws ∙ (rw (repeat_steps ws h) (or_true (makes a (suc i) u v w)))

-- Of a written path: the step from node i to the next, whether it repeats a kind, whether a word makes it, and all steps from there on.
abbrev pub step_from : ℕ → ℕ → List ℕ → List ℕ → ℕ → Bool
step_from o k ws l i = step_at o k ws (get_or l 0 0) i (get_or l (i + 2) 0) (get_or l (i + 3) 0)

abbrev pub repeats_from : ℕ → ℕ → List ℕ → ℕ → Bool
repeats_from o k l i = repeats o k (get_or l 0 0) (i + 1) (get_or l (i + 2) 0) (get_or l (i + 3) 0)

abbrev pub makes_from : List ℕ → ℕ → ℕ → Bool
makes_from l i w = makes (get_or l 0 0) (i + 1) (get_or l (i + 2) 0) (get_or l (i + 3) 0) w

abbrev pub steps_from : ℕ → ℕ → List ℕ → List ℕ → ℕ → Bool
steps_from o k ws l i = all_steps o k ws (get_or l 0 0) i (get_or l (i + 2) 0) (drop (i + 3) l)

module _ (o k : ℕ) (ws l : List ℕ) (i : ℕ) where
  steps_next : i < length l - 3 → steps_from o k ws l i ≡ (step_from o k ws l i && steps_from o k ws l (i + 1))
  unfolding all_steps
  steps_next h =
      let e : i + 3 < length l = omega arith in
      let f : i + 1 + 2 ≡ i + 3 = omega arith in
      let g : i + 1 + 3 ≡ suc (i + 3) = omega arith in
      rw (f, g, add-one i, drop-cons l (i + 3) 0 e, all_steps)

  taken : i < length l - 3 → step_from o k ws l i ≡ true → steps_from o k ws l i ≡ steps_from o k ws l (i + 1)
  taken h e = steps_next h ∙ rw e

  -- The loop over the path has come to node i: no step is left, or the next is a repeat, whatever the words.
  pub path_ends : length l - 3 ≤ i → steps_from o k ws l i ≡ true
  unfolding all_steps
  path_ends h = rw (drop_of_length-le l {i = i + 3} (omega arith))

  pub repeat_taken : i < length l - 3 → {r : Bool} → r ≡ repeats_from o k l i → not r ≡ false → steps_from o k ws l i ≡ steps_from o k ws l (i + 1)
  repeat_taken h {r = r} e n =
      let f : repeats_from o k l i ≡ true = sym e ∙ not-false r n in
      taken h (repeat_steps o k (get_or l 0 0) i (get_or l (i + 2) 0) (get_or l (i + 3) 0) ws (rw (add-one i) at f))

-- At node i the loop over the words has come to word j, and the chosen words before it did not make the step.
module _ (set o k : ℕ) (ws l : List ℕ) (i j : ℕ) (before : step_from o k (chosen set ws) l i ≡ step_from o k (chosen set (drop j ws)) l i) where
  module _ (at : j < length ws) {q : Bool} (told : q ≡ chooses set (get_or ws j 0)) where
    -- The word is not chosen.
    pub unchosen_passed : q ≡ false → step_from o k (chosen set ws) l i ≡ step_from o k (chosen set (drop (j + 1) ws)) l i
    unchosen_passed n = before ∙ rw (chosen_go set ws j at, sym told ∙ n) refl

    -- It is, and without its origin it is w.
    module _ (picked : q ≡ true) {w : ℕ} (plain : w ≡ plain_of (get_or ws j 0)) {r : Bool} (made : r ≡ makes_from l i w) where
      step_here : step_from o k (chosen set ws) l i ≡ (r || step_from o k (chosen set (drop (j + 1) ws)) l i)
      step_here =
          before
          ∙ rw (chosen_go set ws j at, sym told ∙ picked, made, plain, add-one i)
          (step_word o k (get_or l 0 0) i (get_or l (i + 2) 0) (get_or l (i + 3) 0) (plain_of (get_or ws j 0)) (chosen set (drop (j + 1) ws)))

      -- It makes the step, or does not.
      pub step_made : i < length l - 3 → r ≡ true → steps_from o k (chosen set ws) l i ≡ steps_from o k (chosen set ws) l (i + 1)
      step_made h t = taken o k (chosen set ws) l i h (step_here ∙ rw t)

      pub step_not_made : r ≡ false → step_from o k (chosen set ws) l i ≡ step_from o k (chosen set (drop (j + 1) ws)) l i
      step_not_made t = step_here ∙ rw t

  -- There is no word left, and the step is no repeat.
  pub words_end : i < length l - 3 → length ws ≤ j → {r : Bool} → r ≡ repeats_from o k l i → not r ≡ true → steps_from o k (chosen set ws) l i ≡ false
  words_end h g {r = r} e n =
      let f : repeats_from o k l i ≡ false = sym e ∙ not-true r n in
      let none : step_from o k (chosen set (drop j ws)) l i ≡ false =
      rw (chosen_end set ws j g) (step_without_words o k (get_or l 0 0) i (get_or l (i + 2) 0) (get_or l (i + 3) 0) ∙ (rw (add-one i) at f)) in
      steps_next o k (chosen set ws) l i h ∙ rw (before ∙ none)
