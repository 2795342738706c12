-- What a fold along the moves of one word gives, if the word is chosen, by the tests that the code makes of the sign asked and of the word's own. A level is such a fold, and so is the search for a next state.
use Prim.Native.Nat.{ℕ, ◌+◌, ◌*◌, ◌-◌, ◌<◌}
use mathlib.Core.Path.{◌≡◌, refl, sym, ap, ◌∙◌}
use mathlib.Core.Bool.{Bool, true, false, cond}
use mathlib.Core.List.{List, [], ◌∷◌}
use native.Mathlib.Omega.{arith}
use native.Mathlib.Decide.{ℕ_discrete}
use Rattle.theory.specs.Words.{sign_at, tail_of, head_of, parity}
use Rattle.theory.specs.Searches.{Arc, arc, arcs}
use Rattle.theory.specs.Origins.{plain_of, chooses, chosen, EndsFrom}
use Rattle.theory.proofs.origins.Folds.{gather, chosen_arcs}
use Rattle.reason_search.proofs.WordArcs.{word_arcs, along_only, no_move, two_moves}

-- What is done at a word if it is chosen: q is whether it is, and t what the code found.
module _ {S : Type 0} where
  -- Where the word does nothing, it need not be looked at.
  pub idle : (q : Bool) {x y : S} → x ≡ y → x ≡ cond q y x
  idle true e = e
  idle false e = refl

  pub passed : (q : Bool) (x y : S) {t : Bool} → t ≡ q → t ≡ false → x ≡ cond q y x
  passed q x y e f = rw (sym e ∙ f)

  pub taken : (q : Bool) (x : S) {y z : S} {t : Bool} → t ≡ q → t ≡ true → z ≡ y → z ≡ cond q y x
  taken q x e f h = rw (sym e ∙ f) h

-- The code found the plain word p, its tail t and its head h: both are nodes.
pub ends_inside : {n w p t h : ℕ} → EndsFrom n w → p ≡ plain_of w → t ≡ tail_of p → h ≡ head_of p → (t < n) × (h < n)
ends_inside e q f g = (rw (f, q) e.ends.tail_in, rw (g, q) e.ends.head_in)

module _ {S : Type 0} (f : List Arc → S → S) (none : (x : S) → f [] x ≡ x) (two : (e g : Arc) (x : S) → f (e ∷ g ∷ []) x ≡ f (g ∷ []) (f (e ∷ []) x))
    (set n s w : ℕ) (x : S) where
  of_chosen : (q : Bool) (l : List Arc) → f (cond q l []) x ≡ cond q (f l x) x
  of_chosen true l = refl
  of_chosen false l = none x

  both_moves : (q : Bool) (e g : Arc) {a b : S} → a ≡ cond q (f (e ∷ []) x) x → b ≡ cond q (f (g ∷ []) a) a → b ≡ cond q (f (e ∷ g ∷ []) x) x
  both_moves true e g h k = k ∙ ap (f (g ∷ [])) h ∙ sym (two e g x)
  both_moves false e g h k = k ∙ h

  pub word_moves : f (arcs n (sign_at s) (chosen set (w ∷ []))) x ≡ cond (chooses set w) (f (word_arcs n s (plain_of w)) x) x
  unfolding gather
  word_moves = ap (λ (l : List Arc). f l x) (chosen_arcs set n (sign_at s) (w ∷ [])) ∙ of_chosen (chooses set w) (word_arcs n s (plain_of w))

  module _ {p t h : ℕ} (plain : p ≡ plain_of w) (tail : t ≡ tail_of p) (head : h ≡ head_of p) where
    same_sign : parity p ≡ parity w
    same_sign = omega (arith, plain)

    moved : {l : List Arc} → word_arcs n s p ≡ l → {b : S} → b ≡ cond (chooses set w) (f l x) x → b ≡ f (arcs n (sign_at s) (chosen set (w ∷ []))) x
    moved e g = g ∙ ap (λ (l : List Arc). cond (chooses set w) (f l x) x) (sym e ∙ ap (word_arcs n s) plain) ∙ sym word_moves

    -- Asked for an "is": a → link makes its move, and a ↛ link none. Where the move does nothing, neither of them does.
    pub word_along : s ≡ 0 → parity w ≡ 0 → {b : S} → b ≡ cond (chooses set w) (f (arc t h ∷ []) x) x → b ≡ f (arcs n (sign_at s) (chosen set (w ∷ []))) x
    word_along z o e = moved (along_only n s p tail head z (same_sign ∙ o)) e

    pub word_none : s ≡ 0 → (parity w ≡ 0 → ⊥) → x ≡ f (arcs n (sign_at s) (chosen set (w ∷ []))) x
    word_none z o = moved (no_move n s p tail head z (λ (e : parity p ≡ 0). o (sym same_sign ∙ e))) (idle (chooses set w) (sym (none x)))

    pub word_idle : s ≡ 0 → x ≡ f (arc t h ∷ []) x → x ≡ f (arcs n (sign_at s) (chosen set (w ∷ []))) x
    word_idle z e = at (ℕ_discrete (parity w) 0)
      where
        at : Dec (parity w ≡ 0) → x ≡ f (arcs n (sign_at s) (chosen set (w ∷ []))) x
        at (yes o) = word_along z o (idle (chooses set w) e)
        at (no o) = word_none z o

    -- Asked for an "is not": both moves, one after the other.
    pub word_across : (s ≡ 0 → ⊥) → {a b : S} → a ≡ cond (chooses set w) (f (arc t (h + parity w * n) ∷ []) x) x
        → b ≡ cond (chooses set w) (f (arc (n + h - parity w * n) (n + t) ∷ []) a) a → b ≡ f (arcs n (sign_at s) (chosen set (w ∷ []))) x
    word_across z e g =
        moved (rw (← same_sign) (two_moves n s p tail head z)) (both_moves (chooses set w) (arc t (h + parity w * n)) (arc (n + h - parity w * n) (n + t)) e g)
