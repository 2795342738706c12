-- Which of T and F the number of a byte's answer has.
use Prim.Native.Nat.{ℕ}
use mathlib.Core.Path.{◌≡◌, refl}
use mathlib.Core.Bool.{Bool, true, false, cond}
use Rattle.theory.specs.Words.{Sign, is, isnt}
use Rattle.theory.specs.Marks.{T, F, has, says_yes, says_no, marker_of}
use Rattle.theory.specs.Valuations.{truth_of}
use Rattle.question.specs.Table.{answer_number}
use Rattle.question.specs.declared.Answer.TheVariants.{None, Yes, No, Both}
use Rattle.valuation.specs.Values.{value_at}

-- T is in the value exactly if the byte says yes, F exactly if it says no.
pub answer_has : (s : Sign) (b : ℕ) → has (truth_of s) (value_at b) ≡ has (marker_of s) b
answer_has is b = at (says_yes b) (says_no b)
  where
    at : (p q : Bool) → has T (answer_number (cond p (cond q Both Yes) (cond q No None))) ≡ p
    at true true = refl
    at true false = refl
    at false true = refl
    at false false = refl
answer_has isnt b = at (says_yes b) (says_no b)
  where
    at : (p q : Bool) → has F (answer_number (cond p (cond q Both Yes) (cond q No None))) ≡ q
    at true true = refl
    at true false = refl
    at false true = refl
    at false false = refl
