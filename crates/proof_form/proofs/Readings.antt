-- Readings on net M: our lists, that they are accepted, and what is found in lists with a fault.
use Prim.Native.Nat.{ℕ}
use mathlib.Core.Path.{◌≡◌, refl}
use mathlib.Core.List.{List, [], ◌∷◌}
use Rattle.theory.specs.Words.{is, isnt, word}
use Rattle.theory.specs.NetM.{M}
use Rattle.proof_form.specs.Checker.{check_proof, closing, sequent, premises, main_premise, asks, stands_in, about}
use Rattle.proof_form.specs.Ours.{our_file, chain_file, object_start, object_hops, hops, climb, over_turn, fall, use_steps, close_steps, nested}
use Rattle.proof_form.specs.declared.Found.TheVariants.{Right, At, Nowhere}

-- 0 ↛ 5, by the path 0 2; 3 4 5.
unfoldable pub zero_five : List ℕ
zero_five = 4 ∷ 9 ∷ 7 ∷ 12 ∷ 5 ∷ 15 ∷ 3 ∷ 18 ∷ 1 ∷ 5 ∷ 0 ∷ 10248 ∷ 5 ∷ 0 ∷ 8198 ∷ 6 ∷ 0 ∷ 4103 ∷ 0 ∷ 0 ∷ 4 ∷ 1 ∷ 0 ∷ 7 ∷ 1 ∷ 0 ∷ 9 ∷ 1 ∷ 0 ∷ 11 ∷ []

pub ours_object : our_file 2 6 M 0 5 isnt (2 ∷ []) (3 ∷ 4 ∷ 5 ∷ []) ≡ zero_five
unfolding our_file chain_file object_start object_hops hops climb over_turn fall use_steps close_steps nested stands_in zero_five
ours_object = refl

-- 2 ↛ 5, by the path 2; 3 4 5, with node 6 for the fresh object.
unfoldable pub two_five : List ℕ
two_five = 4 ∷ 9 ∷ 8 ∷ 15 ∷ 5 ∷ 18 ∷ 3 ∷ 21 ∷ 1 ∷ 3 ∷ 6 ∷ 4107 ∷ 5 ∷ 6 ∷ 10248 ∷ 5 ∷ 6 ∷ 8198 ∷ 6 ∷ 6 ∷ 4103 ∷ 0 ∷ 6 ∷ 12292 ∷ 1 ∷ 6 ∷ 12295 ∷ 1 ∷ 6 ∷ 12297 ∷ 1 ∷ 6 ∷ 12299 ∷ []

pub ours_kind : our_file 2 6 M 2 5 isnt [] (3 ∷ 4 ∷ 5 ∷ []) ≡ two_five
unfolding our_file chain_file hops climb over_turn fall use_steps close_steps nested stands_in two_five
ours_kind = refl

pub accepted_object : check_proof 2 6 M (word 0 5 isnt) zero_five ≡ Right
unfolding check_proof closing sequent premises main_premise asks stands_in about zero_five
accepted_object = refl

pub accepted_kind : check_proof 2 6 M (word 2 5 isnt) two_five ≡ Right
unfolding check_proof closing sequent premises main_premise asks stands_in about two_five
accepted_kind = refl

-- The statement 3 → 3 has a proof without a link.
pub accepted_itself : check_proof 2 6 M (word 3 3 is) (1 ∷ 3 ∷ 2 ∷ 2 ∷ 6 ∷ 6150 ∷ 0 ∷ 6 ∷ 12294 ∷ []) ≡ Right
unfolding check_proof closing sequent premises main_premise asks stands_in about
accepted_itself = refl

-- A proof of another statement is at fault in its first step,
pub another_statement : check_proof 2 6 M (word 1 4 is) (1 ∷ 3 ∷ 1 ∷ 0 ∷ 0 ∷ 4 ∷ []) ≡ At 0
unfolding check_proof closing sequent premises main_premise asks stands_in about
another_statement = refl

-- a link between kinds is no axiom,
pub no_axiom : check_proof 2 6 M (word 4 3 is) (1 ∷ 3 ∷ 1 ∷ 0 ∷ 4 ∷ 8198 ∷ []) ≡ At 0
unfolding check_proof closing sequent premises main_premise asks stands_in about
no_axiom = refl

-- and wrong contents, a list cut short and no list at all are at fault in no one step.
pub wrong_contents : check_proof 2 6 M (word 0 2 is) (1 ∷ 3 ∷ 2 ∷ 0 ∷ 0 ∷ 4 ∷ []) ≡ Nowhere
unfolding check_proof closing sequent premises main_premise asks stands_in about
wrong_contents = refl

pub cut_short : check_proof 2 6 M (word 0 2 is) (1 ∷ 3 ∷ 1 ∷ 0 ∷ 0 ∷ []) ≡ Nowhere
unfolding check_proof closing sequent premises main_premise asks stands_in about
cut_short = refl

pub nothing_at_all : check_proof 2 6 M (word 0 2 is) [] ≡ Nowhere
unfolding check_proof
nothing_at_all = refl
