-- Answers read off by computation, over net M.
use Rattle.proof_check.specs.declared.JudgeError.TheVariants.{Faulty, Refused}
use Rattle.std.specs.Prelude.{Err, Ok}
use Prim.Native.Nat.{ℕ}
use mathlib.Core.Path.{◌≡◌, refl}
use mathlib.Core.List.{List, [], ◌∷◌}
use Rattle.theory.specs.NetM.{M}
use Rattle.theory.specs.Origins.{from, chosen}
use Rattle.net_word.specs.declared.Cause.TheVariants.{Head}
use Rattle.net.specs.Passing.{passing}
use Rattle.net.specs.declared.Refusal.TheVariants.{TooManyNodes, BadSet, IllegalWord, BadQuestion}
use Rattle.proof_form.specs.Checker.{check_proof, closing, sequent, premises, main_premise, asks, stands_in, about}
use Rattle.proof_form.proofs.Readings.{zero_five, two_five}
use Rattle.proof_check.specs.Table.{no_step, judged}
use Rattle.proof_check.specs.Table.{Judged}

abbrev in_m : ℕ → ℕ → ℕ → List ℕ → Judged
in_m x y sign l = judged 2 4 M 15 x y sign l

-- Our proofs of 0 ↛ 5 and of 2 ↛ 5.
pub accepts_object : in_m 0 5 1 zero_five ≡ Ok tt
unfolding chosen passing check_proof closing sequent premises main_premise asks stands_in about zero_five
accepts_object = refl

pub accepts_kind : in_m 2 5 1 two_five ≡ Ok tt
unfolding chosen passing check_proof closing sequent premises main_premise asks stands_in about two_five
accepts_kind = refl

-- The same list for the other sign is at fault in its last step, whose axiom is not what is asked.
pub other_sign : in_m 0 5 0 zero_five ≡ Err (Faulty 6)
unfolding chosen passing check_proof closing sequent premises main_premise asks stands_in about zero_five
other_sign = refl

-- A link between kinds is no axiom.
pub kind_axiom : in_m 4 3 0 (1 ∷ 3 ∷ 1 ∷ 0 ∷ 4 ∷ 8198 ∷ []) ≡ Err (Faulty 0)
unfolding chosen passing check_proof closing sequent premises main_premise asks stands_in about
kind_axiom = refl

-- An object's link is not used by a rule on the left.
pub object_used : in_m 0 2 0 (2 ∷ 5 ∷ 3 ∷ 8 ∷ 1 ∷ 4 ∷ 0 ∷ 4 ∷ 0 ∷ 0 ∷ 4 ∷ 0 ∷ 0 ∷ 4 ∷ []) ≡ Err (Faulty 0)
unfolding chosen passing check_proof closing sequent premises main_premise asks stands_in about
object_used = refl

-- The first of two steps at fault, contents or not.
pub first_of_two : in_m 4 3 0 (1 ∷ 7 ∷ 9 ∷ 9 ∷ 9 ∷ 9 ∷ 8 ∷ 8 ∷ 8 ∷ []) ≡ Err (Faulty 0)
unfolding chosen passing check_proof closing sequent premises main_premise asks stands_in about
first_of_two = refl

-- A number after the last step; wrong contents; a list cut short; no list at all.
pub number_after : in_m 0 2 0 (1 ∷ 3 ∷ 1 ∷ 0 ∷ 0 ∷ 4 ∷ 0 ∷ []) ≡ Err (Faulty no_step)
unfolding chosen passing check_proof closing sequent premises main_premise asks stands_in about
number_after = refl

pub wrong_contents : in_m 0 2 0 (1 ∷ 3 ∷ 2 ∷ 0 ∷ 0 ∷ 4 ∷ []) ≡ Err (Faulty no_step)
unfolding chosen passing check_proof closing sequent premises main_premise asks stands_in about
wrong_contents = refl

pub cut_short : in_m 0 2 0 (1 ∷ 3 ∷ 1 ∷ 0 ∷ 0 ∷ []) ≡ Err (Faulty no_step)
unfolding chosen passing check_proof closing sequent premises main_premise asks stands_in about
cut_short = refl

pub nothing_at_all : in_m 0 2 0 [] ≡ Err (Faulty no_step)
unfolding chosen passing check_proof
nothing_at_all = refl

-- 0 → 1 was entered by origin 1: it is an axiom with a set that has 1, and with no other.
pub origin_chosen : judged 1 1 (from 1 2 ∷ []) 2 0 1 0 (1 ∷ 3 ∷ 1 ∷ 0 ∷ 0 ∷ 2 ∷ []) ≡ Ok tt
unfolding chosen passing check_proof closing sequent premises main_premise asks stands_in about
origin_chosen = refl

pub origin_unchosen : judged 1 1 (from 1 2 ∷ []) 13 0 1 0 (1 ∷ 3 ∷ 1 ∷ 0 ∷ 0 ∷ 2 ∷ []) ≡ Err (Faulty 0)
unfolding chosen passing check_proof closing sequent premises main_premise asks stands_in about
origin_unchosen = refl

-- A step names a plain word, not a word with its origin.
pub origin_in_step : judged 1 1 (from 1 2 ∷ []) 2 0 1 0 (1 ∷ 3 ∷ 1 ∷ 0 ∷ 0 ∷ from 1 2 ∷ []) ≡ Err (Faulty 0)
unfolding chosen passing check_proof closing sequent premises main_premise asks stands_in about
origin_in_step = refl

-- Numbers 1, 15, 3 and 4 come first, in this order.
pub many_nodes : judged 1024 1 [] 16 2000 0 2 [] ≡ Err (Refused TooManyNodes)
unfolding passing
many_nodes = refl

pub bad_set : judged 1 1 (0 ∷ []) 16 2000 0 2 [] ≡ Err (Refused BadSet)
unfolding passing
bad_set = refl

pub illegal_word : judged 1 1 (2 ∷ 0 ∷ []) 15 2000 0 2 [] ≡ Err (Refused (IllegalWord 1 Head))
unfolding passing
illegal_word = refl

pub no_statement : in_m 0 5 2 zero_five ≡ Err (Refused BadQuestion)
unfolding passing
no_statement = refl
