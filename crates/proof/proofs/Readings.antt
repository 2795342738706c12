-- Proofs by computation: net M, the numbers and their order.
use Rattle.proof.specs.declared.ProofError.TheVariants.{Refused, Short, Unsupported}
use Rattle.std.specs.Prelude.{Err, Ok}
use mathlib.Core.Path.{◌≡◌, refl}
use mathlib.Core.List.{[], ◌∷◌, ◌++◌}
use lib.ListN.{replicate}
use Rattle.theory.specs.Reasons.{never}
use Rattle.theory.specs.Searches.{arcs, level, levels, distances, next, descend, reason_states, firsts, reason_list}
use Rattle.theory.specs.NetM.{M}
use Rattle.theory.specs.Origins.{from, chosen}
use Rattle.net_word.specs.declared.Cause.TheVariants.{Head}
use Rattle.net.specs.Passing.{passing}
use Rattle.net.specs.declared.Refusal.TheVariants.{TooManyNodes, BadSet, IllegalWord, BadQuestion, ShortBuffer}
use Rattle.proof_form.specs.Checker.{stands_in}
use Rattle.proof_form.specs.Ours.{chain_file, use_steps, close_steps, nested, our_depth}
use Rattle.proof_form.specs.FromReason.{hops_from, from_reason}
use Rattle.proof_form.proofs.Readings.{zero_five, two_five}
use Rattle.proof.specs.Table.{proof_outcome, proved}

-- M, 0 ↛ 5: thirty numbers; what stands past them, and past 2N places of the scratch, stays as it was.
pub proof_of_m : proved 2 4 M 15 0 5 1 (replicate 13 7) (replicate 31 9)
    ≡ proof_outcome (Ok 30) (4 ∷ never ∷ 3 ∷ never ∷ never ∷ never ∷ never ∷ never ∷ never ∷ 2 ∷ 1 ∷ 0 ∷ 7 ∷ []) (zero_five ++ 9 ∷ [])
unfolding chosen passing distances levels level arcs reason_states descend next firsts reason_list from_reason chain_file hops_from use_steps close_steps nested our_depth stands_in zero_five
proof_of_m = refl

-- 2 ↛ 5, of a kind: thirty-three numbers.
pub proof_of_a_kind : proved 2 4 M 15 2 5 1 (replicate 12 7) (replicate 33 9)
    ≡ proof_outcome (Ok 33) (4 ∷ never ∷ 3 ∷ never ∷ never ∷ never ∷ never ∷ never ∷ never ∷ 2 ∷ 1 ∷ 0 ∷ []) two_five
unfolding chosen passing distances levels level arcs reason_states descend next firsts reason_list from_reason chain_file hops_from use_steps close_steps nested our_depth stands_in two_five
proof_of_a_kind = refl

-- A kind is itself: no link, no left premise.
pub kind_is_itself : proved 2 4 M 15 3 3 0 (replicate 12 7) (replicate 9 9)
    ≡ proof_outcome (Ok 9) (never ∷ 3 ∷ never ∷ 0 ∷ 1 ∷ 2 ∷ never ∷ never ∷ never ∷ never ∷ never ∷ never ∷ []) (1 ∷ 3 ∷ 2 ∷ 2 ∷ 6 ∷ 6150 ∷ 0 ∷ 6 ∷ 12294 ∷ [])
unfolding chosen passing distances levels level arcs reason_states descend next firsts reason_list from_reason chain_file hops_from use_steps close_steps nested our_depth stands_in
kind_is_itself = refl

-- An object's own ↛ link is an axiom.
pub own_link : proved 1 1 (3 ∷ []) 15 0 1 1 (replicate 4 7) (replicate 6 9) ≡ proof_outcome (Ok 6) (1 ∷ never ∷ never ∷ 0 ∷ []) (1 ∷ 3 ∷ 1 ∷ 1 ∷ 0 ∷ 3 ∷ [])
unfolding chosen passing distances levels level arcs reason_states descend next firsts reason_list from_reason chain_file hops_from use_steps close_steps nested our_depth stands_in
own_link = refl

-- Room for twenty-nine is number 8, which asks for thirty: the scratch is filled, the list unchanged.
pub list_too_short : proved 2 4 M 15 0 5 1 (replicate 12 7) (replicate 29 9)
    ≡ proof_outcome (Err (Short 30)) (4 ∷ never ∷ 3 ∷ never ∷ never ∷ never ∷ never ∷ never ∷ never ∷ 2 ∷ 1 ∷ 0 ∷ []) (replicate 29 9)
unfolding chosen passing distances levels level arcs reason_states descend next firsts reason_list from_reason chain_file hops_from use_steps close_steps nested our_depth stands_in
list_too_short = refl

-- Number 7 comes before number 8.
pub not_supported : proved 2 4 M 15 3 4 0 (replicate 12 7) []
    ≡ proof_outcome (Err Unsupported) (never ∷ 2 ∷ never ∷ never ∷ 0 ∷ 1 ∷ never ∷ never ∷ never ∷ never ∷ never ∷ never ∷ []) []
unfolding chosen passing distances levels level arcs reason_states descend next firsts reason_list from_reason chain_file hops_from use_steps close_steps nested our_depth stands_in
not_supported = refl

-- The link was entered by origin 1, which the set does not have.
pub origin_unchosen : proved 1 1 (from 1 2 ∷ []) 13 0 1 0 (replicate 4 7) (replicate 6 9) ≡ proof_outcome (Err Unsupported) (never ∷ 0 ∷ never ∷ never ∷ []) (replicate 6 9)
unfolding chosen passing distances levels level arcs reason_states descend next firsts reason_list from_reason chain_file hops_from use_steps close_steps nested our_depth stands_in
origin_unchosen = refl

-- With the set that has it, a step names the plain word.
pub origin_chosen : proved 1 1 (from 1 2 ∷ []) 2 0 1 0 (replicate 4 7) (replicate 6 9) ≡ proof_outcome (Ok 6) (1 ∷ 0 ∷ never ∷ never ∷ []) (1 ∷ 3 ∷ 1 ∷ 0 ∷ 0 ∷ 2 ∷ [])
unfolding chosen passing distances levels level arcs reason_states descend next firsts reason_list from_reason chain_file hops_from use_steps close_steps nested our_depth stands_in
origin_chosen = refl

-- Numbers 1, 15, 3, 4 and 5, in this order.
pub many_nodes : proved 1024 1 [] 16 2000 0 2 [] [] ≡ proof_outcome (Err (Refused TooManyNodes)) [] []
unfolding passing
many_nodes = refl

pub bad_set : proved 1 1 (0 ∷ []) 16 2000 0 2 [] [] ≡ proof_outcome (Err (Refused BadSet)) [] []
unfolding passing
bad_set = refl

pub illegal_word : proved 1 1 (2 ∷ 0 ∷ []) 15 2000 0 2 [] [] ≡ proof_outcome (Err (Refused (IllegalWord 1 Head))) [] []
unfolding passing
illegal_word = refl

pub no_statement : proved 2 4 M 15 0 5 2 [] [] ≡ proof_outcome (Err (Refused BadQuestion)) [] []
unfolding passing
no_statement = refl

pub short_scratch : proved 2 4 M 15 3 4 0 (replicate 11 7) [] ≡ proof_outcome (Err (Refused ShortBuffer)) (replicate 11 7) []
unfolding passing
short_scratch = refl
