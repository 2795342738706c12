-- The outcome over a reason that is found already, for the contracts below the table.
use Rattle.proof.specs.declared.ProofError.TheVariants.{Short, TooDeep}
use Rattle.std.specs.Prelude.{ℕ, ◌+◌, ◌-◌, cond, List, [], ◌∷◌, ltb, length, Err}
use Rattle.theory.specs.Words.{is, word, sign_at, sign_number}
use Rattle.net.specs.Clauses.{call}
use Rattle.proof_form.specs.Ours.{chain_file, our_depth}
use Rattle.proof_form.specs.FromReason.{hops_from, start_at, from_reason}
use Rattle.proof.specs.Table.{ProofOutcome, proof_outcome, room_clauses, room_done}

-- Numbers 8 and 0 for the list `all`.
abbrev pub put : List ℕ → List ℕ → List ℕ → ProofOutcome
put all past l = cond (ltb (length l) (length all)) (proof_outcome (Err (Short (length all))) past l) (room_done all past l)

-- Our list from the reason p: of an object's statement, and of a kind's.
abbrev pub object_list : List ℕ → ℕ → List ℕ → List ℕ
object_list ws x p = chain_file 0 [] x (start_at x p) (hops_from ws p 1 (length p - 4)) (length p - 4)

abbrev pub kind_list : ℕ → List ℕ → ℕ → ℕ → ℕ → List ℕ → List ℕ
kind_list n ws x y sign p =
    chain_file 1 ((2 + sign_number (sign_at sign)) ∷ n ∷ word x y (sign_at sign) ∷ []) n (word n x is) (hops_from ws p 0 (length p - 3)) (length p - 3)

-- Numbers 11, 8 and 0 of a kind's statement, and of any.
abbrev pub put_kind : ℕ → List ℕ → ℕ → ℕ → ℕ → List ℕ → List ℕ → List ℕ → ProofOutcome
put_kind n ws x y sign p past l = cond (ltb 253 (length p - 3)) (proof_outcome (Err TooDeep) past l) (put (kind_list n ws x y sign p) past l)

abbrev pub listed : ℕ → ℕ → List ℕ → ℕ → ℕ → ℕ → List ℕ → List ℕ → List ℕ → ProofOutcome
listed o n ws x y sign p past l =
    call (room_clauses (our_depth o x (length p - 3)) (from_reason o n ws x y (sign_at sign) p (length p - 3)) past l)
    (room_done (from_reason o n ws x y (sign_at sign) p (length p - 3)) past l)
