-- The check of a proof, computed: the steps are walked in the order of the list, and the first at fault is found.
use Rattle.std.specs.Prelude.{ℕ, zero, suc, ◌+◌, ◌-◌, ◌*◌, ◌/◌, Bool, true, false, cond, not, ◌&&◌, ◌||◌, List, [], ◌∷◌, eqb, ltb, leb, length, get_or}
use Rattle.theory.specs.Words.{is, sign_number, word, tail_of, head_of, parity, sign_of}
use Rattle.theory.specs.Sequents.{LeftRule, →⊢, →⊢', ↛⊢, ↛⊢', uses, asks_kind, asks_sign, gives_kind, gives_sign}
use Rattle.theory.specs.ProofFiles.{depth_limit, list_limit}
use Rattle.proof_form.specs.declared.Asks.{Asks}
use Rattle.proof_form.specs.declared.Asks.TheVariants.{Broken, Nothing, One, Two}
use Rattle.proof_form.specs.declared.Walked.{Walked}
use Rattle.proof_form.specs.declared.Walked.TheVariants.{Upto, Fault, Cut}
use Rattle.proof_form.specs.declared.Found.{Found}
use Rattle.proof_form.specs.declared.Found.TheVariants.{Right, At, Nowhere}

-- In a net of n nodes, the first o of them objects: an individual, and a kind.
abbrev pub individual : ℕ → ℕ → ℕ → Bool
individual o n a = ltb a o || eqb a n

abbrev pub kind : ℕ → ℕ → ℕ → Bool
kind o n p = leb o p && ltb p n

-- The word w stands in a list.
unfoldable pub stands_in : ℕ → List ℕ → Bool
stands_in w [] = false
stands_in w (v ∷ l) = eqb v w || stands_in w l

-- Some word of a list is about node n.
unfoldable pub about : ℕ → List ℕ → Bool
about n [] = false
about n (v ∷ l) = eqb (tail_of v) n || about n l

-- The word w is in Γ: one of the added words A, or of the net's words ws.
abbrev pub given : List ℕ → List ℕ → ℕ → Bool
given ws A w = stands_in w A || stands_in w ws

-- The rule on the left with this number, from 4 on.
abbrev pub rule_at : ℕ → LeftRule
rule_at r = cond (eqb r 4) →⊢ (cond (eqb r 5) →⊢' (cond (eqb r 6) ↛⊢ ↛⊢'))

-- What each kind of step has to be: rule r, individual a and link w under the goal g.
abbrev pub by_axiom : ℕ → ℕ → List ℕ → List ℕ → ℕ → ℕ → ℕ → ℕ → Bool
by_axiom o n ws A g r a w = eqb w g && (eqb a (tail_of g) && (eqb r (parity g) && (individual o n a && given ws A g)))

abbrev pub by_right : ℕ → ℕ → List ℕ → ℕ → ℕ → ℕ → ℕ → Bool
by_right o n A g r a w = eqb w g && (eqb a n && (eqb r (2 + parity g) && (kind o n (tail_of g) && not (about n A))))

abbrev pub by_left : ℕ → ℕ → List ℕ → List ℕ → ℕ → ℕ → ℕ → Bool
by_left o n ws A r a w =
    ltb r 8 && (eqb (parity w) (sign_number (uses (rule_at r))) && (individual o n a && (kind o n (tail_of w) && (kind o n (head_of w) && given ws A w))))

-- What a rule on the left asks for.
abbrev pub two_of : LeftRule → ℕ → ℕ → ℕ → Asks
two_of r a p q = Two (word a (asks_kind r p q) (asks_sign r)) (word a (gives_kind r p q) (gives_sign r))

-- What the step asks to be proved above it.
unfoldable pub asks : ℕ → ℕ → List ℕ → List ℕ → ℕ → ℕ → ℕ → ℕ → Asks
asks o n ws A g r a w =
    cond (ltb r 2) (cond (by_axiom o n ws A g r a w) Nothing Broken)
    (cond (ltb r 4) (cond (by_right o n A g r a w) (One (word n (tail_of g) is) (word n (head_of g) (sign_of g))) Broken)
    (cond (by_left o n ws A r a w) (two_of (rule_at r) a (tail_of w) (head_of w)) Broken))

-- The contents, in front of place b, have the value v at a place.
abbrev pub holds : List ℕ → ℕ → ℕ → ℕ → Bool
holds l b at v = ltb at b && eqb (get_or l at 0) v

-- Branch j begins with step i and ends before step e.
abbrev pub fits : List ℕ → ℕ → ℕ → ℕ → ℕ → Bool
fits l b j i e = holds l b (1 + 2 * j) (b + 3 * i) && holds l b (2 + 2 * j) (e - i)

-- A walk over the steps of one proof, from the added words, the goal, the step, the branch that comes next and whether all fitted so far.
abbrev pub Walk : Type 0
Walk = List ℕ → ℕ → ℕ → ℕ → Bool → Walked

-- The main premise after the left one, whose branch is j and began with step i.
unfoldable pub main_premise : List ℕ → ℕ → Walk → List ℕ → ℕ → ℕ → ℕ → Walked → Walked
main_premise l b f A g i j (Upto e m t) = f A g e m (t && fits l b j i e)
main_premise l b f A g i j (Fault e) = Fault e
main_premise l b f A g i j Cut = Cut

-- The premises of step i, each walked by f.
unfoldable pub premises : List ℕ → ℕ → Walk → List ℕ → ℕ → ℕ → ℕ → Bool → Asks → Walked
premises l b f A g i j t Broken = Fault i
premises l b f A g i j t Nothing = Upto (suc i) j t
premises l b f A g i j t (One w h) = f (w ∷ A) h (suc i) j t
premises l b f A g i j t (Two h w) = main_premise l b f (w ∷ A) g (suc i) j (f A h (suc i) (suc j) t)

-- The walk over a sequent, where as many, it and those above it, may still stand one above another as the first number says.
unfoldable pub sequent : ℕ → ℕ → List ℕ → List ℕ → ℕ → ℕ → Walk
sequent o n ws l b zero A g i j t = cond (leb ((length l - b) / 3) i) Cut (Fault i)
sequent o n ws l b (suc d) A g i j t =
    cond (leb ((length l - b) / 3) i) Cut
    (premises l b (sequent o n ws l b d) A g i j t (asks o n ws A g (get_or l (b + 3 * i) 0) (get_or l (b + 3 * i + 1) 0) (get_or l (b + 3 * i + 2) 0)))

-- The end of the walk: all branches were met, nothing stands behind the steps, and all contents fitted.
unfoldable pub closing : List ℕ → ℕ → ℕ → Walked → Found
closing l n b (Upto e j t) = cond (t && (eqb j n && (eqb (b + 3 * e) (length l) && fits l b 0 0 e))) Right Nowhere
closing l n b (Fault i) = At i
closing l n b Cut = Nowhere

-- The check of a list that has n branches, as it says itself.
abbrev pub check_branches : ℕ → ℕ → List ℕ → ℕ → List ℕ → ℕ → Found
check_branches o m ws g l n = cond (eqb n 0 || ltb (length l) (suc (2 * n))) Nowhere (closing l n (suc (2 * n)) (sequent o m ws l (suc (2 * n)) depth_limit [] g 0 1 true))

-- The check of a list as a proof of the statement g from the words ws, over m nodes.
unfoldable pub check_proof : ℕ → ℕ → List ℕ → ℕ → List ℕ → Found
check_proof o m ws g [] = Nowhere
check_proof o m ws g (n ∷ l) = cond (ltb list_limit (length (n ∷ l))) Nowhere (check_branches o m ws g (n ∷ l) n)
