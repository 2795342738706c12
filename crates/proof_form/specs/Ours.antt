-- Our proof, as Lemmas 9 to 12 build it from a path without repeats: one step by a rule on the left for each link, over an axiom.
use Rattle.std.specs.Prelude.{ℕ, zero, suc, ◌+◌, ◌-◌, ◌*◌, cond, List, [], ◌∷◌, ◌++◌, ltb, length}
use Rattle.theory.specs.Words.{Sign, is, isnt, sign_number, word, parity}
use Rattle.theory.specs.Paths.{last_of}
use Rattle.theory.specs.Sequents.{LeftRule, →⊢, →⊢', ↛⊢, ↛⊢', uses, gives_kind, gives_sign}
use Rattle.theory.specs.ProofFiles.{rule_of}
use Rattle.proof_form.specs.Checker.{stands_in}

-- A link of the path and the rule that uses it.
pub record Hop : Type 0 where
  pub rule : LeftRule
  pub tail : ℕ
  pub head : ℕ

abbrev pub hop : LeftRule → ℕ → ℕ → Hop
hop r p q = record { rule = r; tail = p; head = q }

-- Along the first part from u.
unfoldable pub climb : ℕ → List ℕ → List Hop
climb u [] = []
climb u (v ∷ xs) = hop →⊢ u v ∷ climb v xs

-- Along the second part from u.
unfoldable pub fall : ℕ → List ℕ → List Hop
fall u [] = []
fall u (v ∷ ys) = hop →⊢' v u ∷ fall v ys

-- Over the crossing. Where u ↛ v and v ↛ u both stand in the net, u ↛ v is taken.
abbrev pub cross : List ℕ → ℕ → ℕ → Hop
cross ws u v = cond (stands_in (word u v isnt) ws) (hop ↛⊢ u v) (hop ↛⊢' v u)

unfoldable pub over_turn : List ℕ → ℕ → List ℕ → List Hop
over_turn ws u [] = []
over_turn ws u (v ∷ ys) = cross ws u v ∷ fall v ys

-- The links of the path u, xs; ys.
unfoldable pub hops : List ℕ → ℕ → List ℕ → List ℕ → List Hop
hops ws u xs ys = climb u xs ++ over_turn ws (last_of u xs) ys

-- A path from an object begins with an axiom, its first link; what follows are the other links.
unfoldable pub object_start : ℕ → List ℕ → List ℕ → ℕ
object_start x [] [] = 0
object_start x [] (v ∷ ys) = word x v isnt
object_start x (v ∷ xs) ys = word x v is

unfoldable pub object_hops : List ℕ → List ℕ → List ℕ → List Hop
object_hops ws [] [] = []
object_hops ws [] (v ∷ ys) = fall v ys
object_hops ws (v ∷ xs) ys = hops ws v xs ys

-- The step that uses a link, and the axiom beside it, which is its main premise.
abbrev pub use_step : ℕ → Hop → List ℕ
use_step a h = rule_of h.rule ∷ a ∷ word h.tail h.head (uses h.rule) ∷ []

abbrev pub axiom_step : ℕ → ℕ → List ℕ
axiom_step a g = parity g ∷ a ∷ g ∷ []

abbrev pub close_step : ℕ → Hop → List ℕ
close_step a h = axiom_step a (word a (gives_kind h.rule h.tail h.head) (gives_sign h.rule))

-- The steps that use links, the last link first; and their axioms, the first link first.
unfoldable pub use_steps : ℕ → List Hop → List ℕ
use_steps a [] = []
use_steps a (h ∷ hs) = use_steps a hs ++ use_step a h

unfoldable pub close_steps : ℕ → List Hop → List ℕ
close_steps a [] = []
close_steps a (h ∷ hs) = close_step a h ++ close_steps a hs

-- Place and size of m branches, each inside the one before it, of which the first begins behind step i.
unfoldable pub nested : ℕ → ℕ → ℕ → List ℕ
nested b i zero = []
nested b i (suc m) = (b + 3 * suc i) ∷ suc (2 * m) ∷ nested b (suc i) m

-- The list of a proof that begins with i steps `above`, whose individual is a, whose innermost axiom is g, and that goes by m links hs.
unfoldable pub chain_file : ℕ → List ℕ → ℕ → ℕ → List Hop → ℕ → List ℕ
chain_file i above a g hs m =
    let b = suc (2 * suc m) in
    suc m ∷ b ∷ (i + suc (2 * m)) ∷ (nested b i m ++ (above ++ (use_steps a hs ++ (axiom_step a g ++ close_steps a hs))))

-- An object's statement, and a kind's: N → x is added by a rule on the right.
abbrev pub object_file : List ℕ → ℕ → List ℕ → List ℕ → List ℕ
object_file ws x xs ys = chain_file 0 [] x (object_start x xs ys) (object_hops ws xs ys) (length (object_hops ws xs ys))

abbrev pub kind_file : ℕ → List ℕ → ℕ → ℕ → Sign → List ℕ → List ℕ → List ℕ
kind_file n ws x y s xs ys = chain_file 1 ((2 + sign_number s) ∷ n ∷ word x y s ∷ []) n (word n x is) (hops ws x xs ys) (length (hops ws x xs ys))

-- Our list for the statement x → y, or x ↛ y, that the path x, xs; ys shows.
unfoldable pub our_file : ℕ → ℕ → List ℕ → ℕ → ℕ → Sign → List ℕ → List ℕ → List ℕ
our_file o n ws x y s xs ys = cond (ltb x o) (object_file ws x xs ys) (kind_file n ws x y s xs ys)

-- The most sequents that stand one above another in it, where the path has so many links.
unfoldable pub our_depth : ℕ → ℕ → ℕ → ℕ
our_depth o x links = cond (ltb x o) links (links + 2)

-- Its steps.
unfoldable pub our_size : ℕ → ℕ → ℕ → ℕ
our_size o x links = cond (ltb x o) (2 * links - 1) (2 * links + 2)
