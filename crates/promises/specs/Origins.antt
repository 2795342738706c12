-- What is promised of origins ([12]): an operation is the one on the chosen words, and who entered a link plays no other part. Lines name links by their
-- place in the whole list: of an explanation this is said but for these places, and of the derivation check not at all.
use Rattle.std.specs.Prelude.{ℕ, ◌<◌, ◌≡◌, true, cond, List, [], ◌∷◌, eqb}
use Rattle.theory.specs.Words.{Sign}
use Rattle.theory.specs.Nets.{AllIn}
use Rattle.theory.specs.Origins.{origin_unit, from, among, chosen}
use Rattle.explain.specs.Table.{ExplainOutcome}
use Rattle.promises.specs.Engines.{Engine, Read, HasZero}
use Rattle.promises.specs.Demand3.{said_by}

-- Lines as they are written, four numbers each, with 0 in place of the index of every link: a line with rule 0 names one in its third number.
unfoldable pub unindexed : List ℕ → List ℕ
unindexed [] = []
unindexed (w ∷ []) = w ∷ []
unindexed (w ∷ r ∷ []) = w ∷ r ∷ []
unindexed (w ∷ r ∷ i ∷ []) = w ∷ r ∷ i ∷ []
unindexed (w ∷ r ∷ i ∷ j ∷ l) = w ∷ r ∷ cond (eqb r 0) 0 i ∷ j ∷ unindexed l

-- Two explanations that differ at most in the indices of links: these count in the whole list, and where words stand elsewhere they may be others.
pub record SameButIndices (a b : ExplainOutcome) : Type 0 where
  pub answer : a.answer ≡ b.answer
  pub scratch : a.scratch ≡ b.scratch
  pub list : a.list ≡ b.list
  pub lines : unindexed a.lines ≡ unindexed b.lines

-- The operations that answer do the same over ws, read with `set`, and over vs, read with `set'`: answers, counts and buffers. The derivation check is not
-- among them: it reads lines, whose links are named by their index in the whole list.
pub record SameOperations (e : Engine) (o k : ℕ) (ws : List ℕ) (set : ℕ) (vs : List ℕ) (set' : ℕ) : Type 0 where
  pub scan : (x budget : ℕ) (m : List ℕ) → e.scan o k ws set x budget m ≡ e.scan o k vs set' x budget m
  pub question : (x y : ℕ) (m : List ℕ) → e.question o k ws set x y m ≡ e.question o k vs set' x y m
  pub clash_test : (m : List ℕ) → e.clash_test o k ws set m ≡ e.clash_test o k vs set' m
  pub completion : (m l : List ℕ) → e.completion o k ws set m l ≡ e.completion o k vs set' m l
  pub reason : (x y sign : ℕ) (d l : List ℕ) → e.reason o k ws set x y sign d l ≡ e.reason o k vs set' x y sign d l
  pub reason_check : (x y sign : ℕ) (l : List ℕ) → e.reason_check o k ws set x y sign l ≡ e.reason_check o k vs set' x y sign l
  pub questions : (ps bs m : List ℕ) → e.questions o k ws set ps bs m ≡ e.questions o k vs set' ps bs m
  pub valuation : (t m : List ℕ) → e.valuation o k ws set t m ≡ e.valuation o k vs set' t m
  pub completion_by_rows : (yeses noes l : List ℕ) → e.completion_by_rows o k ws set yeses noes l ≡ e.completion_by_rows o k vs set' yeses noes l
  pub proof : (x y sign : ℕ) (d l : List ℕ) → e.proof o k ws set x y sign d l ≡ e.proof o k vs set' x y sign d l
  pub proof_check : (x y sign : ℕ) (l : List ℕ) → e.proof_check o k ws set x y sign l ≡ e.proof_check o k vs set' x y sign l
  pub unit : (program : List ℕ) (budget : ℕ) (m : List ℕ) → e.unit o k ws set program budget m ≡ e.unit o k vs set' program budget m
  pub explanation : (x y sign : ℕ) (d m l : List ℕ) → SameButIndices (e.explanation o k ws set x y sign d m l) (e.explanation o k vs set' x y sign d m l)

pub record FromOrigins (e : Engine) : Type 0 where
  -- Each of these operations is the one on the chosen words, their origins removed, read with any set that has 0.
  pub plain : (o k : ℕ) (ws : List ℕ) (set z : ℕ) → Read o k ws set → HasZero z → SameOperations e o k ws set (chosen set ws) z
  -- Links stand in any order and a repeated word counts once: only which words are chosen plays a part.
  pub order : (o k : ℕ) (ws : List ℕ) (set : ℕ) (vs : List ℕ) (set' : ℕ) → Read o k ws set → Read o k vs set' → AllIn (chosen set ws) (chosen set' vs)
      → AllIn (chosen set' vs) (chosen set ws) → SameOperations e o k ws set vs set'
  -- Two origins that say one thing count once: w entered by i, and once more by j.
  pub once : (o k set i j w : ℕ) (ws : List ℕ) → w < origin_unit → among set i ≡ true → among set j ≡ true → Read o k (from i w ∷ from j w ∷ ws) set
      → SameOperations e o k (from i w ∷ from j w ∷ ws) set (from i w ∷ ws) set
  -- More origins take no yes and no no away.
  pub more : (o k : ℕ) (ws : List ℕ) (set set' : ℕ) → ((i : ℕ) → among set i ≡ true → among set' i ≡ true) → Read o k ws set → Read o k ws set'
      → (x y : ℕ) (m : List ℕ) (s : Sign) → said_by (e.question o k ws set x y m).answer s ≡ true → said_by (e.question o k ws set' x y m).answer s ≡ true
