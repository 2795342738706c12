-- The laws of demand 3 about answers, asked from the kind: over the marks that a scan from a kind leaves when it is done.
use mathlib.Core.List.{List, ◌++◌, Memᴰ}
use Rattle.std.specs.Prelude.{ℕ, ◌+◌, ◌*◌, ◌-◌, ◌≤◌, ◌<◌, ◌≡◌, ◌↔◌, length, Ok}
use Rattle.theory.specs.Words.{Sign, tail_of}
use Rattle.theory.specs.Nets.{Kind}
use Rattle.theory.specs.Marks.{At, marker_to, U}
use Rattle.theory.specs.Origins.{chosen}
use Rattle.scan.specs.Table.{scan_outcome}
use Rattle.promises.specs.Engines.{Engine, Read, HasZero}
use Rattle.promises.specs.Demand3.{CompletesTo, Joined}

-- The engine's scan from the kind y, with some budget and some room for marks, is done and leaves the marks m.
pub record KindMarks (e : Engine) (o k : ℕ) (ws : List ℕ) (set y : ℕ) (m : List ℕ) : Type 0 where
  pub kind : Kind o k y
  pub budget : ℕ
  pub room : List ℕ
  pub count : ℕ
  pub done : e.scan o k ws set y budget room ≡ scan_outcome (Ok count) m

-- From every kind the engine says the same of every node over two lists read with one set.
abbrev pub SameFromKind : Engine → ℕ → ℕ → ℕ → List ℕ → List ℕ → Type 0
SameFromKind e o k set ws vs = (y : ℕ) (m l : List ℕ) → KindMarks e o k ws set y m → KindMarks e o k vs set y l → (x : ℕ) → x < o + k → (s : Sign)
    → At m (marker_to s) x ↔ At l (marker_to s) x

-- Below, ws is read with `set`, and what is joined with z.
pub record Demand3FromKind (e : Engine) : Type 0 where
  -- Over a net, from a kind, with room for the marks and a budget of 3N − 1 rounds, the scan is done: the laws below speak of something.
  pub done : (o k : ℕ) (ws : List ℕ) (set : ℕ) → Read o k ws set → (y : ℕ) → Kind o k y → (budget : ℕ) → 3 * (o + k) - 1 ≤ budget → (room : List ℕ) → o + k ≤ length room
      → (count : ℕ) × ((e.scan o k ws set y budget room).answer ≡ Ok count)
  -- Two nets, each read with its set, are completed to one list exactly if no third net that may be joined to each lets a scan from a kind tell them apart.
  pub alike : (o k : ℕ) (ws : List ℕ) (set : ℕ) (vs : List ℕ) (set' z : ℕ) → Read o k ws set → Read o k vs set' → HasZero z → (a b : List ℕ)
      → CompletesTo e o k ws set a → CompletesTo e o k vs set' b
      → (a ≡ b) ↔ ((us : List ℕ) → Joined o k (chosen set ws) us → Joined o k (chosen set' vs) us → SameFromKind e o k z (chosen set ws ++ us) (chosen set' vs ++ us))
  -- A T, an F and a U stay when links are joined.
  pub keeps : (o k : ℕ) (ws : List ℕ) (set z : ℕ) → HasZero z → (vs : List ℕ) → Joined o k (chosen set ws) vs
      → (y : ℕ) (m l : List ℕ) → KindMarks e o k ws set y m → KindMarks e o k (chosen set ws ++ vs) z y l
      → (x : ℕ) → x < o + k → (s : Sign) → At m (marker_to s) x → At l (marker_to s) x
  pub keeps_up : (o k : ℕ) (ws : List ℕ) (set z : ℕ) → HasZero z → (vs : List ℕ) → Joined o k (chosen set ws) vs
      → (y : ℕ) (m l : List ℕ) → KindMarks e o k ws set y m → KindMarks e o k (chosen set ws ++ vs) z y l
      → (x : ℕ) → Kind o k x → At m U x → At l U x
  -- Links of one object leave T and F of every other node as they were, and all U.
  pub others : (o k : ℕ) (ws : List ℕ) (set z : ℕ) → HasZero z → (vs : List ℕ) → Joined o k (chosen set ws) vs → (a : ℕ) → a < o → ((w : ℕ) → Memᴰ w vs → tail_of w ≡ a)
      → (y : ℕ) (m l : List ℕ) → KindMarks e o k ws set y m → KindMarks e o k (chosen set ws ++ vs) z y l
      → (x : ℕ) → x < o + k → (x ≡ a → ⊥) → (s : Sign) → At l (marker_to s) x ↔ At m (marker_to s) x
  pub others_up : (o k : ℕ) (ws : List ℕ) (set z : ℕ) → HasZero z → (vs : List ℕ) → Joined o k (chosen set ws) vs → (a : ℕ) → a < o → ((w : ℕ) → Memᴰ w vs → tail_of w ≡ a)
      → (y : ℕ) (m l : List ℕ) → KindMarks e o k ws set y m → KindMarks e o k (chosen set ws ++ vs) z y l
      → (x : ℕ) → Kind o k x → At l U x ↔ At m U x
