-- The sequent calculus of section 4 of the report: what Γ ⊢ x → y and Γ ⊢ x ↛ y mean, Γ being a list of words.
use Rattle.std.specs.Prelude.{ℕ, ◌+◌, ◌<◌, ◌≡◌, ◌⊎◌}
use mathlib.Core.List.{List, ◌∷◌, Memᴰ}
use Rattle.theory.specs.Words.{Sign, is, isnt, word, tail_of}
use Rattle.theory.specs.Nets.{Kind}

-- An individual: an object, or node N, which stands for the fresh object.
abbrev pub Individual : ℕ → ℕ → ℕ → Type 0
Individual o k a = (a < o) ⊎ (a ≡ o + k)

-- Nothing in Γ is about node n.
abbrev pub Fresh : ℕ → List ℕ → Type 0
Fresh n Γ = (w : ℕ) → Memᴰ w Γ → tail_of w ≡ n → ⊥

-- The four rules on the left.
pub data LeftRule : Type 0 where
  →⊢ →⊢' ↛⊢ ↛⊢' : LeftRule

-- The link p → q or p ↛ q that a rule on the left uses,
abbrev pub uses : LeftRule → Sign
uses →⊢ = is
uses →⊢' = is
uses ↛⊢ = isnt
uses ↛⊢' = isnt

-- what its left premise says of the individual,
abbrev pub asks_kind : LeftRule → ℕ → ℕ → ℕ
asks_kind →⊢ p q = p
asks_kind →⊢' p q = q
asks_kind ↛⊢ p q = p
asks_kind ↛⊢' p q = q

abbrev pub asks_sign : LeftRule → Sign
asks_sign →⊢ = is
asks_sign →⊢' = isnt
asks_sign ↛⊢ = is
asks_sign ↛⊢' = is

-- and what its main premise may use besides.
abbrev pub gives_kind : LeftRule → ℕ → ℕ → ℕ
gives_kind →⊢ p q = q
gives_kind →⊢' p q = p
gives_kind ↛⊢ p q = q
gives_kind ↛⊢' p q = p

abbrev pub gives_sign : LeftRule → Sign
gives_sign →⊢ = is
gives_sign →⊢' = isnt
gives_sign ↛⊢ = isnt
gives_sign ↛⊢' = isnt

-- The proofs of Γ ⊢ x → y, or x ↛ y. A word of Γ may be used any number of times. A link between kinds is no axiom, and an object's link is not used by a
-- rule on the left. That the heads p of `ax` and q of `right` are kinds is not asked here: theorems about what a proof
-- shows ask it of the statement.
pub data Proof (o k : ℕ) : List ℕ → ℕ → ℕ → Sign → Type 0 where
  -- Γ ⊢ a → p if a → p is in Γ; the same for ↛
  ax : {Γ : List ℕ} {a p : ℕ} {s : Sign} → Individual o k a → Memᴰ (word a p s) Γ → Proof o k Γ a p s
  -- ⊢→ and ⊢↛: from Γ, N → p ⊢ N → q, where Γ says nothing of N, p → q; the same for ↛
  right : {Γ : List ℕ} {p q : ℕ} {s : Sign} → Kind o k p → Fresh (o + k) Γ → Proof o k (word (o + k) p is ∷ Γ) (o + k) q s → Proof o k Γ p q s
  -- the left premise, then the main one
  left : {Γ : List ℕ} {x y : ℕ} {s : Sign} (r : LeftRule) (a p q : ℕ) → Individual o k a → Kind o k p → Kind o k q → Memᴰ (word p q (uses r)) Γ
      → Proof o k Γ a (asks_kind r p q) (asks_sign r) → Proof o k (word a (gives_kind r p q) (gives_sign r) ∷ Γ) x y s → Proof o k Γ x y s
