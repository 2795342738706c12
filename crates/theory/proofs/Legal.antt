-- Legal sets of statements: what the proofs ask of a net's links.
use Prim.Native.Nat.{ℕ, ◌+◌, ◌<◌}
use mathlib.Core.Path.{subst}
use mathlib.Core.List.{List}
use Rattle.theory.specs.Words.{Sign}
use Rattle.theory.specs.Nets.{Kind, Statements, Links, LegalWords}

-- The same as `LegalWords` of a set of statements: tails are nodes and heads kinds.
pub record Legal (o k : ℕ) (L : Statements) : Type 0 where
  pub tail : (x y : ℕ) (s : Sign) → L x y s → x < o + k
  pub head : (x y : ℕ) (s : Sign) → L x y s → Kind o k y

-- The statements of legal words are legal.
pub legal_links : (o k : ℕ) (ws : List ℕ) → LegalWords o k ws → Legal o k (Links ws)
legal_links o k ws l = record {
  tail = λ x y s h. rw (← h.tail) (l h.it h.listed).tail;
  head = λ x y s h. subst (Kind o k) h.head (l h.it h.listed).head;
}
