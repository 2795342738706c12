-- A proof as a list of numbers: contents first, then the steps, each before its left premise and that before the main one; the first step at fault.
use Rattle.std.specs.Prelude.{ℕ, zero, suc, ◌+◌, ◌*◌, ◌≤◌, ◌<◌, max, ◌≡◌, ◌⊎◌, length, drop}
use mathlib.Core.List.{List, [], ◌∷◌, ◌++◌, Memᴰ}
use Rattle.theory.specs.Words.{Sign, is, sign_number, word}
use Rattle.theory.specs.Nets.{Kind}
use Rattle.theory.specs.Sequents.{Individual, Fresh, LeftRule, →⊢, →⊢', ↛⊢, ↛⊢', uses, asks_kind, asks_sign, gives_kind, gives_sign, Proof, ax, right, left}

-- The number of each rule on the left. The axioms are 0 for → and 1 for ↛, the rules on the right 2 and 3.
abbrev pub rule_of : LeftRule → ℕ
rule_of →⊢ = 4
rule_of →⊢' = 5
rule_of ↛⊢ = 6
rule_of ↛⊢' = 7

-- The number of steps, which is that of sequents.
unfoldable pub proof_size : {o k : ℕ} {Γ : List ℕ} {x y : ℕ} {s : Sign} → Proof o k Γ x y s → ℕ
proof_size (ax i m) = 1
proof_size (right h f d) = suc (proof_size d)
proof_size (left r a p q i hp hq m d e) = suc (proof_size d + proof_size e)

-- The most sequents that stand one above another, left and main premises counted alike.
unfoldable pub proof_depth : {o k : ℕ} {Γ : List ℕ} {x y : ℕ} {s : Sign} → Proof o k Γ x y s → ℕ
proof_depth (ax i m) = 1
proof_depth (right h f d) = suc (proof_depth d)
proof_depth (left r a p q i hp hq m d e) = suc (max (proof_depth d) (proof_depth e))

-- The number of steps by a rule on the left, each of which begins a branch of its own: its left premise.
unfoldable pub left_steps : {o k : ℕ} {Γ : List ℕ} {x y : ℕ} {s : Sign} → Proof o k Γ x y s → ℕ
left_steps (ax i m) = 0
left_steps (right h f d) = left_steps d
left_steps (left r a p q i hp hq m d e) = suc (left_steps d + left_steps e)

-- The steps: rule, individual and link.
unfoldable pub proof_steps : {o k : ℕ} {Γ : List ℕ} {x y : ℕ} {s : Sign} → Proof o k Γ x y s → List ℕ
proof_steps (ax {a = a} {p = p} {s = s} i m) = sign_number s ∷ a ∷ word a p s ∷ []
proof_steps {o} {k} (right {p = p} {q = q} {s = s} h f d) = (2 + sign_number s) ∷ (o + k) ∷ word p q s ∷ proof_steps d
proof_steps (left r a p q i hp hq m d e) = rule_of r ∷ a ∷ word p q (uses r) ∷ (proof_steps d ++ proof_steps e)

-- Place and size of each left premise of a proof whose first step is step i, where step 0 stands at place b.
unfoldable pub proof_branches : {o k : ℕ} {Γ : List ℕ} {x y : ℕ} {s : Sign} → ℕ → ℕ → Proof o k Γ x y s → List ℕ
proof_branches b i (ax j m) = []
proof_branches b i (right h f d) = proof_branches b (suc i) d
proof_branches b i (left r a p q j hp hq m d e) = (b + 3 * suc i) ∷ proof_size d ∷ (proof_branches b (suc i) d ++ proof_branches b (suc i + proof_size d) e)

-- The list: how many branches, place and size of each, the whole proof first, then the steps.
unfoldable pub proof_file : {o k : ℕ} {Γ : List ℕ} {x y : ℕ} {s : Sign} → Proof o k Γ x y s → List ℕ
proof_file d =
    let n = suc (left_steps d) in
    let b = suc (2 * n) in
    n ∷ b ∷ proof_size d ∷ (proof_branches b 0 d ++ proof_steps d)

-- The most sequents one above another, and the most numbers in a list, whose places are u32.
abbrev pub depth_limit : ℕ
depth_limit = 255

abbrev pub list_limit : ℕ
list_limit = 4294967295

-- The list is a proof of x → y, or x ↛ y, from the words ws, within the limits.
pub record Proves (o k : ℕ) (ws : List ℕ) (x y : ℕ) (s : Sign) (l : List ℕ) : Type 0 where
  pub proof : Proof o k ws x y s
  pub shallow : proof_depth proof ≤ depth_limit
  pub short : length l ≤ list_limit
  pub form : l ≡ proof_file proof

-- ── a step at fault ──
-- The numbers r, a, w are a step under the sequent Γ ⊢ x → y, or x ↛ y: an axiom,
pub record AxiomStep (o k : ℕ) (Γ : List ℕ) (x y : ℕ) (s : Sign) (r a w : ℕ) : Type 0 where
  pub rule : r ≡ sign_number s
  pub individual : a ≡ x
  pub link : w ≡ word x y s
  pub one : Individual o k x
  pub listed : Memᴰ (word x y s) Γ

-- by a rule on the right,
pub record RightStep (o k : ℕ) (Γ : List ℕ) (x y : ℕ) (s : Sign) (r a w : ℕ) : Type 0 where
  pub rule : r ≡ 2 + sign_number s
  pub individual : a ≡ o + k
  pub link : w ≡ word x y s
  pub kind : Kind o k x
  pub fresh : Fresh (o + k) Γ

-- or by a rule on the left.
pub record LeftStep (o k : ℕ) (Γ : List ℕ) (r a w : ℕ) : Type 0 where
  pub which : LeftRule
  pub tail : ℕ
  pub head : ℕ
  pub rule : r ≡ rule_of which
  pub link : w ≡ word tail head (uses which)
  pub one : Individual o k a
  pub low : Kind o k tail
  pub high : Kind o k head
  pub listed : Memᴰ (word tail head (uses which)) Γ

abbrev pub ByRule : ℕ → ℕ → List ℕ → ℕ → ℕ → Sign → ℕ → ℕ → ℕ → Type 0
ByRule o k Γ x y s r a w = AxiomStep o k Γ x y s r a w ⊎ (RightStep o k Γ x y s r a w ⊎ LeftStep o k Γ r a w)

-- The list begins like the steps of a proof of Γ ⊢ x → y, or x ↛ y, with at most d sequents one above another, up to step i, which is the first at fault.
pub data Faulty (o k : ℕ) : ℕ → List ℕ → ℕ → ℕ → Sign → List ℕ → ℕ → Type 0 where
  -- the step's sequent is one too many on the way up to it
  deep : {Γ : List ℕ} {x y : ℕ} {s : Sign} {r a w : ℕ} {l : List ℕ} → Faulty o k zero Γ x y s (r ∷ a ∷ w ∷ l) 0
  -- the step is by no rule
  broken : {d : ℕ} {Γ : List ℕ} {x y : ℕ} {s : Sign} {r a w : ℕ} {l : List ℕ} → (ByRule o k Γ x y s r a w → ⊥) → Faulty o k (suc d) Γ x y s (r ∷ a ∷ w ∷ l) 0
  -- the fault is above a step by a rule on the right,
  in_right : {d : ℕ} {Γ : List ℕ} {x y : ℕ} {s : Sign} {r a w i : ℕ} {l : List ℕ} → RightStep o k Γ x y s r a w → Faulty o k d (word (o + k) x is ∷ Γ) (o + k) y s l i
      → Faulty o k (suc d) Γ x y s (r ∷ a ∷ w ∷ l) (suc i)
  -- in the left premise of a rule on the left,
  in_left : {d : ℕ} {Γ : List ℕ} {x y : ℕ} {s : Sign} {r a w i : ℕ} {l : List ℕ} (c : LeftStep o k Γ r a w)
      → Faulty o k d Γ a (asks_kind c.which c.tail c.head) (asks_sign c.which) l i → Faulty o k (suc d) Γ x y s (r ∷ a ∷ w ∷ l) (suc i)
  -- or in its main premise, behind a left one that is proved.
  in_main : {d : ℕ} {Γ : List ℕ} {x y : ℕ} {s : Sign} {r a w i : ℕ} {l m : List ℕ} (c : LeftStep o k Γ r a w) (p : Proof o k Γ a (asks_kind c.which c.tail c.head) (asks_sign c.which))
      → proof_depth p ≤ d → l ≡ proof_steps p ++ m → Faulty o k d (word a (gives_kind c.which c.tail c.head) (gives_sign c.which) ∷ Γ) x y s m i
      → Faulty o k (suc d) Γ x y s (r ∷ a ∷ w ∷ l) (suc (proof_size p + i))

-- Step i of the list is the first at fault: the list is not too long, says that it has branches, has their contents, and the steps begin behind them.
pub record FaultAt (o k : ℕ) (ws : List ℕ) (x y : ℕ) (s : Sign) (l : List ℕ) (i : ℕ) : Type 0 where
  pub count : ℕ
  pub rest : List ℕ
  pub form : l ≡ count ∷ rest
  pub some : 0 < count
  pub room : suc (2 * count) ≤ length l
  pub short : length l ≤ list_limit
  pub fault : Faulty o k depth_limit ws x y s (drop (suc (2 * count)) l) i
