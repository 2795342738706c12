-- What the links reach: up over → links, over a crossing, and down again; a statement is supported exactly if it is reached.
use Prim.Native.Nat.{ℕ, ◌<◌}
use mathlib.Core.Path.{◌≡◌, refl, subst, sym}
use mathlib.Core.Logic.{◌⊎◌, inl, inr, ◌↔◌, ⊎_swap}
use native.Mathlib.Omega.{arith}
use native.Mathlib.Decide.{dec_lt}
use Rattle.theory.specs.Words.{Sign, is, isnt}
use Rattle.theory.specs.Nets.{Statements, Kind}
use Rattle.theory.specs.Support.{Closed, Supported, linked, r1, r2, r3, r4, r5}
use Rattle.theory.specs.Paths.{Crossing}
use Rattle.theory.proofs.Legal.{Legal}
use Rattle.theory.proofs.support.Smallest.{smallest}

-- x reaches y over → links, in any number of steps, none included.
pub data Up (L : Statements) (y : ℕ) : ℕ → Type 0 where
  here : {x : ℕ} → x ≡ y → Up L y x
  step : {x z : ℕ} → L x z is → Up L y z → Up L y x

-- Up from x, over a crossing, and down to y.
pub record Apart (L : Statements) (x y : ℕ) : Type 0 where
  pub left : ℕ
  pub right : ℕ
  pub first : Up L left x
  pub cross : Crossing L left right
  pub second : Up L right y

-- What the links reach from x, at a kind y.
abbrev pub Reached : ℕ → ℕ → Statements → Statements
Reached o k L x y is = Up L y x × Kind o k y
Reached o k L x y isnt = Apart L x y × Kind o k y

pub trans : {L : Statements} {y x z : ℕ} → Up L y x → Up L z y → Up L z x
trans {L} {z} (here e) v = subst (λ (w : ℕ). Up L z w) (sym e) v
trans (step l u) v = step l (trans u v)

pub turn : {L : Statements} {x y : ℕ} → Apart L x y → Apart L y x
turn n = record { left = n.right; right = n.left; first = n.second; cross = ⊎_swap n.cross; second = n.first }

pub before : {L : Statements} {x z y : ℕ} → Up L z x → Apart L z y → Apart L x y
before a n = record { left = n.left; right = n.right; first = trans a n.first; cross = n.cross; second = n.second }

pub behind : {L : Statements} {x z y : ℕ} → Up L z y → Apart L x z → Apart L x y
behind a n = turn (before a (turn n))

module _ (o k : ℕ) (L : Statements) (legal : Legal o k L) where
  pub after_link : {y z : ℕ} → Kind o k z → (z ≡ y) ⊎ Kind o k y → Kind o k y
  after_link h (inl e) = subst (λ (w : ℕ). Kind o k w) e h
  after_link h (inr g) = g

  -- what is reached is the start or a kind
  pub ends_in : {y x : ℕ} → Up L y x → (x ≡ y) ⊎ Kind o k y
  ends_in (here e) = inl e
  ends_in (step {x = x} {z = z} l u) = inr (after_link (legal.head x z is l) (ends_in u))

  link_reached : (x y : ℕ) (s : Sign) → L x y s → Reached o k L x y s
  link_reached x y is l = (step l (here refl), legal.head x y is l)
  link_reached x y isnt l = (record { left = x; right = y; first = here refl; cross = inl l; second = here refl }, legal.head x y isnt l)

  reached_closed : Closed o k L (Reached o k L)
  reached_closed = record {
    links = λ {x} {y} {s}. link_reached x y s;
    r1 = λ h. (here refl, h);
    r2 = λ q r a b. (trans a.0 b.0, r);
    r3 = λ p q a. (turn a.0, p);
    r4 = λ q r a b. (before a.0 b.0, r);
    r5 = λ p q h a b. (behind a.0 b.0, p);
  }

  pub supported_reached : {x y : ℕ} {s : Sign} → Supported o k L x y s → Reached o k L x y s
  supported_reached = smallest o k L (Reached o k L) reached_closed

  up_supported : {y x : ℕ} → Up L y x → Kind o k y → Supported o k L x y is
  up_supported {y} (here e) h = subst (λ (w : ℕ). Supported o k L w y is) (sym e) (r1 h)
  up_supported (step {x = x} {z = z} l u) h = r2 (legal.head x z is l) h (linked l) (up_supported u h)

  -- a kind at either end: all of the first part stands behind it
  both_kinds : {x u v y : ℕ} → Up L u x → Supported o k L u v isnt → Up L v y → Kind o k u → Kind o k v → Kind o k y → Supported o k L x y isnt
  both_kinds a c b hu hv hy = r4 hu hy (up_supported a hu) (r3 hy hu (r4 hv hu (up_supported b hv) (r3 hu hv c)))

  from_object : {x u v y : ℕ} → Up L u x → L u v isnt → Up L v y → u < o → Kind o k v → Kind o k y → (x ≡ u) ⊎ Kind o k u → Supported o k L x y isnt
  from_object {y} a c b h hv hy (inl e) = subst (λ (w : ℕ). Supported o k L w y isnt) (sym e) (r5 hy hv h (up_supported b hv) (linked c))
  from_object a c b h hv hy (inr g) = absurd (omega arith)

  forwards : {x u v y : ℕ} → Up L u x → L u v isnt → Up L v y → Kind o k y → Dec (u < o) → Supported o k L x y isnt
  forwards {u} {v} a c b hy (yes h) = from_object a c b h (legal.head u v isnt c) hy (ends_in a)
  forwards {u} {v} a c b hy (no h) = both_kinds a (linked c) b (record { low = omega arith; high = legal.tail u v isnt c }) (legal.head u v isnt c) hy

  apart_supported : {x u v y : ℕ} → Up L u x → Crossing L u v → Up L v y → Kind o k y → Supported o k L x y isnt
  apart_supported {u} a (inl c) b hy = forwards a c b hy (dec_lt u o)
  apart_supported {u} {v} a (inr c) b hy =
      let hu : Kind o k u = legal.head v u isnt c in
      let hv : Kind o k v = after_link hy (ends_in b) in
      both_kinds a (r3 hv hu (linked c)) b hu hv hy

  pub reached_supported : (x y : ℕ) (s : Sign) → Reached o k L x y s → Supported o k L x y s
  reached_supported x y is p = up_supported p.0 p.1
  reached_supported x y isnt p = apart_supported p.0.first p.0.cross p.0.second p.1

  pub supported_is_reached : (x y : ℕ) (s : Sign) → Supported o k L x y s ↔ Reached o k L x y s
  supported_is_reached x y s = (supported_reached, reached_supported x y s)
