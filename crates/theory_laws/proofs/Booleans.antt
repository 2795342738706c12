-- Laws of truth values.
use Prim.Native.Nat.{ℕ}
use mathlib.Core.Path.{◌≡◌, refl}
use mathlib.Core.Bool.{Bool, true, false, cond, not, ◌&&◌, ◌||◌}
use native.Mathlib.Omega.{arith}

-- False is not true.
pub contradiction : {A : Type 0} → ◌≡◌ {A = Bool} false true → A
contradiction e = let z : ◌≡◌ {A = ℕ} 0 1 = cc in absurd (omega arith)

pub and_left : (p q : Bool) → (p && q) ≡ true → p ≡ true
and_left true q h = refl
and_left false q h = h

pub and_right : (p q : Bool) → (p && q) ≡ true → q ≡ true
and_right true q h = h
and_right false q h = let z : ◌≡◌ {A = ℕ} 0 1 = cc in absurd (omega arith)

pub and_both : (p q : Bool) → p ≡ true → q ≡ true → (p && q) ≡ true
and_both p q e f = rw (e, f)

pub and_true : (p : Bool) → (p && true) ≡ p
and_true true = refl
and_true false = refl

pub and_false : (p : Bool) → (p && false) ≡ false
and_false true = refl
and_false false = refl

pub and_assoc : (p q r : Bool) → ((p && q) && r) ≡ (p && (q && r))
and_assoc true q r = refl
and_assoc false q r = refl

pub or_true : (p : Bool) → (p || true) ≡ true
or_true true = refl
or_true false = refl

pub or_false : (p : Bool) → (p || false) ≡ p
or_false true = refl
or_false false = refl

pub or_assoc : (p q r : Bool) → ((p || q) || r) ≡ (p || (q || r))
or_assoc true q r = refl
or_assoc false q r = refl

-- One of two.
pub or_split : {A : Type 0} (p q : Bool) → (p || q) ≡ true → (p ≡ true → A) → (q ≡ true → A) → A
or_split true q h f g = f refl
or_split false q h f g = g h

-- Neither of two.
pub or_none_left : (p q : Bool) → (p || q) ≡ false → p ≡ false
or_none_left true q h = h
or_none_left false q h = refl

pub or_none_right : (p q : Bool) → (p || q) ≡ false → q ≡ false
or_none_right true q h = contradiction (rw h refl)
or_none_right false q h = h

pub neither : (p q : Bool) → not (p || q) ≡ (not p && not q)
neither true q = refl
neither false q = refl

pub not_not : (p : Bool) → not (not p) ≡ p
not_not true = refl
not_not false = refl

-- A choice between one thing and itself.
pub cond_same : {A : Type 0} (p : Bool) (a : A) → cond p a a ≡ a
cond_same true a = refl
cond_same false a = refl

-- What is not true is false.
pub not_so : (p : Bool) → (p ≡ true → ⊥) → p ≡ false
not_so true h = absurd (h refl)
not_so false h = refl

-- Two tests that imply each other are the same.
pub same_test : (p q : Bool) → (p ≡ true → q ≡ true) → (q ≡ true → p ≡ true) → p ≡ q
same_test true true f g = refl
same_test true false f g = contradiction (f refl)
same_test false true f g = contradiction (g refl)
same_test false false f g = refl
