-- The reply tells which refusal it is.
use Rattle.std.specs.Prelude.{Err, Ok}
use Prim.Native.Nat.{ℕ, zero, suc, ◌-◌, ◌<◌}
use mathlib.Core.Path.{◌≡◌, refl, sym, ap, ◌∙◌}
use mathlib.Core.Bool.{Bool, true, false, cond, ◌&&◌, ◌||◌}
use native.Mathlib.Omega.{arith}
use borrow.Author.Tests.{ne_eqb}
use lib.Dec.{eqb, ltb}
use Rattle.theory_laws.proofs.Booleans.{contradiction}
use Rattle.net_word.specs.declared.Cause.{Cause}
use Rattle.net_word.specs.declared.Cause.TheVariants.{Tail, Head, Origin}
use Rattle.net.specs.Table.{Reply, refusal_reply, checked_reply}
use Rattle.net.specs.Table.{Checked}
use Rattle.net.specs.declared.Refusal.{Refusal}
use Rattle.net.specs.declared.Refusal.TheVariants.{TooManyNodes, TooManyWords, IllegalWord, BadQuestion, ShortBuffer, BadSet}

-- The cause of a number.
abbrev cause_at : ℕ → Cause
cause_at n = cond (eqb n 1) Tail (cond (eqb n 2) Head Origin)

-- The refusal of a number less one, and of the reply in which it stands.
abbrev refusal_of : ℕ → Reply → Refusal
refusal_of zero r = TooManyNodes
refusal_of (suc zero) r = TooManyWords
refusal_of (suc (suc zero)) r = IllegalWord r.first (cause_at r.second)
refusal_of (suc (suc (suc zero))) r = BadQuestion
refusal_of (suc (suc (suc (suc n)))) r = ShortBuffer

-- The refusal of a reply.
abbrev pub refusal_at : Reply → Refusal
refusal_at r = cond (eqb r.number 15) BadSet (refusal_of (r.number - 1) r)

-- The numbers of the refusals: 1 to 5, and 15.
abbrev pub refuses : ℕ → Bool
refuses n = (ltb 0 n && ltb n 6) || eqb n 15

-- The reply tells the refusal, and has one of these numbers.
reply_tells : (r : Refusal) → (refusal_at (refusal_reply r) ≡ r) × (refuses (refusal_reply r).number ≡ true) × (0 < (refusal_reply r).number) × ((refusal_reply r).number < 16)
reply_tells TooManyNodes = (refl, refl, omega arith, omega arith)
reply_tells TooManyWords = (refl, refl, omega arith, omega arith)
reply_tells (IllegalWord i Tail) = (refl, refl, omega arith, omega arith)
reply_tells (IllegalWord i Head) = (refl, refl, omega arith, omega arith)
reply_tells (IllegalWord i Origin) = (refl, refl, omega arith, omega arith)
reply_tells BadQuestion = (refl, refl, omega arith, omega arith)
reply_tells ShortBuffer = (refl, refl, omega arith, omega arith)
reply_tells BadSet = (refl, refl, omega arith, omega arith)

pub refusal_at_reply : (r : Refusal) → refusal_at (refusal_reply r) ≡ r
refusal_at_reply r = (reply_tells r).0

pub refusal_numbers : (r : Refusal) → (0 < (refusal_reply r).number) × ((refusal_reply r).number < 16)
refusal_numbers r = ((reply_tells r).2, (reply_tells r).3)

-- No two refusals have one reply.
pub refusal_reply_one_to_one : (r q : Refusal) → refusal_reply r ≡ refusal_reply q → r ≡ q
refusal_reply_one_to_one r q e = sym (refusal_at_reply r) ∙ ap refusal_at e ∙ refusal_at_reply q

-- A refusal has no other number.
pub refusal_not : (r : Refusal) (n : ℕ) → refuses n ≡ false → eqb (refusal_reply r).number n ≡ false
refusal_not r n h = ne_eqb (refusal_reply r).number n (λ (e : (refusal_reply r).number ≡ n). contradiction (sym h ∙ sym (ap refuses e) ∙ (reply_tells r).1))

-- The answer of the check of a net.
abbrev checked_at : Reply → Checked
checked_at r = cond (eqb r.number 0) (Ok r.first) (Err (refusal_at r))

checked_at_reply : (c : Checked) → checked_at (checked_reply c) ≡ c
checked_at_reply (Ok n) = refl
checked_at_reply (Err r) = rw (refusal_not r 0 refl, refusal_at_reply r)

-- No two answers of the check of a net have one reply.
pub checked_reply_one_to_one : (c d : Checked) → checked_reply c ≡ checked_reply d → c ≡ d
checked_reply_one_to_one c d e = sym (checked_at_reply c) ∙ ap checked_at e ∙ checked_at_reply d

-- Equal answers have one reply, where f gives the replies.
pub carry_reply : {A : Type 0} (f : A → Reply) {a v : A} {r : Reply} → a ≡ v → r ≡ f v → r ≡ f a
carry_reply f e h = h ∙ sym (ap f e)
