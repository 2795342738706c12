-- What is printed stands in front of the text; and fewer turns are to come after each.
use Prim.Native.Nat.{ℕ, ◌+◌, ◌-◌, ◌≤◌, ◌<◌}
use mathlib.Core.Path.{◌≡◌, refl, sym, ap, subst, ◌∙◌}
use mathlib.Core.Bool.{Bool, true, false, cond}
use mathlib.Core.List.{List}
use native.Mathlib.Omega.{arith}
use lib.ListN.{length, take, drop, length-append, length-take}
use Rattle.text_field.specs.Writing.{Wrote}
use Rattle.why_text.specs.Turns.{part_of, Turned}
use Rattle.why_text.specs.declared.Turn.{Turn}
use Rattle.why_text.proofs.Turns.{goes_on_below}

-- What was written is in front of the text, and all of it is there.
pub wrote_front : {ws l xs : List ℕ} {r : ℕ} → Wrote ws l xs r → (r ≤ length xs) × (r ≡ length (take r xs))
wrote_front {ws} {l} {xs} {r} w =
    let e = ap length w.list ∙ length-append ws (drop (length ws) l) in
    let f = w.size in
    (omega (arith, e, f), simp length-take (omega (arith, e, f)))

-- What is kept from turn to turn: the turn to come is below 8,192.
abbrev pub Below : Bool → ℕ → Type 0
Below going i = cond going i 0 < 8192

-- A turn that is to come is below that number,
pub turn_below : (going : Bool) (i : ℕ) → going ≡ true → Below going i → i < 8192
turn_below going i e h = subst (λ (b : Bool). Below b i) e h

-- so is the one after it, where there is one,
pub turn_made : (s l l' : List ℕ) (i : ℕ) {t : Turn} → Turned (part_of s i) l l' t → Below t.going (i + 1)
turn_made s l l' i {t} d = at t.going (λ e. goes_on_below s i (sym d.going ∙ e))
  where
    at : (going : Bool) → (going ≡ true → i + 1 < 8192) → Below going (i + 1)
    at true h = h refl
    at false h = omega arith

-- and fewer are left then.
pub fewer : (going next : Bool) (i : ℕ) → going ≡ true → Below going i → cond next (8192 - (i + 1)) 0 < cond going (8192 - i) 0
fewer going next i e h = let below = turn_below going i e h in rw e (at next below)
  where
    at : (next : Bool) → i < 8192 → cond next (8192 - (i + 1)) 0 < 8192 - i
    at true h = omega (arith, h)
    at false h = omega (arith, h)
