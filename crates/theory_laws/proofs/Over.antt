-- Laws of a list that is written over from its front: how one value more, or a part lent from the seam on, extends what is written.
use Prim.Native.Nat.{ℕ, ◌+◌, ◌≤◌, ◌<◌, ◌-◌}
use mathlib.Core.Path.{◌≡◌, refl, sym, ap, ◌∙◌}
use mathlib.Core.List.{List, [], ◌∷◌, ◌++◌, append_assoc, append-nil}
use native.Mathlib.Omega.{arith}
use native.Mathlib.Numerals.{add-one}
use lib.ListN.{length, take, drop, set, length-append, length-drop, drop_of_length-le}
use lib.Seq.{drop-cons, set-append_seam, take-append_seam, drop-append_seam, take_all, drop-drop}
use Rattle.theory_laws.specs.Over.{over}

-- Where ws fits, the length stays.
pub length_over : (ws l : List ℕ) → length ws ≤ length l → length (over ws l) ≡ length l
length_over ws l h = simp (length-append, length-drop) (omega arith)

-- One value, or two, over the front of a list.
pub put_one : (l : List ℕ) (v : ℕ) → 1 ≤ length l → set l 0 v ≡ over (v ∷ []) l
put_one [] v h = absurd (omega arith)
put_one (a ∷ l) v h = refl

pub put_two : (l : List ℕ) (v w : ℕ) → 2 ≤ length l → set (set l 0 v) 1 w ≡ over (v ∷ w ∷ []) l
put_two [] v w h = absurd (omega arith)
put_two (a ∷ []) v w h = absurd (omega arith)
put_two (a ∷ b ∷ l) v w h = refl

-- One value stored at the seam.
pub over_one : (ws l : List ℕ) (v i : ℕ) → length ws ≡ i → i < length l → set (over ws l) i v ≡ over (ws ++ v ∷ []) l
over_one ws l v i e h =
    let g : length ws < length l = omega arith in
    rw (← e) (simp (drop-cons l (length ws) 0 g, set-append_seam, length-append, append_assoc, add-one))

lent : (ws vs l : List ℕ) → length ws ≤ length l
    → take (length ws) (over ws l)
    ++ (over vs (take (length (over ws l) - length ws) (drop (length ws) (over ws l))) ++ drop (length (over ws l) - length ws) (drop (length ws) (over ws l)))
    ≡ over (ws ++ vs) l
lent ws vs l h =
    let e : length (over ws l) ≡ length l = length_over ws l h in
    let f : length (drop (length ws) l) ≤ length l - length ws = simp length-drop (omega arith) in
    simp (e, take-append_seam, drop-append_seam, take_all (length l - length ws) (drop (length ws) l) f, drop_of_length-le (drop (length ws) l) f, append-nil, append_assoc, drop-drop, length-append)

-- What comes back of xs, which is l with ws in front, when its part from the seam on was lent and came back with vs in front.
pub over_more : (ws vs l xs ys : List ℕ) (at : ℕ) → length ws ≡ at → at ≤ length l → xs ≡ over ws l → ys ≡ over vs (take (length xs - at) (drop at xs))
    → take at xs ++ (ys ++ drop (length xs - at) (drop at xs)) ≡ over (ws ++ vs) l
over_more ws vs l xs ys at e h ex ey = simp (ey, ex, ← e) (lent ws vs l (omega arith))

-- A part more, written into what remains of the list l, where `done` stands in front of it already.
pub written_more : (done part next l xs ys : List ℕ) (at size : ℕ) → next ≡ done ++ part → length done + length part ≤ length l → at ≡ length done → xs ≡ over done l
    → size ≡ length part → ys ≡ over part (take (length xs - at) (drop at xs))
    → let out = take at xs ++ (ys ++ drop (length xs - at) (drop at xs)) in (length out ≡ length l) × (at + size ≡ length next) × (out ≡ over next l)
written_more done part next l xs ys at size n h a x s y =
    let both : length next ≡ length done + length part = ap length n ∙ length-append done part in
    let e = over_more done part l xs ys at (sym a) (omega (arith, a)) x y ∙ ap (λ (q : List ℕ). over q l) (sym n) in
    (ap length e ∙ length_over next l (omega (arith, both)), omega (arith, both), e)
