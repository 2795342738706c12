-- Numbers 7, 8 and 0 over places that are found, in the terms of the code.
use Rattle.reason.specs.declared.ReasonError.TheVariants.{Short, Unsupported}
use Rattle.std.specs.Prelude.{Err, Ok}
use Prim.Native.Nat.{ℕ, suc, ◌+◌, ◌-◌, ◌≤◌, ◌<◌}
use mathlib.Core.Path.{◌≡◌, refl, sym, ap, ◌∙◌}
use mathlib.Core.Bool.{false}
use mathlib.Core.List.{List, [], ◌∷◌, ◌++◌, map, append-nil}
use native.Mathlib.Omega.{arith}
use borrow.Author.Tests.{eq-eqb, ne_eqb, lt-ltb, le-ltb}
use lib.Dec.{eqb}
use lib.ListN.{length, get_or, set, take, drop, length-drop, drop_of_length-le}
use lib.Seq.{take_all, drop_at, drop-drop, length-take-le}
use Rattle.theory.specs.Words.{Sign}
use Rattle.theory.specs.Reasons.{never}
use Rattle.theory.specs.Searches.{firsts, node_of, reason_list}
use Rattle.theory.proofs.reason.Best.{descend_length}
use Rattle.reason_search.proofs.Opening.{at_place}
use Rattle.reason_walk.specs.Walk.{states_from}
use Rattle.reason_walk.proofs.Nearer.{part_small}
use Rattle.reason.specs.Table.{reason_outcome}
use Rattle.reason.specs.Searched.{reason_from}

map_length : (f : ℕ → ℕ) (p : List ℕ) → length (map f p) ≡ length p
map_length f [] = refl
map_length f (v ∷ p) = ap suc (map_length f p)

firsts_most : (n : ℕ) (p : List ℕ) → firsts n p ≤ length p
unfolding firsts
firsts_most n [] = omega arith
firsts_most n (v ∷ p) = omega (arith, part_small n v, firsts_most n p)

list_is : (n x : ℕ) (p : List ℕ) → reason_list n x p ≡ suc (firsts n p) ∷ (length p - firsts n p) ∷ x ∷ map (node_of n) p
unfolding reason_list
list_is n x p = refl

-- The three places in front are written.
pub headed : (a b x : ℕ) (l : List ℕ) → 3 ≤ length l → set (set (set l 0 a) 1 b) 2 x ≡ a ∷ b ∷ x ∷ drop 3 l
headed a b x [] h = absurd (omega arith)
headed a b x (u ∷ []) h = absurd (omega arith)
headed a b x (u ∷ v ∷ []) h = absurd (omega arith)
headed a b x (u ∷ v ∷ w ∷ l) h = refl

-- What stands after three places, once the rest of the list was lent and came back as ys.
lent_rest : (l p : List ℕ) (far : ℕ) {ys : List ℕ} → 3 ≤ length l → ys ≡ p ++ drop far (take (length l - 3) (drop 3 l))
    → drop 3 (take 3 l ++ (ys ++ drop (length l - 3) (drop 3 l))) ≡ p ++ drop (3 + far) l
lent_rest l p far h e =
    let m : length (drop 3 l) ≤ length l - 3 = simp length-drop (omega arith) in
    let a = drop_at (take 3 l) (p ++ drop far (drop 3 l)) 3 (length-take-le 3 l h) in
    rw (e, take_all (length l - 3) (drop 3 l) m, drop_of_length-le (drop 3 l) m, append-nil (p ++ drop far (drop 3 l)), a, drop-drop far 3 l)

-- The rest that is lent has room for what stands after three places.
pub rest_room : (l : List ℕ) (far : ℕ) → 3 + far ≤ length l → far ≤ length (take (length l - 3) (drop 3 l))
rest_room l far h =
    let m : length (drop 3 l) ≡ length l - 3 = length-drop 3 l in
    rw (take_all (length l - 3) (drop 3 l) (omega arith)) (omega arith)

module _ (n : ℕ) (s : Sign) (ws : List ℕ) (x : ℕ) (d l : List ℕ) (inside : x < length d) where
  abbrev states : List ℕ
  states = states_from n s ws x d

  same_place : get_or d x never ≡ get_or d x 0
  same_place = at_place d x never 0 inside

  length_states : length states ≡ get_or d x never
  length_states = descend_length _ d (n + n) x (get_or d x never)

  -- No more states stand in the first part than there are.
  pub count_most : {count : ℕ} → count ≡ firsts n states → count ≤ get_or d x 0
  count_most e = omega (arith, firsts_most n states, length_states, same_place)

  all_length : length (reason_list n x states) ≡ 3 + get_or d x 0
  all_length = ap length (list_is n x states) ∙ omega (arith, map_length (node_of n) states, length_states, same_place)

  -- Number 7.
  pub from_unsupported : get_or d x 0 ≡ never → (past : List ℕ) → reason_outcome (Err Unsupported) past l ≡ reason_from n s ws x d past l
  from_unsupported e past = rw (eq-eqb (get_or d x never) never (same_place ∙ e))

  module _ (found : get_or d x 0 ≡ never → ⊥) where
    not_never : eqb (get_or d x never) never ≡ false
    not_never = ne_eqb (get_or d x never) never (λ (e : get_or d x never ≡ never). found (sym same_place ∙ e))

    -- Number 8.
    pub from_short : length l < 3 + get_or d x 0 → (past : List ℕ) → reason_outcome (Err (Short (3 + get_or d x 0))) past l ≡ reason_from n s ws x d past l
    from_short h past = rw (not_never, all_length, lt-ltb (length l) (3 + get_or d x 0) h)

    all_is : (count : ℕ) → count ≡ firsts n states → reason_list n x states ≡ (1 + count) ∷ (get_or d x 0 - count) ∷ x ∷ map (node_of n) states
    all_is count e =
        let a : suc (firsts n states) ≡ 1 + count = omega arith in
        let b : length states - firsts n states ≡ get_or d x 0 - count = omega (arith, length_states, same_place) in
        list_is n x states ∙ cc

    -- Number 0: the count of the first part, the lent rest of the list that came back, and the places in front.
    pub from_done : {count : ℕ} {ys r : List ℕ} → 3 + get_or d x 0 ≤ length l → count ≡ firsts n states
        → ys ≡ map (node_of n) states ++ drop (get_or d x never) (take (length l - 3) (drop 3 l))
        → r ≡ (1 + count) ∷ (get_or d x 0 - count) ∷ x ∷ drop 3 (take 3 l ++ (ys ++ drop (length l - 3) (drop 3 l)))
        → (past : List ℕ) → reason_outcome (Ok (3 + get_or d x 0)) past r ≡ reason_from n s ws x d past l
    from_done {count} {ys} {r} h e f g past =
        let rest : drop 3 (take 3 l ++ (ys ++ drop (length l - 3) (drop 3 l))) ≡ map (node_of n) states ++ drop (3 + get_or d x 0) l
        = lent_rest l (map (node_of n) states) (get_or d x never) (omega arith) f ∙ rw same_place refl in
        let whole : reason_list n x states ++ drop (3 + get_or d x 0) l ≡ (1 + count) ∷ (get_or d x 0 - count) ∷ x ∷ (map (node_of n) states ++ drop (3 + get_or d x 0) l)
        = ap (λ (t : List ℕ). t ++ drop (3 + get_or d x 0) l) (all_is count e) in
        let q : r ≡ reason_list n x states ++ drop (3 + get_or d x 0) l = cc in
        rw (not_never, all_length, le-ltb (length l) (3 + get_or d x 0) h, q)
