-- What the clash test finds: the smallest clash of the net, or nothing exactly if no node clashes.
use Prim.Native.Nat.{ℕ, zero, suc, ◌+◌, ◌≤◌, ◌<◌}
use mathlib.Core.Path.{◌≡◌, refl, sym, ap, ◌∙◌}
use mathlib.Core.Bool.{Bool, true, false, cond, ◌&&◌}
use mathlib.Core.List.{List}
use mathlib.Core.Logic.{◌↔◌}
use native.Mathlib.Omega.{arith}
use native.Mathlib.Decide.{dec_lt, ℕ_discrete}
use lib.Dec.{ltb}
use lib.ListN.{get_or}
use borrow.Author.Tests.{ltb-true, ltb-false}
use Rattle.std.specs.Prelude.{None, Ok, Some}
use Rattle.theory_laws.proofs.Booleans.{contradiction, and_left, and_right, and_both}
use Rattle.theory.specs.Words.{is, isnt}
use Rattle.theory.specs.Nets.{Kind, Net}
use Rattle.theory.specs.Marks.{says_yes, says_no}
use Rattle.theory.specs.Completion.{full_marks}
use Rattle.theory.proofs.completion.Completing.{full_exact}
use Rattle.clash.specs.Table.{clash_nodes, first_both, first_clash, clash_search, nowhere as isNowhere, clashed_reply, Clashed}
use Rattle.theory.specs.Clashes.{ClashAt, SmallestClash}
use Rattle.theory.proofs.mending.Computing.{smallest_unique}

-- Both marks at y.
abbrev both : List ℕ → ℕ → Bool
both m y = says_yes (get_or m y 0) && says_no (get_or m y 0)

-- The search along j kinds from y on came to r.
record Came (m : List ℕ) (y j r : ℕ) : Type 0 where
  low : y ≤ r
  high : r ≤ y + j
  found : r < y + j → both m r ≡ true
  before : (v : ℕ) → y ≤ v → v < r → both m v ≡ false

came : (m : List ℕ) (y j : ℕ) → Came m y j (first_both m y j)
unfolding first_both
came m y zero = record { low = omega arith; high = omega arith; found = λ h. absurd (omega arith); before = λ v a b. absurd (omega arith) }
came m y (suc j) = at (both m y) refl (came m (suc y) j)
  where
    at : (q : Bool) → both m y ≡ q → Came m (suc y) j (first_both m (suc y) j) → Came m y (suc j) (cond q y (first_both m (suc y) j))
    at true e c = record { low = omega arith; high = omega arith; found = λ h. e; before = λ v a b. absurd (omega arith) }
    at false e c = record {
      low = omega (arith, c.low);
      high = omega (arith, c.high);
      found = λ h. c.found (omega arith);
      before = λ v a b. pick v a b (ℕ_discrete v y);
    }
      where
        pick : (v : ℕ) → y ≤ v → v < first_both m (suc y) j → Dec (v ≡ y) → both m v ≡ false
        pick v a b (yes f) = rw f e
        pick v a b (no f) = c.before v (omega arith) b

module _ (o k : ℕ) (ws : List ℕ) where
  -- No kind has both marks of x.
  abbrev Peace : ℕ → Type 0
  Peace x = (v : ℕ) → Kind o k v → both (full_marks o k ws x) v ≡ false

  -- The first kind that has both marks of x is y.
  record War (x y : ℕ) : Type 0 where
    kind : Kind o k y
    marks : both (full_marks o k ws x) y ≡ true
    before : (v : ℕ) → Kind o k v → v < y → both (full_marks o k ws x) v ≡ false

  -- The search among j nodes from x on came to c.
  data Found (x j : ℕ) (c : Clashed) : Type 0 where
    somewhere : (u v : ℕ) → c ≡ Ok (Some (u, v)) → x ≤ u → u < x + j → War u v → ((w : ℕ) → x ≤ w → w < u → Peace w) → Found x j c
    nowhere : c ≡ Ok None → ((w : ℕ) → x ≤ w → w < x + j → Peace w) → Found x j c

  later : (x j : ℕ) (c : Clashed) → Peace x → Found (suc x) j c → Found x (suc j) c
  later x j c p (somewhere u v e l h w b) = somewhere u v e (omega arith) (omega arith) w (λ a f g. pick a f g (ℕ_discrete a x))
    where
      pick : (a : ℕ) → x ≤ a → a < u → Dec (a ≡ x) → Peace a
      pick a f g (yes q) = rw q p
      pick a f g (no q) = b a (omega arith) g
  later x j c p (nowhere e b) = nowhere e (λ a f g. pick a f g (ℕ_discrete a x))
    where
      pick : (a : ℕ) → x ≤ a → a < x + suc j → Dec (a ≡ x) → Peace a
      pick a f g (yes q) = rw q p
      pick a f g (no q) = b a (omega arith) (omega arith)

  search : (x j : ℕ) → Found x j (first_clash o k ws x j)
  unfolding first_clash
  search x zero = nowhere refl (λ w a b. absurd (omega arith))
  search x (suc j) = at (ltb r (o + k)) refl (search (suc x) j)
    where
      r : ℕ
      r = first_both (full_marks o k ws x) o k

      c : Came (full_marks o k ws x) o k r
      c = came (full_marks o k ws x) o k

      at : (q : Bool) → ltb r (o + k) ≡ q → Found (suc x) j (first_clash o k ws (suc x) j) → Found x (suc j) (cond q (Ok (Some (x, r))) (first_clash o k ws (suc x) j))
      at true e f =
          let h : r < o + k = ltb-true r (o + k) e in
          somewhere x r refl (omega arith) (omega arith)
          (record { kind = record { low = c.low; high = h }; marks = c.found h; before = λ v a b. c.before v a.low b })
          (λ w a b. absurd (omega arith))
      at false e f =
          let h : o + k ≤ r = ltb-false r (o + k) e in
          later x j _ (λ v a. c.before v a.low (omega (arith, a.high))) f

  module _ (net : Net o k ws) where
    -- Both marks are both answers.
    clash_of : (x y : ℕ) → x < o + k → Kind o k y → both (full_marks o k ws x) y ≡ true → ClashAt o k ws x y
    clash_of x y h a e =
        let t = says_yes (get_or (full_marks o k ws x) y 0) in
        let f = says_no (get_or (full_marks o k ws x) y 0) in
        record {
          node = h;
          kind = a;
          is_yes = (full_exact o k ws net x y is (omega arith) a).0 (and_left t f e);
          is_no = (full_exact o k ws net x y isnt (omega arith) a).0 (and_right t f e);
        }

    marks_of_lem : (x y : ℕ) → ClashAt o k ws x y → both (full_marks o k ws x) y ≡ true
    marks_of_lem x y c =
        let h : x < o + k = omega (arith, c.node) in
        and_both (says_yes (get_or (full_marks o k ws x) y 0)) (says_no (get_or (full_marks o k ws x) y 0))
        ((full_exact o k ws net x y is h c.kind).1 c.is_yes) ((full_exact o k ws net x y isnt h c.kind).1 c.is_no)

    no_peace : {A : Type 0} (x y : ℕ) → ClashAt o k ws x y → Peace x → A
    no_peace x y c p = contradiction (sym (p y c.kind) ∙ marks_of_lem x y c)

    war_smallest : (x y : ℕ) → x < o + k → War x y → ((w : ℕ) → 0 ≤ w → w < x → Peace w) → SmallestClash o k ws x y
    war_smallest x y h w b = record { clash = clash_of x y h w.kind w.marks; node = node; kind = kind }
      where
        node : (u v : ℕ) → ClashAt o k ws u v → x ≤ u
        node u v c = pick (dec_lt u x)
          where
            pick : Dec (u < x) → x ≤ u
            pick (yes l) = no_peace u v c (b u (omega arith) l)
            pick (no l) = omega arith

        kind : (v : ℕ) → ClashAt o k ws x v → y ≤ v
        kind v c = pick (dec_lt v y)
          where
            pick : Dec (v < y) → y ≤ v
            pick (yes l) = contradiction (sym (w.before v c.kind l) ∙ marks_of_lem x v c)
            pick (no l) = omega arith

    is_smallest : (x y : ℕ) → clash_search o k ws ≡ Ok (Some (x, y)) → SmallestClash o k ws x y
    is_smallest x y e = at (search 0 (clash_nodes o k))
      where
        at : Found 0 (clash_nodes o k) (clash_search o k ws) → SmallestClash o k ws x y
        at (somewhere u v f l h w b) =
            let p : u ≡ x = ap (λ (c : Clashed). (clashed_reply c).first) (sym f ∙ e) in
            let q : v ≡ y = ap (λ (c : Clashed). (clashed_reply c).second) (sym f ∙ e) in
            rw (p, q) at (war_smallest u v (omega arith) w b)
        at (nowhere f b) = contradiction (ap isNowhere (sym e ∙ f))

    smallest_is : (x y : ℕ) → SmallestClash o k ws x y → clash_search o k ws ≡ Ok (Some (x, y))
    smallest_is x y c = at (search 0 (clash_nodes o k))
      where
        at : Found 0 (clash_nodes o k) (clash_search o k ws) → clash_search o k ws ≡ Ok (Some (x, y))
        at (somewhere u v f l h w b) = let (p, q) = smallest_unique o k ws x y u v c (war_smallest u v (omega arith) w b) in rw (p, q) f
        at (nowhere f b) = no_peace x y c.clash (b x (omega arith) (omega (arith, c.clash.node)))

    -- The clash test gives x and y exactly if they are the smallest clash.
    pub clash_exactly : (x y : ℕ) → (clash_search o k ws ≡ Ok (Some (x, y))) ↔ SmallestClash o k ws x y
    clash_exactly x y = (is_smallest x y, smallest_is x y)

    -- It gives none exactly if no node clashes.
    pub no_clash_exactly : (isNowhere (clash_search o k ws) ≡ true) ↔ ((x y : ℕ) → ClashAt o k ws x y → ⊥)
    no_clash_exactly = (there (search 0 (clash_nodes o k)), back (search 0 (clash_nodes o k)))
      where
        there : Found 0 (clash_nodes o k) (clash_search o k ws) → isNowhere (clash_search o k ws) ≡ true → (x y : ℕ) → ClashAt o k ws x y → ⊥
        there (somewhere u v f l h w b) e x y c = contradiction (sym (ap isNowhere f) ∙ e)
        there (nowhere f b) e x y c = no_peace x y c (b x (omega arith) (omega (arith, c.node)))

        back : Found 0 (clash_nodes o k) (clash_search o k ws) → ((x y : ℕ) → ClashAt o k ws x y → ⊥) → isNowhere (clash_search o k ws) ≡ true
        back (somewhere u v f l h w b) n = absurd (n u v (war_smallest u v (omega arith) w b).clash)
        back (nowhere f b) n = ap isNowhere f

    -- It gives one exactly if some node clashes.
    pub some_clash_exactly : (isNowhere (clash_search o k ws) ≡ false) ↔ ((x : ℕ) × (y : ℕ) × ClashAt o k ws x y)
    some_clash_exactly = (there (search 0 (clash_nodes o k)), back (search 0 (clash_nodes o k)))
      where
        there : Found 0 (clash_nodes o k) (clash_search o k ws) → isNowhere (clash_search o k ws) ≡ false → (x : ℕ) × (y : ℕ) × ClashAt o k ws x y
        there (somewhere u v f l h w b) e = (u, v, (war_smallest u v (omega arith) w b).clash)
        there (nowhere f b) e = contradiction (sym e ∙ ap isNowhere f)

        back : Found 0 (clash_nodes o k) (clash_search o k ws) → (x : ℕ) × (y : ℕ) × ClashAt o k ws x y → isNowhere (clash_search o k ws) ≡ false
        back (somewhere u v f l h w b) c = ap isNowhere f
        back (nowhere f b) (x, y, c) = no_peace x y c (b x (omega arith) (omega (arith, c.node)))
