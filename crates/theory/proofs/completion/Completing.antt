-- The computed completion is the completed list, and no other list is.
use Prim.Native.Nat.{ℕ, zero, suc, ◌+◌, ◌*◌, ◌≤◌, ◌<◌}
use mathlib.Core.Path.{◌≡◌, refl, subst, sym}
use mathlib.Core.Bool.{Bool, true, false, cond}
use mathlib.Core.List.Memᴰ
use mathlib.Core.List.{List, [], ◌∷◌, ◌++◌, Memᴰ}
use mathlib.Core.Logic.{◌↔◌, ⊎_elim}
use native.Mathlib.Omega.{arith}
use native.Mathlib.Decide.{ℕ_discrete}
use lib.ListN.{get_or}
use Rattle.theory.specs.Words.{Sign, is, isnt, word, tail_of, head_of, sign_of}
use Rattle.theory.specs.Nets.{Kind, Links, Net}
use Rattle.theory.specs.Support.{Supported}
use Rattle.theory.specs.Marks.{U, F, has, marker_of, At}
use Rattle.theory.specs.Scans.{full_budget}
use Rattle.theory.specs.Completion.{Ascending, Lists, full_marks, cell, row, rows, complete}
use Rattle.theory.proofs.Legal.{legal_links}
use Rattle.theory.proofs.support.Joining.{ends}
use Rattle.theory.proofs.machine.Bounds.{full_done}
use Rattle.theory.proofs.machine.Sides.{scan_exact}
use Rattle.theory.proofs.completion.Ascending.{tail_word, head_word, sign_word, word_of_parts, ascending_from, ascending_append, ascending_same}

-- The relation has one outcome.
pub lists_unique : (o k : ℕ) (ws out out' : List ℕ) → Lists o k ws out → Lists o k ws out' → out ≡ out'
lists_unique o k ws out out' c d = ascending_same 0 out out' c.ascending d.ascending (λ w m. (d.exact w).1 ((c.exact w).0 m)) (λ w m. (c.exact w).1 ((d.exact w).0 m))

-- ── the words about one node and one kind ──
record InCell (x y b w : ℕ) : Type 0 where
  sign : Sign
  same : w ≡ word x y sign
  has : has (marker_of sign) b ≡ true

one_of : (w v : ℕ) → Memᴰ w (v ∷ []) → w ≡ v
one_of w v m = ⊎_elim (λ e. e) (λ n. elim n [ ]) (Memᴰ.cases_cons m)

kept_cases : (x y b w : ℕ) (s : Sign) (p : Bool) → has (marker_of s) b ≡ p → Memᴰ w (cond p (word x y s ∷ []) []) → InCell x y b w
kept_cases x y b w s true e m = record { sign = s; same = one_of w (word x y s) m; has = e }
kept_cases x y b w s false e m = elim m [ ]

kept_has : (v : ℕ) (p : Bool) → p ≡ true → Memᴰ v (cond p (v ∷ []) [])
kept_has v p e = rw e (Memᴰ.head refl)

cell_cases : (x y b w : ℕ) → Memᴰ w (cell x y b) → InCell x y b w
cell_cases x y b w m = ⊎_elim (kept_cases x y b w is (has U b) refl) (kept_cases x y b w isnt (has F b) refl) (Memᴰ.append_cases (cond (has U b) (word x y is ∷ []) []) m)

cell_has : (x y b : ℕ) (s : Sign) → has (marker_of s) b ≡ true → Memᴰ (word x y s) (cell x y b)
cell_has x y b is e = Memᴰ.append_left (cond (has F b) (word x y isnt ∷ []) []) (kept_has (word x y is) (has U b) e)
cell_has x y b isnt e = Memᴰ.append_right (cond (has U b) (word x y is ∷ []) []) (kept_has (word x y isnt) (has F b) e)

cell_ascending : (x y : ℕ) (p q : Bool) → Ascending (word x y is) (cond p (word x y is ∷ []) [] ++ cond q (word x y isnt ∷ []) [])
cell_ascending x y true true = (omega arith, (omega arith, tt))
cell_ascending x y true false = (omega arith, tt)
cell_ascending x y false true = (omega arith, tt)
cell_ascending x y false false = tt

word_next : (x y : ℕ) (s : Sign) → word x y s < word x (suc y) is
word_next x y is = omega arith
word_next x y isnt = omega arith

-- ── the row of one node ──
record InRow (x : ℕ) (m : List ℕ) (y j w : ℕ) : Type 0 where
  kind : ℕ
  sign : Sign
  same : w ≡ word x kind sign
  low : y ≤ kind
  high : kind < y + j
  has : At m (marker_of sign) kind

row_cases : (x : ℕ) (m : List ℕ) (y j w : ℕ) → Memᴰ w (row x m y j) → InRow x m y j w
unfolding row
row_cases x m y zero w h = elim h [ ]
row_cases x m y (suc j) w h = ⊎_elim
    (λ a. let c = cell_cases x y (get_or m y 0) w a in record { kind = y; sign = c.sign; same = c.same; low = omega arith; high = omega arith; has = c.has })
    (λ a. let r = row_cases x m (suc y) j w a in record { kind = r.kind; sign = r.sign; same = r.same; low = omega (arith, r.low); high = omega (arith, r.high); has = r.has })
    (Memᴰ.append_cases (cell x y (get_or m y 0)) h)

row_has : (x : ℕ) (m : List ℕ) (y j z : ℕ) (s : Sign) → y ≤ z → z < y + j → At m (marker_of s) z → Memᴰ (word x z s) (row x m y j)
unfolding row
row_has x m y zero z s h i a = absurd (omega arith)
row_has x m y (suc j) z s h i a = pick (ℕ_discrete z y) (λ n. row_has x m (suc y) j z s (omega arith) (omega arith) a)
  where
    pick : Dec (z ≡ y) → ((z ≡ y → ⊥) → Memᴰ (word x z s) (row x m (suc y) j)) → Memᴰ (word x z s) (cell x y (get_or m y 0) ++ row x m (suc y) j)
    pick (yes e) f = Memᴰ.append_left (row x m (suc y) j) (subst (λ (v : ℕ). Memᴰ (word x v s) (cell x y (get_or m y 0))) (sym e) (cell_has x y (get_or m y 0) s (rw e at a)))
    pick (no n) f = Memᴰ.append_right (cell x y (get_or m y 0)) (f n)

row_ascending : (x : ℕ) (m : List ℕ) (y j : ℕ) → Ascending (word x y is) (row x m y j)
unfolding row
row_ascending x m y zero = tt
row_ascending x m y (suc j) =
    ascending_append (word x y is) (word x (suc y) is) (cell x y (get_or m y 0)) (row x m (suc y) j)
    (cell_ascending x y (has U (get_or m y 0)) (has F (get_or m y 0)))
    (λ w h. let c = cell_cases x y (get_or m y 0) w h in rw c.same (word_next x y c.sign))
    (row_ascending x m (suc y) j) (omega arith)

word_below : (x y : ℕ) (s : Sign) → y < 1024 → word x y s < suc x * 2048
word_below x y is h = omega arith
word_below x y isnt h = omega arith

-- ── the rows of all nodes ──
module _ (o k : ℕ) (ws : List ℕ) (n : Net o k ws) where
  -- The full marks of x say exactly what is supported.
  pub full_exact : (x y : ℕ) (s : Sign) → x < o + k → Kind o k y → At (full_marks o k ws x) (marker_of s) y ↔ Supported o k (Links ws) x y s
  full_exact x y s h hy = scan_exact o k ws n.legal x h (full_budget (o + k)) (full_done o k ws n.legal x h (full_budget (o + k)) (omega arith)) y hy s

  small : o + k ≤ 1024
  small = n.few

  rows_ascending : (x j : ℕ) → Ascending (x * 2048) (rows o k ws x j)
  unfolding rows
  rows_ascending x zero = tt
  rows_ascending x (suc j) =
      ascending_append (x * 2048) (suc x * 2048) (row x (full_marks o k ws x) o k) (rows o k ws (suc x) j)
      (ascending_from (x * 2048) (word x o is) (row x (full_marks o k ws x) o k) (omega arith) (row_ascending x (full_marks o k ws x) o k))
      (λ w h. let r = row_cases x (full_marks o k ws x) o k w h in rw r.same (word_below x r.kind r.sign (omega (arith, small, r.high))))
      (rows_ascending (suc x) j) (omega arith)

  record InRows (x j w : ℕ) : Type 0 where
    node : ℕ
    kind : ℕ
    sign : Sign
    same : w ≡ word node kind sign
    low : x ≤ node
    high : node < x + j
    head : Kind o k kind
    has : At (full_marks o k ws node) (marker_of sign) kind

  rows_cases : (x j w : ℕ) → Memᴰ w (rows o k ws x j) → InRows x j w
  unfolding rows
  rows_cases x zero w h = elim h [ ]
  rows_cases x (suc j) w h = ⊎_elim
      (λ a. let r = row_cases x (full_marks o k ws x) o k w a in
      record { node = x; kind = r.kind; sign = r.sign; same = r.same; low = omega arith; high = omega arith; head = record { low = r.low; high = r.high }; has = r.has })
      (λ a. let r = rows_cases (suc x) j w a in
      record { node = r.node; kind = r.kind; sign = r.sign; same = r.same; low = omega (arith, r.low); high = omega (arith, r.high); head = r.head; has = r.has })
      (Memᴰ.append_cases (row x (full_marks o k ws x) o k) h)

  rows_has : (x j u z : ℕ) (s : Sign) → x ≤ u → u < x + j → Kind o k z → At (full_marks o k ws u) (marker_of s) z → Memᴰ (word u z s) (rows o k ws x j)
  unfolding rows
  rows_has x zero u z s h i hz a = absurd (omega arith)
  rows_has x (suc j) u z s h i hz a = pick (ℕ_discrete u x) (λ n. rows_has (suc x) j u z s (omega arith) (omega arith) hz a)
    where
      pick : Dec (u ≡ x) → ((u ≡ x → ⊥) → Memᴰ (word u z s) (rows o k ws (suc x) j)) → Memᴰ (word u z s) (row x (full_marks o k ws x) o k ++ rows o k ws (suc x) j)
      pick (yes e) f =
          Memᴰ.append_left (rows o k ws (suc x) j)
          (subst (λ (v : ℕ). Memᴰ (word v z s) (row x (full_marks o k ws x) o k)) (sym e)
          (row_has x (full_marks o k ws x) o k z s hz.low hz.high (subst (λ (v : ℕ). At (full_marks o k ws v) (marker_of s) z) e a)))
      pick (no n) f = Memᴰ.append_right (row x (full_marks o k ws x) o k) (f n)

  to_parts : (w u z : ℕ) (s : Sign) → w ≡ word u z s → z < 1024 → Supported o k (Links ws) u z s → Supported o k (Links ws) (tail_of w) (head_of w) (sign_of w)
  to_parts w u z s e h p =
      let a : tail_of w ≡ u = rw e (tail_word u z s h) in
      let b : head_of w ≡ z = rw e (head_word u z s h) in
      let c : sign_of w ≡ s = rw e (sign_word u z s) in
      rw (a, b, c) p

  -- The computed list is the completed one.
  pub complete_lists : Lists o k ws (complete o k ws)
  unfolding complete
  complete_lists = record {
    ascending = ascending_from 0 (0 * 2048) (rows o k ws 0 (o + k)) (omega arith) (rows_ascending 0 (o + k));
    exact = λ w. (
      (λ m.
          let r = rows_cases 0 (o + k) w m in
          to_parts w r.node r.kind r.sign r.same (omega (arith, small, r.head.high)) ((full_exact r.node r.kind r.sign (omega (arith, r.high)) r.head).0 r.has)),
      λ p.
          let e = ends o k (Links ws) (legal_links o k ws n.legal) (tail_of w) (head_of w) (sign_of w) p in
          subst (λ (v : ℕ). Memᴰ v (rows o k ws 0 (o + k))) (word_of_parts w)
          (rows_has 0 (o + k) (tail_of w) (head_of w) (sign_of w) (omega arith) (omega (arith, e.0)) e.1 ((full_exact (tail_of w) (head_of w) (sign_of w) e.0 e.1).1 p)),
    );
  }
