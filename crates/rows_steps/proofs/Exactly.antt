-- The steps leave rows that hold exactly what the net supports, whatever the rows held before.
use Prim.Native.Nat.{ℕ, ◌+◌, ◌-◌, ◌*◌, ◌/◌, ◌%◌, ◌^◌, ◌≤◌, ◌<◌}
use mathlib.Core.Path.{◌≡◌, refl, sym, ap, ◌∙◌, subst}
use mathlib.Core.Bool.{true}
use mathlib.Core.List.{List, ◌++◌}
use mathlib.Core.Logic.{◌⊎◌, inl, inr, ⊎_elim}
use native.Mathlib.Omega.{arith}
use native.Mathlib.Decide.{dec_lt}
use lib.Dec.{lit<}
use lib.ListN.{length, get_or, drop, replicate, length-append, length-drop, length-replicate, get_or-replicate, get_or-append}
use lib.Arith.{digits_lt}
use lib.Seq.{get_or-append-add, get_or-drop}
use Rattle.theory_laws.proofs.Booleans.{contradiction}
use Rattle.theory.specs.Words.{Sign, is, isnt, tail_of, head_of}
use Rattle.theory.specs.Nets.{Kind, Statements, Links, Net}
use Rattle.theory.specs.Support.{Supported, Closed, linked, r1, r2, r3, r4, r5}
use Rattle.theory.specs.Paths.{Crossing}
use Rattle.theory.specs.Marks.{has}
use Rattle.theory.proofs.Inside.{legal_inside}
use Rattle.theory.proofs.Legal.{Legal, legal_links}
use Rattle.theory.proofs.support.Smallest.{smallest}
use Rattle.theory.proofs.support.Reach.{Up, ends_in, supported_reached, reached_supported}
use Rattle.theory.proofs.rows.Exactly.{wide_enough, head_kind, exact_rows}
use Rattle.theory_laws.proofs.Bits.{bit_zero}
use Rattle.theory.specs.Rows.{width, Wide, bit_at, Exact, supported_rows}
use Rattle.rows_steps.specs.Steps.{kind_bits, is_links, isnt_links, gather, blank_rows, yes_rows, no_rows}
use Rattle.rows_steps.proofs.Grown.{Grown, grown_then}
use Rattle.rows_steps.proofs.Sound.{Sound, still}
use Rattle.rows_steps.proofs.Warshall.{ClosedThrough, middles_grown, middles_sound, middles_closed}
use Rattle.rows_steps.proofs.Links.{kinds_grown, kinds_sound, kinds_set, is_links_grown, is_links_sound, is_links_set, isnt_links_grown, isnt_links_sound, isnt_links_set, isnt_links_set_back}
use Rattle.rows_steps.proofs.Gathering.{gather_grown, gather_sound, gather_set}
use Rattle.rows_steps.proofs.Passing.{back_grown, back_sound, back_set}

-- ── rows cleared ──
module _ (z : ℕ) (l : List ℕ) (room : z ≤ length l) where
  pub blank_length : length (blank_rows z l) ≡ length l
  blank_length = simp (length-append, length-replicate, length-drop) (omega arith)

  blank_low : (i : ℕ) → i < z → get_or (blank_rows z l) i 0 ≡ 0
  blank_low i h = get_or-append (replicate z 0) (drop z l) 0 i (rw (length-replicate {A = ℕ} z 0) h) ∙ get_or-replicate z i 0 0 h

  pub blank_past : (i : ℕ) → z ≤ i → get_or (blank_rows z l) i 0 ≡ get_or l i 0
  blank_past i h =
      let e : i ≡ length (replicate {A = ℕ} z 0) + (i - z) = omega (arith, length-replicate {A = ℕ} z 0) in
      let d : z + (i - z) ≡ i = omega arith in
      ap (λ (q : ℕ). get_or (blank_rows z l) q 0) e ∙ get_or-append-add (replicate z 0) (drop z l) (i - z) 0 ∙ get_or-drop z l (i - z) 0 ∙ ap (λ (q : ℕ). get_or l q 0) d

  pub blank_wide : Wide l → Wide (blank_rows z l)
  blank_wide f i = at (dec_lt i z)
    where
      at : Dec (i < z) → get_or (blank_rows z l) i 0 < 2 ^ 64
      at (yes h) = rw (blank_low i h) (lit< tt)
      at (no h) = rw (blank_past i (omega arith)) (f i)

blank_sound : (n w : ℕ) (P : ℕ → ℕ → Type 0) (l : List ℕ) → n * w ≤ length l → ((x i : ℕ) → x < n → i < w → x * w + i < n * w) → Sound n w P (blank_rows (n * w) l)
blank_sound n w P l room inside x y h g e =
    contradiction (sym (bit_zero (y % 64)) ∙ ap (has (y % 64)) (sym (blank_low (n * w) l room (x * w + y / 64) (inside x (y / 64) h (omega arith)))) ∙ e)

-- ── the rows of a net ──
module _ (o k : ℕ) (ws : List ℕ) (net : Net o k ws) where
  abbrev n : ℕ
  n = o + k

  abbrev w : ℕ
  w = width (o + k)

  few_words : width (o + k) ≤ 16
  few_words = omega (arith, net.few)

  inside : (x i : ℕ) → x < n → i < w → x * w + i < n * w
  inside x i h g = digits_lt h g

  legal : Legal o k (Links ws)
  legal = legal_links o k ws net.legal

  abbrev Is : ℕ → ℕ → Type 0
  Is x y = Supported o k (Links ws) x y is

  abbrev Isnt : ℕ → ℕ → Type 0
  Isnt x y = Supported o k (Links ws) x y isnt

  module _ (l : List ℕ) (room : n * w ≤ length l) where
    abbrev blank : List ℕ
    blank = blank_rows (n * w) l

    blank_room : n * w ≤ length blank
    blank_room = omega (arith, blank_length (n * w) l room)

    abbrev kinds : List ℕ
    kinds = kind_bits w o k blank

    kinds_g : Grown (n * w) blank kinds
    kinds_g = kinds_grown n w (wide_enough (o + k)) o k blank (omega arith) blank_room

    kinds_room : n * w ≤ length kinds
    kinds_room = omega (arith, kinds_g.long, blank_room)

    abbrev with_links : List ℕ
    with_links = is_links w ws kinds

    linked_g : Grown (n * w) kinds with_links
    linked_g = is_links_grown n w (wide_enough (o + k)) ws kinds (legal_inside o k ws net.legal) kinds_room

    linked_room : n * w ≤ length with_links
    linked_room = omega (arith, linked_g.long, kinds_room)

    middles_g : Grown (n * w) with_links (yes_rows o k ws l)
    middles_g = middles_grown n w (wide_enough (o + k)) few_words o k with_links (omega arith) linked_room

    pub yes_grown : Grown (n * w) blank (yes_rows o k ws l)
    yes_grown = grown_then (grown_then kinds_g linked_g) middles_g

    pub yes_sound : Sound n w Is (yes_rows o k ws l)
    yes_sound =
        middles_sound n w (wide_enough (o + k)) few_words Is o k with_links (omega arith) linked_room
        (λ q x y a b p r. r2 (record { low = a; high = b }) (head_kind o k ws net q y is r) p r)
        (is_links_sound n w (wide_enough (o + k)) Is ws kinds (legal_inside o k ws net.legal) kinds_room
        (λ v m e. linked (record { it = v; listed = m; tail = refl; head = refl; sign = e }))
        (kinds_sound n w (wide_enough (o + k)) Is o k blank (omega arith) blank_room (λ q a b. r1 (record { low = a; high = b }))
        (blank_sound n w Is l room inside)))

    closed_start : ClosedThrough n w o o with_links
    closed_start z x y a b = absurd (omega arith)

    closed_all : ClosedThrough n w o (o + k) (yes_rows o k ws l)
    closed_all = middles_closed n w (wide_enough (o + k)) few_words o o k with_links (omega arith) linked_room closed_start

    -- What the yes rows say, as a set of statements.
    abbrev Says : Statements
    Says x y is = (x < o + k) × (bit_at (yes_rows o k ws l) (x * w) y ≡ true)
    Says x y isnt = Unit {0}

    says_link : (x y : ℕ) (s : Sign) → Links ws x y s → Says x y s
    says_link x y is h =
        let b = is_links_set n w (wide_enough (o + k)) ws kinds (legal_inside o k ws net.legal) kinds_room h.it h.listed h.sign in
        (legal.tail x y is h, rw (h.tail, h.head) at (still middles_g (tail_of h.it * w) (head_of h.it) b))
    says_link x y isnt h = tt

    says_closed : Closed o k (Links ws) Says
    says_closed = record {
      links = λ {x} {y} {s}. says_link x y s;
      r1 = λ {p} h.
          (h.high, still (grown_then linked_g middles_g) (p * w) p (kinds_set n w (wide_enough (o + k)) o k blank (omega arith) blank_room p h.low h.high));
      r2 = λ {x} {q} {r} hq hr a b. (a.0, closed_all q x r hq.low hq.high a.0 (omega (arith, hr.high)) a.1 b.1);
      r3 = λ p q a. tt;
      r4 = λ q r a b. tt;
      r5 = λ p q h a b. tt;
    }

    pub yes_set : (x y : ℕ) → Is x y → bit_at (yes_rows o k ws l) (x * w) y ≡ true
    yes_set x y p = (smallest o k (Links ws) Says says_closed p).1

    -- The yes rows are exact.
    pub yes_exact : Exact o k ws is (yes_rows o k ws l)
    yes_exact x y h g = (yes_sound x y h g, yes_set x y)

  -- ── no, by exact yes rows ──
  module _ (yeses : List ℕ) (exact : Exact o k ws is yeses) (wide : Wide yeses) (l : List ℕ) (room : n * w ≤ length l) where
    abbrev empty : List ℕ
    empty = blank_rows (n * w) l

    empty_room : n * w ≤ length empty
    empty_room = omega (arith, blank_length (n * w) l room)

    abbrev crossed : List ℕ
    crossed = isnt_links o w ws empty

    crossed_g : Grown (n * w) empty crossed
    crossed_g = isnt_links_grown n w (wide_enough (o + k)) o ws empty (legal_inside o k ws net.legal) empty_room

    crossed_room : n * w ≤ length crossed
    crossed_room = omega (arith, crossed_g.long, empty_room)

    abbrev gathered : List ℕ
    gathered = gather w 0 n yeses crossed

    gathered_g : Grown (n * w) crossed gathered
    gathered_g = gather_grown n w (wide_enough (o + k)) few_words yeses 0 n crossed (omega arith) crossed_room

    gathered_room : n * w ≤ length gathered
    gathered_room = omega (arith, gathered_g.long, crossed_room)

    back_g : Grown (n * w) gathered (no_rows o k ws yeses l)
    back_g = back_grown n w (wide_enough (o + k)) yeses wide o k (omega arith) 0 n gathered (omega arith) gathered_room

    pub no_grown : Grown (n * w) empty (no_rows o k ws yeses l)
    no_grown = grown_then (grown_then crossed_g gathered_g) back_g

    -- x ↛ b and v → b give x ↛ v: (3.5) at an object, (3.3), (3.4) and (3.3) at a kind.
    down : (x v b : ℕ) → x < o + k → Kind o k v → Is v b → Isnt x b → Dec (x < o) → Isnt x v
    down x v b h hv p q (yes d) = r5 hv (head_kind o k ws net v b is p) d p q
    down x v b h hv p q (no d) =
        let hx : Kind o k x = record { low = omega arith; high = h } in
        let hb : Kind o k b = head_kind o k ws net v b is p in
        r3 hv hx (r4 hb hx p (r3 hx hb q))

    pub no_sound : Sound n w Isnt (no_rows o k ws yeses l)
    no_sound =
        back_sound n w (wide_enough (o + k)) yeses wide o k (omega arith) Isnt 0 n gathered (omega arith) gathered_room
        (λ u v b hu a c hb e p. down u v b hu (record { low = a; high = c }) ((exact v b (omega arith) hb).0 e) p (dec_lt u o))
        (gather_sound n w (wide_enough (o + k)) few_words yeses Isnt 0 n crossed (omega arith) crossed_room
        (λ u q hu hq e.
        let p = (exact u q hu hq).0 e in
        let hk = head_kind o k ws net u q is p in
        (hk.high, λ y r. r4 hk (head_kind o k ws net q y isnt r) p r))
        (isnt_links_sound n w (wide_enough (o + k)) o Isnt ws empty (legal_inside o k ws net.legal) empty_room
        (λ v m e. linked (record { it = v; listed = m; tail = refl; head = refl; sign = e }))
        (λ v m e h.
        let t : Links ws (tail_of v) (head_of v) isnt = record { it = v; listed = m; tail = refl; head = refl; sign = e } in
        r3 (record { low = h; high = legal.tail (tail_of v) (head_of v) isnt t }) (legal.head (tail_of v) (head_of v) isnt t) (linked t))
        (blank_sound n w Isnt l room inside)))

    -- A crossing to a kind is a bit after the links.
    cross_set : (u v : ℕ) → Crossing (Links ws) u v → Kind o k v → bit_at crossed (u * w) v ≡ true
    cross_set u v (inl h) hv =
        rw (h.tail, h.head) at (isnt_links_set n w (wide_enough (o + k)) o ws empty (legal_inside o k ws net.legal) empty_room h.it h.listed h.sign)
    cross_set u v (inr h) hv =
        rw (h.tail, h.head) at
        (isnt_links_set_back n w (wide_enough (o + k)) o ws empty (legal_inside o k ws net.legal) empty_room h.it h.listed h.sign (rw h.tail hv.low))

    up_set : (x u v : ℕ) → x < o + k → Up (Links ws) u x → (x ≡ u) ⊎ Kind o k u → Kind o k v → bit_at crossed (u * w) v ≡ true → bit_at gathered (x * w) v ≡ true
    up_set x u v h a (inl e) hv b = still gathered_g (x * w) v (rw e b)
    up_set x u v h a (inr hu) hv b =
        gather_set n w (wide_enough (o + k)) few_words yeses 0 n crossed (omega arith) crossed_room x u v (omega arith) (omega arith) (omega (arith, hu.high))
        ((exact x u h (omega (arith, hu.high))).1 (reached_supported o k (Links ws) legal x u is (a, hu))) (omega (arith, hv.high)) b

    pub no_set : (x y : ℕ) → x < o + k → Isnt x y → bit_at (no_rows o k ws yeses l) (x * w) y ≡ true
    no_set x y h p =
        let r = supported_reached o k (Links ws) legal p in
        let hy : Kind o k y = r.1 in
        let a = r.0 in
        let hv : Kind o k a.right = ⊎_elim (λ e. subst (Kind o k) e hy) (λ q. q) (ends_in o k (Links ws) legal a.second) in
        let b = up_set x a.left a.right h a.first (ends_in o k (Links ws) legal a.first) hv (cross_set a.left a.right a.cross hv) in
        let c = (exact y a.right hy.high (omega (arith, hv.high))).1 (reached_supported o k (Links ws) legal y a.right is (a.second, hv)) in
        back_set n w (wide_enough (o + k)) yeses wide o k (omega arith) 0 n gathered (omega arith) gathered_room x y a.right (omega arith) (omega arith) hy.low hy.high (omega (arith, hv.high)) c b

    -- The no rows are exact.
    pub no_exact : Exact o k ws isnt (no_rows o k ws yeses l)
    no_exact x y h g = (no_sound x y h g, no_set x y h)

  -- What the steps leave from any l.
  module _ (l : List ℕ) (room : n * w ≤ length l) (wide : Wide l) where
    pub yes_wide : Wide (yes_rows o k ws l)
    yes_wide = (yes_grown l room).wide (blank_wide (n * w) l room wide)

    pub yes_rows_lem : yes_rows o k ws l ≡ supported_rows o k ws is ++ drop (n * w) l
    yes_rows_lem =
        exact_rows o k ws net is l (yes_rows o k ws l) room ((yes_grown l room).long ∙ blank_length (n * w) l room)
        (λ i h. (yes_grown l room).past i h ∙ blank_past (n * w) l room i h) yes_wide (yes_exact l room)

    pub no_rows_lem : (yeses : List ℕ) → Exact o k ws is yeses → Wide yeses → no_rows o k ws yeses l ≡ supported_rows o k ws isnt ++ drop (n * w) l
    no_rows_lem yeses exact yes_wide =
        exact_rows o k ws net isnt l (no_rows o k ws yeses l) room ((no_grown yeses exact yes_wide l room).long ∙ blank_length (n * w) l room)
        (λ i h. (no_grown yeses exact yes_wide l room).past i h ∙ blank_past (n * w) l room i h) ((no_grown yeses exact yes_wide l room).wide (blank_wide (n * w) l room wide))
        (no_exact yeses exact yes_wide l room)
