-- Document 01's forward scan and the scan in its place: the word about a node and a kind is the same, and from an object so are the rounds.
use Prim.Native.Nat.{ℕ, zero, suc, ◌+◌, ◌*◌, ◌%◌, ◌≤◌, ◌<◌}
use mathlib.Core.Path.{◌≡◌, refl, sym, ap, ◌∙◌}
use mathlib.Core.Bool.{Bool, true, false, ◌&&◌, ◌||◌}
use mathlib.Core.List.{List, Memᴰ}
use mathlib.Core.Logic.{inl, inr, ◌↔◌}
use native.Mathlib.Omega.{arith}
use borrow.Author.Tests.{eqb-true, ne_eqb, eq-eqb}
use lib.Dec.{eqb}
use lib.ListN.{length, get_or, length-replicate}
use lib.Seq.{ext_get_or}
use Rattle.theory_laws.proofs.Booleans.{and_false, or_false, same_test, not_so}
use Rattle.theory_laws.proofs.Bits.{bits_same}
use Rattle.theory.specs.Words.{Sign, is, isnt, head_of}
use Rattle.theory.specs.Nets.{Statements, Kind, Links, LegalWords}
use Rattle.theory.specs.Support.{Supported}
use Rattle.theory.specs.Marks.{T, F, U, has, marker_of, marker_to, near, far, fires, command, round, to_head, to_tail, commands, blank, scan_start, At}
use Rattle.theory.specs.Scans.{after, same, Scan, Count, rounds, scan, full_budget, full_scan}
use Rattle.theory.specs.Forward.{forward, forward_start, forward_scan}
use Rattle.theory.specs.Inside.{Inside}
use Rattle.theory.specs.declared.Command.{Command}
use Rattle.theory.proofs.support.Reach.{Up, here, step, Apart, trans}
use Rattle.theory.proofs.Inside.{legal_inside}
use Rattle.theory.proofs.machine.Commands.{hits, any_same, any_none, command_at_lem, mark_at, mark_length}
use Rattle.theory.proofs.machine.Growth.{Puts, command_step}
use Rattle.theory.proofs.machine.Rounds.{same_refl, same_eq, rounds_none, rounds_last, rounds_more}
use Rattle.theory.proofs.machine.Soundness.{Within, Follows, Every, quiet_closed, after_long, after_keeps, sound}
use Rattle.theory.proofs.machine.Starts.{blank_none, blank_room, mark_within, mark_has, start_long}
use Rattle.theory.proofs.machine.Meaning.{carried_up, carried_down, crossed, as_is, as_isnt, longer_second, crossing_ends, exactly_is, exactly_isnt}
use Rattle.theory.proofs.machine.Budgets.{last_round, ends_within}
use Rattle.theory.proofs.machine.Bounds.{bounded, T_below, T_size, full_done}
use Rattle.theory.proofs.machine.Sides.{scan_exact}

-- ── its start and its commands ──
module _ (n x : ℕ) (h : x < n) where
  forward_long : length (forward_start n x) ≡ n
  forward_long = mark_length T x (blank n) ∙ length-replicate {A = ℕ} n 0

  forward_within : (P : ℕ → ℕ → Type 0) → P T x → Within P (forward_start n x)
  forward_within P p = mark_within P T x (blank n) (blank_room n x h) p (λ j v a. absurd (blank_none n j v a))

  forward_has : At (forward_start n x) T x
  forward_has = mark_has T x (blank n) (blank_room n x h)

forward_put : Puts 2 forward
forward_put = (omega arith, (omega arith, (omega arith, (omega arith, tt))))

forward_put_8 : Puts 8 forward
forward_put_8 = (omega arith, (omega arith, (omega arith, (omega arith, tt))))

-- ── what its marks mean: T at what x reaches, F at what x is kept apart from ──
abbrev MarkedForward : Statements → ℕ → ℕ → ℕ → Type 0
MarkedForward L x zero y = Up L y x
MarkedForward L x (suc zero) y = Apart L x y
MarkedForward L x (suc (suc j)) y = ⊥

forward_follows : (L : Statements) (x : ℕ) → Every (Follows L (MarkedForward L x)) forward
forward_follows L x = (
  (λ u y. as_is (λ s. L u y s → Up L u x → Up L y x) (λ l t. trans t (step l (here refl)))),
  (
    (λ u y. as_is (λ s. L y u s → Apart L x u → Apart L x y) (λ l t. longer_second L l t)),
    (
      (λ u y. as_isnt (λ s. L u y s → Up L u x → Apart L x y) (λ l t. crossing_ends L t (inl l))),
      (
        (λ u y. as_isnt (λ s. L y u s → Up L u x → Apart L x y) (λ l t. crossing_ends L t (inr l))),
        tt,
      ),
    ),
  ),
)

forward_least : (L : Statements) (x : ℕ) (M : ℕ → ℕ → Type 0) → Every (Follows L M) forward → M T x → (j y : ℕ) → MarkedForward L x j y → M j y
forward_least L x M r s zero y u = carried_up L (M T) (λ u y l. r.0 u y is refl l) u s
forward_least L x M r s (suc zero) y n =
    carried_down L (M F) (λ u y l. r.1.0 u y is refl l) n.second
    (crossed L (M T) (M F) (λ u y l. r.1.1.0 u y isnt refl l) (λ u y l. r.1.1.1.0 u y isnt refl l) n.left n.right n.cross
    (carried_up L (M T) (λ u y l. r.0 u y is refl l) n.first s))
forward_least L x M r s (suc (suc j)) y z = absurd z

module _ (o k : ℕ) (ws : List ℕ) (legal : LegalWords o k ws) where
  inside : Inside (o + k) ws
  inside = legal_inside o k ws legal

  module _ (x : ℕ) (hx : x < o + k) where
    abbrev S : List ℕ
    S = forward_start (o + k) x

    room : o + k ≤ length S
    room = omega (arith, forward_long (o + k) x hx)

    forward_sound : (i : ℕ) → Within (MarkedForward (Links ws) x) (after forward ws i S)
    forward_sound = sound (o + k) ws inside forward forward_put_8 (MarkedForward (Links ws) x) (forward_follows (Links ws) x) S room
        (forward_within (o + k) x hx (MarkedForward (Links ws) x) (here refl))

    forward_sound_yes : (i y : ℕ) → Kind o k y → At (after forward ws i S) T y → Supported o k (Links ws) x y is
    forward_sound_yes i y h a = (exactly_is o k ws legal x y h).0 (forward_sound i T y a)

    forward_sound_no : (i y : ℕ) → Kind o k y → At (after forward ws i S) F y → Supported o k (Links ws) x y isnt
    forward_sound_no i y h a = (exactly_isnt o k ws legal x y h).0 (forward_sound i F y a)

    module _ (i : ℕ) (quiet : round forward ws (after forward ws i S) ≡ after forward ws i S) where
      forward_all : (j y : ℕ) → MarkedForward (Links ws) x j y → At (after forward ws i S) j y
      forward_all = forward_least (Links ws) x (At (after forward ws i S))
          (quiet_closed (o + k) ws inside forward forward_put_8 (after forward ws i S) (after_long (o + k) ws inside forward forward_put_8 i S room) quiet)
          (after_keeps (o + k) ws inside forward forward_put_8 i S room T x (forward_has (o + k) x hx))

      -- At the last round: T at a kind y exactly if x → y is supported.
      forward_yes : (y : ℕ) → Kind o k y → At (after forward ws i S) T y ↔ Supported o k (Links ws) x y is
      forward_yes y h = (forward_sound_yes i y h, λ s. forward_all T y ((exactly_is o k ws legal x y h).1 s))

      -- At the last round: F at a kind y exactly if x ↛ y is supported.
      forward_no : (y : ℕ) → Kind o k y → At (after forward ws i S) F y ↔ Supported o k (Links ws) x y isnt
      forward_no y h = (forward_sound_no i y h, λ s. forward_all F y ((exactly_isnt o k ws legal x y h).1 s))

  module _ (x : ℕ) (hx : x < o + k) (b : ℕ) where
    -- In a forward scan that ended: T, or F, at a kind exactly if the statement is supported.
    pub forward_exact : (forward_scan (o + k) ws x b).done ≡ true → (y : ℕ) → Kind o k y → (s : Sign)
        → At (forward_scan (o + k) ws x b).marks (marker_to s) y ↔ Supported o k (Links ws) x y s
    forward_exact d y h is =
        let t = last_round forward ws (forward_start (o + k) x) b d in
        rw t.marks (forward_yes x hx t.at t.quiet y h)
    forward_exact d y h isnt =
        let t = last_round forward ws (forward_start (o + k) x) b d in
        rw t.marks (forward_no x hx t.at t.quiet y h)

  -- Its count is at most 2N, so a budget of 2N is never spent.
  forward_counted : (x : ℕ) → x < o + k → (c : ℕ) × Count forward ws (forward_start (o + k) x) c × (c ≤ 2 * (o + k))
  forward_counted x hx =
      bounded (o + k) 2 ws inside forward forward_put (forward_start (o + k) x) (forward_long (o + k) x hx) (T_below (o + k) x hx 2 (omega arith))
      (2 * (o + k)) (omega (arith, T_size (o + k) x hx))

  pub forward_done : (x : ℕ) → x < o + k → (budget : ℕ) → 2 * (o + k) ≤ budget → (forward_scan (o + k) ws x budget).done ≡ true
  forward_done x hx budget h =
      let (c, d, l) = forward_counted x hx in
      ends_within forward ws (forward_start (o + k) x) c budget d (omega arith)

  -- ── the same word ──
  module _ (x y : ℕ) (hx : x < o + k) (hy : Kind o k y) where
    same_marker : (b c : ℕ) → (scan (o + k) ws x b).done ≡ true → (forward_scan (o + k) ws x c).done ≡ true → (s : Sign)
        → has (marker_of s) (get_or (scan (o + k) ws x b).marks y 0) ≡ has (marker_to s) (get_or (forward_scan (o + k) ws x c).marks y 0)
    same_marker b c d e s =
        same_test (has (marker_of s) (get_or (scan (o + k) ws x b).marks y 0)) (has (marker_to s) (get_or (forward_scan (o + k) ws x c).marks y 0))
        (λ a. (forward_exact x hx c e y hy s).1 ((scan_exact o k ws legal x hx b d y hy s).0 a))
        (λ a. (scan_exact o k ws legal x hx b d y hy s).1 ((forward_exact x hx c e y hy s).0 a))

    -- The word that the full scan gives about x and y is the one that the forward scan gave, with T for yes and F for no, in its 2N rounds.
    pub same_word : (s : Sign) → has (marker_of s) (get_or (full_scan (o + k) ws x).marks y 0) ≡ has (marker_to s) (get_or (forward_scan (o + k) ws x (2 * (o + k))).marks y 0)
    same_word = same_marker (full_budget (o + k)) (2 * (o + k)) (full_done o k ws legal x hx (full_budget (o + k)) (omega arith)) (forward_done x hx (2 * (o + k)) (omega arith))

-- ── from an object: the same rounds, U for T ──
-- The marker of the scan for one of the forward scan: U for T, F for F; the rest makes room for U.
abbrev across : ℕ → ℕ
across zero = U
across (suc zero) = F
across (suc (suc j)) = suc (suc (suc j))

across_same : (i j : ℕ) → eqb (across i) (across j) ≡ eqb i j
across_same i j = same_test (eqb (across i) (across j)) (eqb i j) (λ h. eq-eqb i j (back i j (eqb-true (across i) (across j) h))) (λ h. eq-eqb (across i) (across j) (ap across (eqb-true i j h)))
  where
    back : (i j : ℕ) → across i ≡ across j → i ≡ j
    back zero zero e = refl
    back (suc zero) (suc zero) e = refl
    back (suc (suc i)) (suc (suc j)) e = omega arith
    back zero (suc zero) e = absurd (omega arith)
    back zero (suc (suc j)) e = absurd (omega arith)
    back (suc zero) zero e = absurd (omega arith)
    back (suc zero) (suc (suc j)) e = absurd (omega arith)
    back (suc (suc i)) zero e = absurd (omega arith)
    back (suc (suc i)) (suc zero) e = absurd (omega arith)

across_never_T : (j : ℕ) → eqb T (across j) ≡ false
across_never_T zero = refl
across_never_T (suc zero) = refl
across_never_T (suc (suc j)) = ne_eqb T (suc (suc (suc j))) (λ (e : T ≡ suc (suc (suc j))). omega arith)

-- A command of the forward scan, as the scan has it.
abbrev moved : Command → Command
moved c = record { sign = c.sign; at_head = c.at_head; test = across c.test; put = across c.put }

-- Marks m of the scan from x beside marks f of the forward scan, of n nodes each.
record Alongside (n x : ℕ) (m f : List ℕ) : Type 0 where
  pub scan_long : length m ≡ n
  pub forward_long : length f ≡ n
  pub marks : (j v : ℕ) → has (across j) (get_or m v 0) ≡ has j (get_or f v 0)
  pub alone : (v : ℕ) → has T (get_or m v 0) ≡ eqb x v

same_marks : (a b : List ℕ) → length a ≡ length b → ((j v : ℕ) → has j (get_or a v 0) ≡ has j (get_or b v 0)) → a ≡ b
same_marks a b l h = ext_get_or 0 a b l (λ v i. bits_same (get_or a v 0 + get_or b v 0) (get_or a v 0) (get_or b v 0) (omega arith) (omega arith) (λ j. h j v))

-- Marks alongside the same marks are the same, on either side.
scan_by_forward : (n x : ℕ) (m m' f : List ℕ) → Alongside n x m f → Alongside n x m' f → m ≡ m'
scan_by_forward n x m m' f a b = same_marks m m' (a.scan_long ∙ sym b.scan_long) at
  where
    at : (j v : ℕ) → has j (get_or m v 0) ≡ has j (get_or m' v 0)
    at zero v = a.alone v ∙ sym (b.alone v)
    at (suc zero) v = a.marks F v ∙ sym (b.marks F v)
    at (suc (suc zero)) v = a.marks T v ∙ sym (b.marks T v)
    at (suc (suc (suc j))) v = a.marks (suc (suc j)) v ∙ sym (b.marks (suc (suc j)) v)

forward_by_scan : (n x : ℕ) (m f f' : List ℕ) → Alongside n x m f → Alongside n x m f' → f ≡ f'
forward_by_scan n x m f f' a b = same_marks f f' (a.forward_long ∙ sym b.forward_long) (λ j v. sym (a.marks j v) ∙ b.marks j v)

module _ (o k : ℕ) (ws : List ℕ) (legal : LegalWords o k ws) (x : ℕ) (object : x < o) where
  abbrev n : ℕ
  n = o + k

  links_inside : Inside n ws
  links_inside = legal_inside o k ws legal

  -- A command of the forward scan and its like in the scan go side by side.
  command_along : (c : Command) → c.put < 2 → (m f : List ℕ) → Alongside n x m f → Alongside n x (command (moved c) ws m) (command c ws f)
  command_along c p m f a =
      let rm : n ≤ length m = omega (arith, a.scan_long) in
      let rf : n ≤ length f = omega (arith, a.forward_long) in
      record {
        scan_long = (command_step n 8 (moved c) (low c.put p) ws m links_inside rm).long ∙ a.scan_long;
        forward_long = (command_step n 8 c (omega arith) ws f links_inside rf).long ∙ a.forward_long;
        marks = λ j v.
            command_at_lem (moved c) ws m n (across j) v links_inside rm
            ∙ rw (a.marks j v, any_same (hits (moved c) m (across j) v) (hits c f j v) ws (λ w h. rw (a.marks c.test (near c.at_head w), across_same j c.put))) (sym (command_at_lem c ws f n j v links_inside rf));
        alone = λ v.
            command_at_lem (moved c) ws m n T v links_inside rm
            ∙ rw (any_none (hits (moved c) m T v) ws (λ w h. rw (across_never_T c.put, and_false (eqb (far c.at_head w) v)) (and_false (fires (moved c) m w))))
            (or_false (has T (get_or m v 0)) ∙ a.alone v);
      }
    where
      low : (j : ℕ) → j < 2 → across j < 8
      low zero h = omega arith
      low (suc zero) h = omega arith
      low (suc (suc j)) h = absurd (omega arith)

  -- The scan's first command does nothing: T stands on x alone, and no link leads to an object.
  first_along : (m f : List ℕ) → Alongside n x m f → Alongside n x (command (to_tail 0 T T) ws m) f
  first_along m f a =
      let rm : n ≤ length m = omega (arith, a.scan_long) in
      let still : (j v : ℕ) → has j (get_or (command (to_tail 0 T T) ws m) v 0) ≡ has j (get_or m v 0) = λ j v.
      command_at_lem (to_tail 0 T T) ws m n j v links_inside rm ∙ rw (any_none (hits (to_tail 0 T T) m j v) ws (λ w h. rw (none w h) refl)) (or_false (has j (get_or m v 0))) in
      record {
        scan_long = (command_step n 8 (to_tail 0 T T) (omega arith) ws m links_inside rm).long ∙ a.scan_long;
        forward_long = a.forward_long;
        marks = λ j v. still (across j) v ∙ a.marks j v;
        alone = λ v. still T v ∙ a.alone v;
      }
    where
      none : (w : ℕ) → Memᴰ w ws → fires (to_tail 0 T T) m w ≡ false
      none w h =
          let d : eqb x (head_of w) ≡ false = ne_eqb x (head_of w) (λ (e : x ≡ head_of w). omega (arith, (legal w h).head.low)) in
          ap (λ (q : Bool). eqb (w % 2) 0 && q) (a.alone (head_of w) ∙ d) ∙ and_false (eqb (w % 2) 0)

  -- So do rounds.
  round_along : (m f : List ℕ) → Alongside n x m f → Alongside n x (round commands ws m) (round forward ws f)
  unfolding round
  round_along m f a =
      command_along (to_tail 1 T F) (omega arith) _ _
      (command_along (to_head 1 T F) (omega arith) _ _
      (command_along (to_tail 0 F F) (omega arith) _ _
      (command_along (to_head 0 T T) (omega arith) _ _ (first_along m f a))))

  -- A round of the one sets nothing exactly if a round of the other does.
  test_along : (m f : List ℕ) → Alongside n x m f → same m (round commands ws m) ≡ same f (round forward ws f)
  test_along m f a =
      let b = round_along m f a in
      same_test (same m (round commands ws m)) (same f (round forward ws f))
      (λ h. let e : round commands ws m ≡ m = sym (same_eq m (round commands ws m) h) in
      let q : round forward ws f ≡ f = forward_by_scan n x m (round forward ws f) f (rw e at b) a in
      rw q (same_refl f))
      (λ h. let e : round forward ws f ≡ f = sym (same_eq f (round forward ws f) h) in
      let q : round commands ws m ≡ m = scan_by_forward n x (round commands ws m) m f (rw e at b) a in
      rw q (same_refl m))

  -- What two runs with one budget have in common.
  record Together (r s : Scan) : Type 0 where
    pub done : r.done ≡ s.done
    pub count : r.count ≡ s.count
    pub along : Alongside n x r.marks s.marks

  runs_along : (b c : ℕ) (m f : List ℕ) → Alongside n x m f → Together (rounds commands ws c b m) (rounds forward ws c b f)
  runs_along zero c m f a = rw (rounds_none commands ws c 0 m, rounds_none forward ws c 0 f) (record { done = refl; count = refl; along = a })
  runs_along (suc b) c m f a = at (same m (round commands ws m)) refl (runs_along b (suc c) (round commands ws m) (round forward ws f) (round_along m f a))
    where
      at : (q : Bool) → same m (round commands ws m) ≡ q → Together (rounds commands ws (suc c) b (round commands ws m)) (rounds forward ws (suc c) b (round forward ws f))
          → Together (rounds commands ws c (suc b) m) (rounds forward ws c (suc b) f)
      at true t go =
          rw (rounds_last commands ws c b m t, rounds_last forward ws c b f (sym (test_along m f a) ∙ t))
          (record { done = refl; count = refl; along = round_along m f a })
      at false t go = rw (rounds_more commands ws c b m t, rounds_more forward ws c b f (sym (test_along m f a) ∙ t)) go

  abbrev hx : x < n
  hx = omega arith

  none : (j v : ℕ) → has j (get_or (blank n) v 0) ≡ false
  none j v = not_so (has j (get_or (blank n) v 0)) (blank_none n j v)

  start_along : Alongside n x (scan_start n x) (forward_start n x)
  start_along = record {
    scan_long = start_long n x hx;
    forward_long = forward_long n x hx;
    marks = λ j v. scan_starts (across j) v ∙ at j (eqb x v) ∙ sym (forward_starts j v);
    alone = λ v. scan_starts T v ∙ T_alone (eqb x v);
  }
    where
      forward_starts : (j v : ℕ) → has j (get_or (forward_start n x) v 0) ≡ (eqb x v && eqb j T)
      forward_starts j v = mark_at j T x v (blank n) (omega (arith, length-replicate {A = ℕ} n 0)) ∙ rw (none j v)

      scan_starts : (j v : ℕ) → has j (get_or (scan_start n x) v 0) ≡ ((eqb x v && eqb j T) || (eqb x v && eqb j U))
      scan_starts j v = mark_at j U x v (forward_start n x) (omega (arith, forward_long n x hx)) ∙ rw (forward_starts j v)

      at : (j : ℕ) (q : Bool) → ((q && eqb (across j) T) || (q && eqb (across j) U)) ≡ (q && eqb j T)
      at zero true = refl
      at zero false = refl
      at (suc zero) true = refl
      at (suc zero) false = refl
      at (suc (suc j)) true =
          rw (ne_eqb (suc (suc (suc j))) T (λ (e : suc (suc (suc j)) ≡ T). omega arith), ne_eqb (suc (suc (suc j))) U (λ (e : suc (suc (suc j)) ≡ U). omega arith), ne_eqb (suc (suc j)) T (λ (e : suc (suc j) ≡ T). omega arith))
          refl
      at (suc (suc j)) false = refl

      T_alone : (q : Bool) → ((q && eqb T T) || (q && eqb T U)) ≡ q
      T_alone true = refl
      T_alone false = refl

  -- The scans from an object with one budget: both end or neither does, after as many rounds.
  pub object_scan : (b : ℕ) → ((scan n ws x b).done ≡ (forward_scan n ws x b).done) × ((scan n ws x b).count ≡ (forward_scan n ws x b).count)
  object_scan b = let t = runs_along b 0 (scan_start n x) (forward_start n x) start_along in (t.done, t.count)

  -- And their marks stand side by side: U where the forward scan has T, F where it has F, and T on the object alone.
  pub object_marks : (b v : ℕ) → (has U (get_or (scan n ws x b).marks v 0) ≡ has T (get_or (forward_scan n ws x b).marks v 0))
      × (has F (get_or (scan n ws x b).marks v 0) ≡ has F (get_or (forward_scan n ws x b).marks v 0))
      × (has T (get_or (scan n ws x b).marks v 0) ≡ eqb x v)
  object_marks b v = let t = runs_along b 0 (scan_start n x) (forward_start n x) start_along in (t.along.marks T v, t.along.marks F v, t.along.alone v)

  -- From an object a budget of 2N is enough.
  pub object_done : (b : ℕ) → 2 * n ≤ b → (scan n ws x b).done ≡ true
  object_done b h = (object_scan b).0 ∙ forward_done o k ws legal x hx b h

  -- The rounds of both are one number.
  after_along : (i : ℕ) → Alongside n x (after commands ws i (scan_start n x)) (after forward ws i (forward_start n x))
  unfolding after
  after_along zero = start_along
  after_along (suc i) = round_along _ _ (after_along i)

  quiet_along : (i : ℕ) → (after commands ws (suc i) (scan_start n x) ≡ after commands ws i (scan_start n x)) ↔ (after forward ws (suc i) (forward_start n x) ≡ after forward ws i (forward_start n x))
  quiet_along i = (
    (λ e. forward_by_scan n x (after commands ws i (scan_start n x)) _ _ (rw e at (after_along (suc i))) (after_along i)),
    λ e. scan_by_forward n x _ _ (after forward ws i (forward_start n x)) (rw e at (after_along (suc i))) (after_along i),
  )

  pub object_count : (c : ℕ) → Count commands ws (scan_start n x) c ↔ Count forward ws (forward_start n x) c
  object_count c = (
    (λ t. record { last = t.last; number = t.number; quiet = (quiet_along t.last).0 t.quiet; first = λ j l e. t.first j l ((quiet_along j).1 e) }),
    λ t. record { last = t.last; number = t.number; quiet = (quiet_along t.last).1 t.quiet; first = λ j l e. t.first j l ((quiet_along j).0 e) },
  )
