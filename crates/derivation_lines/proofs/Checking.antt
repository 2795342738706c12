-- The check of a derivation says yes exactly to derivations.
use Prim.Native.Nat.{ℕ, zero, suc, ◌+◌, ◌-◌, ◌≤◌, ◌<◌}
use mathlib.Core.Path.{◌≡◌, refl, ap}
use mathlib.Core.Bool.{Bool, true, false≢true}
use mathlib.Core.List.{List}
use native.Mathlib.Omega.{arith}
use native.Mathlib.Decide.{dec_lt}
use lib.Dec.{eqb, ltb, leb}
use lib.ListN.{length, get_or, drop, drop_of_length-le}
use lib.Seq.{drop-cons}
use Rattle.theory_laws.specs.Deciding.{Decides}
use Rattle.theory_laws.proofs.Deciding.{decides_equal, decides_below, decides_most, decides_both, decides_same}
use Rattle.theory.specs.Words.{Sign, is, isnt, sign_number, tail_of, head_of, parity}
use Rattle.theory.specs.Nets.{Kind}
use Rattle.theory.specs.Origins.{plain_of, chooses}
use Rattle.derivation_lines.specs.Lines.{Line, line, blank, Ground, link, r1, r2, r3, r4, r5, none, WordSays, Above, Follows, by_link, by_1, by_2, by_3, by_4, by_5, Derivation, Derives}
use Rattle.derivation_lines.specs.Tests.{is_kind, word_says, is_above, grounds, follows, all_follow, checks, derives}

-- Signs that are written alike are the same.
same_sign : (s t : Sign) → sign_number s ≡ sign_number t → s ≡ t
same_sign is is e = refl
same_sign isnt isnt e = refl
same_sign is isnt e = absurd (omega arith)
same_sign isnt is e = absurd (omega arith)

decides_sign : (s t : Sign) → Decides (eqb (sign_number s) (sign_number t)) (s ≡ t)
decides_sign s t = decides_same _ (decides_equal (sign_number s) (sign_number t)) (same_sign s t) (ap sign_number)

decides_kind : (o k p : ℕ) → Decides (is_kind o k p) (Kind o k p)
decides_kind o k p =
    decides_same _ (decides_both (leb o p) (ltb p (o + k)) (decides_most o p) (decides_below p (o + k))) (λ q. record { low = q.0; high = q.1 }) (λ h. (h.low, h.high))

-- A test that passes.
decides_passes : (b : Bool) → Decides b (b ≡ true)
decides_passes b = (λ e. e, λ e. e)

pub decides_word : (set : ℕ) (ws : List ℕ) (i x y : ℕ) (s : Sign) → Decides (word_says set ws i x y s) (WordSays set ws i x y s)
decides_word set ws i x y s =
    let w = get_or ws i 0 in
    let v = plain_of w in
    decides_same _
    (decides_both (ltb i (length ws)) _ (decides_below i (length ws)) (decides_both (chooses set w) _ (decides_passes (chooses set w))
    (decides_both (eqb (tail_of v) x) _ (decides_equal (tail_of v) x)
    (decides_both (eqb (head_of v) y) _ (decides_equal (head_of v) y) (decides_equal (parity v) (sign_number s))))))
    (λ q. let (a, (b, (c, (d, e)))) = q in record { listed = a; picked = b; tail = c; head = d; sign = e })
    (λ r. (r.listed, (r.picked, (r.tail, (r.head, r.sign)))))

pub decides_above : (ls : List Line) (n j x y : ℕ) (s : Sign) → Decides (is_above ls n j x y s) (Above ls n j x y s)
decides_above ls n j x y s =
    let l = get_or ls j blank in
    decides_same _
    (decides_both (ltb j n) _ (decides_below j n) (decides_both (eqb l.tail x) _ (decides_equal l.tail x)
    (decides_both (eqb l.head y) _ (decides_equal l.head y) (decides_sign l.sign s))))
    (λ q. let (a, (b, (c, d))) = q in record { above = a; tail = b; head = c; sign = d })
    (λ w. (w.above, (w.tail, (w.head, w.sign))))

module _ (o k set : ℕ) (ws : List ℕ) (ls : List Line) (n : ℕ) where
  -- The head of a line: the middle kind of (3.2), (3.4) and (3.5) is that of the line named first.
  abbrev middle : ℕ → ℕ
  middle i = (get_or ls i blank).head

  -- What a ground asks of x → y, or x ↛ y, as the test asks it.
  abbrev Asks : ℕ → ℕ → Sign → Ground → Type 0
  Asks x y s (link i) = WordSays set ws i x y s
  Asks x y s r1 = (s ≡ is) × ((x ≡ y) × Kind o k x)
  Asks x y s (r2 i j) = (s ≡ is) × (Kind o k (middle i) × (Kind o k y × (Above ls n i x (middle i) is × Above ls n j (middle i) y is)))
  Asks x y s (r3 i) = (s ≡ isnt) × (Kind o k y × (Kind o k x × Above ls n i y x isnt))
  Asks x y s (r4 i j) = (s ≡ isnt) × (Kind o k (middle i) × (Kind o k y × (Above ls n i x (middle i) is × Above ls n j (middle i) y isnt)))
  Asks x y s (r5 i j) = (s ≡ isnt) × (Kind o k y × (Kind o k (middle i) × ((x < o) × (Above ls n i y (middle i) is × Above ls n j x (middle i) isnt))))
  Asks x y s none = ⊥

  decides_ground : (x y : ℕ) (s : Sign) (g : Ground) → Decides (grounds o k set ws ls n x y s g) (Asks x y s g)
  unfolding grounds
  decides_ground x y s (link i) = decides_word set ws i x y s
  decides_ground x y s r1 = decides_both (eqb (sign_number s) 0) _ (decides_sign s is) (decides_both (eqb x y) _ (decides_equal x y) (decides_kind o k x))
  decides_ground x y s (r2 i j) =
      let q = middle i in
      decides_both (eqb (sign_number s) 0) _ (decides_sign s is)
      (decides_both (is_kind o k q) _ (decides_kind o k q) (decides_both (is_kind o k y) _ (decides_kind o k y)
      (decides_both (is_above ls n i x q is) _ (decides_above ls n i x q is) (decides_above ls n j q y is))))
  decides_ground x y s (r3 i) =
      decides_both (eqb (sign_number s) 1) _ (decides_sign s isnt)
      (decides_both (is_kind o k y) _ (decides_kind o k y) (decides_both (is_kind o k x) _ (decides_kind o k x) (decides_above ls n i y x isnt)))
  decides_ground x y s (r4 i j) =
      let q = middle i in
      decides_both (eqb (sign_number s) 1) _ (decides_sign s isnt)
      (decides_both (is_kind o k q) _ (decides_kind o k q) (decides_both (is_kind o k y) _ (decides_kind o k y)
      (decides_both (is_above ls n i x q is) _ (decides_above ls n i x q is) (decides_above ls n j q y isnt))))
  decides_ground x y s (r5 i j) =
      let q = middle i in
      decides_both (eqb (sign_number s) 1) _ (decides_sign s isnt)
      (decides_both (is_kind o k y) _ (decides_kind o k y) (decides_both (is_kind o k q) _ (decides_kind o k q)
      (decides_both (ltb x o) _ (decides_below x o) (decides_both (is_above ls n i y q is) _ (decides_above ls n i y q is) (decides_above ls n j x q isnt)))))
  decides_ground x y s none = (λ e. absurd (false≢true e), λ e. absurd e)

  -- A line that follows has what its ground asks, and the other way round.
  follows_asks : (l : Line) → Follows o k set ws ls n l → Asks l.tail l.head l.sign l.ground
  follows_asks l (by_link i e w) = rw e w
  follows_asks l (by_1 p e c) = rw e (refl, (refl, c))
  follows_asks l (by_2 x q r i j e c d a b) = rw (e, a.head) (refl, (c, (d, (a, b))))
  follows_asks l (by_3 p q i e c d a) = rw e (refl, (c, (d, a)))
  follows_asks l (by_4 x q r i j e c d a b) = rw (e, a.head) (refl, (c, (d, (a, b))))
  follows_asks l (by_5 p q t i j e c d f a b) = rw (e, a.head) (refl, (c, (d, (f, (a, b)))))

  asks_follows : (x y : ℕ) (s : Sign) (g : Ground) → Asks x y s g → Follows o k set ws ls n (line x y s g)
  asks_follows x y s (link i) w = by_link i refl w
  asks_follows x y s r1 (e, (f, c)) = by_1 x (rw (e, f) refl) c
  asks_follows x y s (r2 i j) (e, (c, (d, (a, b)))) = by_2 x (middle i) y i j (rw e refl) c d a b
  asks_follows x y s (r3 i) (e, (c, (d, a))) = by_3 y x i (rw e refl) c d a
  asks_follows x y s (r4 i j) (e, (c, (d, (a, b)))) = by_4 x (middle i) y i j (rw e refl) c d a b
  asks_follows x y s (r5 i j) (e, (c, (d, (f, (a, b))))) = by_5 y (middle i) x i j (rw e refl) c d f a b
  asks_follows x y s none e = absurd e

  -- The test of one line.
  pub decides_follows : (l : Line) → Decides (follows o k set ws ls n l) (Follows o k set ws ls n l)
  decides_follows l = decides_same _ (decides_ground l.tail l.head l.sign l.ground) (asks_follows l.tail l.head l.sign l.ground) (follows_asks l)

module _ (o k set : ℕ) (ws : List ℕ) (ls : List Line) where
  -- Line n and those after it follow.
  abbrev From : ℕ → Type 0
  From n = (i : ℕ) → n ≤ i → i < length ls → Follows o k set ws ls i (get_or ls i blank)

  from_go : (n : ℕ) → Follows o k set ws ls n (get_or ls n blank) × From (suc n) → From n
  from_go n (f, g) i h b = at (dec_lt n i)
    where
      at : Dec (n < i) → Follows o k set ws ls i (get_or ls i blank)
      at (yes j) = g i (omega arith) b
      at (no j) = let e : i ≡ n = omega arith in rw e f

  decides_from : (m n : ℕ) → n + m ≡ length ls → Decides (all_follow o k set ws ls n (drop n ls)) (From n)
  unfolding all_follow
  decides_from zero n e = rw (drop_of_length-le ls {i = n} (omega arith)) (λ q i h b. absurd (omega arith), λ f. refl)
  decides_from (suc m) n e =
      rw (drop-cons ls n blank (omega arith))
      (decides_same _ (decides_both (follows o k set ws ls n (get_or ls n blank)) _ (decides_follows o k set ws ls n (get_or ls n blank)) (decides_from m (suc n) (omega arith)))
      (from_go n) (λ f. (f n (omega arith) (omega arith), λ i h b. f i (omega arith) b)))

  -- The check says yes exactly to derivations.
  pub checks_exactly : Decides (checks o k set ws ls) (Derivation o k set ws ls)
  checks_exactly = decides_same _ (decides_from (length ls) 0 (omega arith)) (λ f i b. f i (omega arith) b) (λ d i h b. d i b)

  -- With the last line: exactly to derivations of the statement.
  pub derives_exactly : (x y : ℕ) (s : Sign) → Decides (derives o k set ws ls x y s) (Derives o k set ws ls x y s)
  derives_exactly x y s =
      decides_same _ (decides_both (is_above ls (length ls) (length ls - 1) x y s) _ (decides_above ls (length ls) (length ls - 1) x y s) checks_exactly)
      (λ q. record { lines = q.1; last = q.0 }) (λ d. (d.last, d.lines))
