-- What the passes mean: the marks that a pass leaves are those of its commands, one after another, and what is new in its bytes tells whether they set any.
use Prim.Native.Nat.{ℕ, zero, suc, ◌+◌, ◌*◌, ◌%◌, ◌-◌, ◌<◌, ◌≤◌}
use mathlib.Core.Path.{◌≡◌, refl, sym, ap, ◌∙◌}
use mathlib.Core.Bool.{Bool, true, false, not, ◌&&◌, ◌||◌}
use mathlib.Core.List.{List, [], ◌∷◌}
use native.Mathlib.Omega.{arith}
use borrow.Author.Tests.{eqb-true, eqb-false, eq-eqb}
use lib.Dec.{eqb}
use lib.Pow.{mod-pow-add}
use lib.ListN.{length, get_or, drop}
use Rattle.theory_laws.specs.Deciding.{Decides}
use Rattle.theory_laws.proofs.Bits.{bit_and_lem, bits_alike}
use Rattle.theory_laws.proofs.Booleans.{contradiction, neither, not_not}
use Rattle.theory_laws.proofs.Deciding.{decides_same}
use Rattle.theory.specs.Marks.{T, F, U, has, round, to_head, to_tail}
use Rattle.theory.specs.Inside.{Inside}
use Rattle.theory.specs.declared.Command.{Command}
use Rattle.theory.proofs.machine.Growth.{ScanStep, Puts, round_step}
use Rattle.scan_lanes.specs.Lanes.{lane_pass}
use Rattle.scan_lanes.specs.Codes.{bit, is_code, is_marks, isnt_code, isnt_marks, on_nodes, new_in, NoneNew, any_new}
use Rattle.scan_lanes.specs.Passes.{is_commands, isnt_commands}
use Rattle.scan_lanes.proofs.Bytes.{upto, each, turned_bit}
use Rattle.scan_lanes.proofs.Nodes.{nodes_at, nodes_length, nodes_past, nodes_same}
use Rattle.scan_lanes.proofs.Lanes.{turned, Stays, lane_0, lane_1, lane_2, stays_0, stays_1, stays_3, stays_6, pass_length, pass_past, pass_small, pass_stays, pass_lane}
use Rattle.scan_lanes.proofs.Machine.{puts_is, puts_isnt, comes, is_T, is_U, is_F, isnt_other, isnt_F}

-- ── truth values ──
-- F is missing where neither lane put it.
twice_missing : (f p q : Bool) → ((not f && not p) && (not f && not q)) ≡ not (f || (p || q))
twice_missing true p q = refl
twice_missing false true q = refl
twice_missing false false q = refl

-- Of marks that only grow, those of which none is new are the same.
settled : (p q : Bool) → (p ≡ true → q ≡ true) → (q && not p) ≡ false → q ≡ p
settled true q g h = g refl
settled false true g h = contradiction (sym h)
settled false false g h = refl

same_settled : (p q : Bool) → q ≡ p → (q && not p) ≡ false
same_settled true true e = refl
same_settled true false e = refl
same_settled false true e = contradiction (sym e)
same_settled false false e = refl

-- ── one byte ──
-- A number of three bits.
module _ (p q r : ℕ) (hp : p < 2) (hq : q < 2) (hr : r < 2) where
  abbrev three : ℕ
  three = p + q * 2 + r * 4

  first_of : bit 0 three ≡ p
  first_of = omega arith

  second_of : bit 1 three ≡ q
  second_of = omega arith

  third_of : bit 2 three ≡ r
  third_of = omega arith

-- The marks of a byte of the pass over "is".
module _ (e : ℕ) where
  abbrev x : ℕ
  x = 1 - bit 4 e

  abbrev y : ℕ
  y = 1 - bit 5 e

  abbrev z : ℕ
  z = 1 - bit 2 e

  pub is_marks_low : is_marks e < 8
  is_marks_low = omega arith

  is_marks_T : has T (is_marks e) ≡ not (has 4 e)
  is_marks_T = turned (bit 4 e) (omega arith) (first_of x y z (omega arith) (omega arith) (omega arith))

  is_marks_F : has F (is_marks e) ≡ not (has 5 e)
  is_marks_F = turned (bit 5 e) (omega arith) (second_of x y z (omega arith) (omega arith) (omega arith))

  is_marks_U : has U (is_marks e) ≡ not (has 2 e)
  is_marks_U = turned (bit 2 e) (omega arith) (third_of x y z (omega arith) (omega arith) (omega arith))

both_bits : (x y : ℕ) → x < 2 → y < 2 → (x * y < 2) × (eqb (x * y) 1 ≡ (eqb x 1 && eqb y 1))
both_bits zero zero p q = (omega arith, refl)
both_bits zero (suc zero) p q = (omega arith, refl)
both_bits (suc zero) zero p q = (omega arith, refl)
both_bits (suc zero) (suc zero) p q = (omega arith, refl)
both_bits zero (suc (suc y)) p q = absurd (omega arith)
both_bits (suc zero) (suc (suc y)) p q = absurd (omega arith)
both_bits (suc (suc x)) y p q = absurd (omega arith)

-- The marks of a byte of the pass over "is not".
module _ (e : ℕ) where
  abbrev f : ℕ
  f = bit 2 e * bit 4 e

  f_small : f < 2
  f_small = (both_bits (bit 2 e) (bit 4 e) (omega arith) (omega arith)).0

  isnt_marks_low : isnt_marks e < 8
  isnt_marks_low = omega (arith, f_small)

  isnt_marks_T : has T (isnt_marks e) ≡ has 3 e
  isnt_marks_T = ap (λ (x : ℕ). eqb x 1) (first_of (bit 3 e) (1 - f) (bit 0 e) (omega arith) (omega arith) (omega arith))

  isnt_marks_F : has F (isnt_marks e) ≡ not (has 2 e && has 4 e)
  isnt_marks_F =
      turned f f_small (second_of (bit 3 e) (1 - f) (bit 0 e) (omega arith) (omega arith) (omega arith))
      ∙ ap not (both_bits (bit 2 e) (bit 4 e) (omega arith) (omega arith)).1

  isnt_marks_U : has U (isnt_marks e) ≡ has 0 e
  isnt_marks_U = ap (λ (x : ℕ). eqb x 1) (third_of (bit 3 e) (1 - f) (bit 0 e) (omega arith) (omega arith) (omega arith))

-- A bit is new in a byte where it is written and did not stand.
new_at : (g : ℕ → ℕ) (i e : ℕ) → i < 8 → e < 256 → has i (new_in g e) ≡ (has i (is_code (g e)) && not (has i e))
new_at g i e l h =
    bit_and_lem i (is_code (g e)) (255 - e) ∙ ap (λ (q : Bool). has i (is_code (g e)) && q) (turned (bit i e) (omega arith) (turned_bit i e l h))

-- ── how marks are written: bit by bit, for every byte of marks ──
module _ (code : ℕ → ℕ) (k j : ℕ) where
  -- Bit k says that marker j stands, or that it is missing.
  abbrev Stands : Type 0
  Stands = upto 8 (λ (b : ℕ). eqb (bit k (code b)) (bit j b)) ≡ true

  abbrev Lacks : Type 0
  Lacks = upto 8 (λ (b : ℕ). eqb (bit k (code b)) (1 - bit j b)) ≡ true

  as_is : Stands → (b : ℕ) → b < 8 → has k (code b) ≡ has j b
  as_is e b l = ap (λ (x : ℕ). eqb x 1) (each 8 (λ b. bit k (code b)) (bit j) e b l)

  as_missing : Lacks → (b : ℕ) → b < 8 → has k (code b) ≡ not (has j b)
  as_missing e b l = turned (bit j b) (omega arith) (each 8 (λ b. bit k (code b)) (λ b. 1 - bit j b) e b l)

-- ── marks of n nodes ──
-- Bytes of T, F and U alone that have the same markers are the same.
marks_alike : (a b : ℕ) → a < 8 → b < 8 → has T a ≡ has T b → has F a ≡ has F b → has U a ≡ has U b → a ≡ b
marks_alike a b p q t f u = bits_alike 3 a b p q at
  where
    at : (j : ℕ) → j < 3 → has j a ≡ has j b
    at zero l = t
    at (suc zero) l = f
    at (suc (suc zero)) l = u
    at (suc (suc (suc j))) l = absurd (omega arith)

nodes_itself : (n : ℕ) (m : List ℕ) → on_nodes (λ (x : ℕ). x) n m ≡ m
unfolding on_nodes
nodes_itself zero m = refl
nodes_itself (suc n) [] = refl
nodes_itself (suc n) (b ∷ m) = ap (λ (r : List ℕ). b ∷ r) (nodes_itself n m)

-- T, F and U are missing among bits 0, 1 and 6.
no_bit : (x : ℕ) → x < 2 → eqb x 1 ≡ false → x ≡ 0
no_bit x l e = let d = eqb-false x 1 e in omega arith

not_either : (p q : Bool) → not (p || not q) ≡ true → (p ≡ false) × (q ≡ true)
not_either false true h = (refl, refl)
not_either false false h = contradiction h
not_either true q h = contradiction h

bit_missing : (i r : ℕ) → not (has i r) ≡ true → has i r ≡ false
bit_missing i r h = at (has i r) h
  where
    at : (q : Bool) → not q ≡ true → q ≡ false
    at true h = contradiction h
    at false h = refl

module _ (r : ℕ) where
  low_two : r % 4 ≡ bit 1 r * 2 + bit 0 r
  low_two =
      let first : r % 2 ≡ bit 0 r = omega arith in
      mod-pow-add r 1 1 ∙ ap (λ (x : ℕ). bit 1 r * 2 + x) first

  none_new : not (any_new r) ≡ true → (not (has 0 r) ≡ true) × (not (has 1 r) ≡ true) × (not (has 6 r) ≡ true)
  none_new h =
      let s = not_either (has 6 r) (eqb (r % 4) 0) h in
      let z : bit 1 r * 2 + bit 0 r ≡ 0 = sym low_two ∙ eqb-true (r % 4) 0 s.1 in
      let a : bit 0 r ≡ 0 = omega (arith, z) in
      let b : bit 1 r ≡ 0 = omega (arith, z) in
      (rw a, rw b, rw s.0)

  new_none : not (has 0 r) ≡ true → not (has 1 r) ≡ true → not (has 6 r) ≡ true → not (any_new r) ≡ true
  new_none a b c =
      let x : bit 0 r ≡ 0 = no_bit (bit 0 r) (omega arith) (bit_missing 0 r a) in
      let y : bit 1 r ≡ 0 = no_bit (bit 1 r) (omega arith) (bit_missing 1 r b) in
      let z : r % 4 ≡ 0 = low_two ∙ rw (x, y) in
      rw (bit_missing 6 r c, eq-eqb (r % 4) 0 z)

-- A round of some commands, from the marks m.
module _ (n : ℕ) (ws : List ℕ) (inside : Inside n ws) (m : List ℕ) (room : n ≤ length m) (low : (v : ℕ) → v < n → get_or m v 0 < 8) where
  abbrev Kept : List ℕ → ℕ → Type 0
  Kept a j = (v : ℕ) → v < n → has j (get_or a v 0) ≡ has j (get_or m v 0)

  module _ (cs : List Command) (puts : Puts 3 cs) where
    abbrev a : List ℕ
    a = round cs ws m

    step : ScanStep n 3 m a
    step = round_step n 3 cs puts ws m inside room

    -- Marks of which all three markers are kept are the same.
    kept_same : Kept a T → Kept a F → Kept a U → a ≡ m
    kept_same t f u =
        let s = nodes_same (λ (x : ℕ). x) (λ (x : ℕ). x) n a m step.long (λ v l. marks_alike (get_or a v 0) (get_or m v 0) (step.low low v l) (low v l) (t v l) (f v l) (u v l)) step.past
        (omega (arith, step.long)) in
        sym (nodes_itself n a) ∙ s ∙ nodes_itself n m

    -- Bytes e of a pass that stand for these marks, folded by g, are the marks written for the pass over "is".
    folded : (g : ℕ → ℕ) (e : List ℕ) → length e ≡ length m → drop n e ≡ drop n m → ((v : ℕ) → v < n → g (get_or e v 0) < 8)
        → ((v : ℕ) → v < n → has T (g (get_or e v 0)) ≡ has T (get_or a v 0)) → ((v : ℕ) → v < n → has F (g (get_or e v 0)) ≡ has F (get_or a v 0))
        → ((v : ℕ) → v < n → has U (g (get_or e v 0)) ≡ has U (get_or a v 0)) → on_nodes (λ (x : ℕ). is_code (g x)) n e ≡ on_nodes is_code n a
    folded g e long past small t f u =
        nodes_same (λ (x : ℕ). is_code (g x)) is_code n e a (long ∙ sym step.long)
        (λ v l. ap is_code (marks_alike (g (get_or e v 0)) (get_or a v 0) (small v l) (step.low low v l) (t v l) (f v l) (u v l))) (past ∙ sym step.past) (omega (arith, long))

    -- What is new in the bytes e, by bit i, tells whether marker j is kept.
    told : (g : ℕ → ℕ) (e : List ℕ) (i j r : ℕ) → ((v : ℕ) → v < n → has i (new_in g (get_or e v 0)) ≡ (has j (get_or a v 0) && not (has j (get_or m v 0))))
        → ((v : ℕ) → has j (get_or m v 0) ≡ true → has j (get_or a v 0) ≡ true) → NoneNew g i n e r → Decides (not (has i r)) (Kept a j)
    told g e i j r at grows d =
        decides_same (not (has i r)) d (λ f v l. settled (has j (get_or m v 0)) (has j (get_or a v 0)) (grows v) (sym (at v l) ∙ f v l))
        (λ k v l. at v l ∙ same_settled (has j (get_or m v 0)) (has j (get_or a v 0)) (k v l))

  grown : (p r : Bool) {q : Bool} → q ≡ (p || r) → p ≡ true → q ≡ true
  grown true r e h = e
  grown false r e h = contradiction h

  -- A bit that is the turned one of a missing mark.
  present : (q : Bool) {x y : Bool} → x ≡ not y → y ≡ not q → x ≡ q
  present q h k = rw (h, k) (not_not q)

  -- ── a pass from the marks as a code writes them ──
  module _ (code : ℕ → ℕ) where
    abbrev written : List ℕ
    written = on_nodes code n m

    written_room : n ≤ length written
    written_room = omega (arith, nodes_length code n m)

    -- The bits of a node that say which markers stand, and which are missing.
    stood : (k j : ℕ) → Stands code k j → (v : ℕ) → v < n → has k (get_or written v 0) ≡ has j (get_or m v 0)
    stood k j e v l = ap (has k) (nodes_at code n m v l (omega arith)) ∙ as_is code k j e (get_or m v 0) (low v l)

    lacked : (k j : ℕ) → Lacks code k j → (v : ℕ) → v < n → has k (get_or written v 0) ≡ not (has j (get_or m v 0))
    lacked k j e v l = ap (has k) (nodes_at code n m v l (omega arith)) ∙ as_missing code k j e (get_or m v 0) (low v l)

    module _ (sign : ℕ) where
      abbrev passed : List ℕ
      passed = lane_pass sign ws written

      passed_long : length passed ≡ length m
      passed_long = pass_length n sign ws written inside written_room ∙ nodes_length code n m

      passed_past : drop n passed ≡ drop n m
      passed_past = pass_past n sign ws written inside written_room ∙ nodes_past code n m

      passed_small : ((b : ℕ) → code b < 256) → (v : ℕ) → v < n → get_or passed v 0 < 256
      passed_small small = pass_small n sign ws written inside written_room (λ v l. rw (nodes_at code n m v l (omega arith)) (small (get_or m v 0)))

      -- A bit that stays says after the pass what it said before.
      still : (k j : ℕ) → Stays k → Stands code k j → (v : ℕ) → v < n → has k (get_or passed v 0) ≡ has j (get_or m v 0)
      still k j stay e v l = pass_stays n sign k stay ws written inside written_room v ∙ stood k j e v l

      -- Where this code and that of "is" have bit i for marker j, it is new where the marks a, which g reads in the bytes, have the marker and it did not stand.
      new_mark : (g : ℕ → ℕ) (a : List ℕ) (i j : ℕ) → ((b : ℕ) → code b < 256) → ((b : ℕ) → g b < 8) → i < 8 → Stays i → Stands is_code i j → Stands code i j
          → ((v : ℕ) → v < n → has j (g (get_or passed v 0)) ≡ has j (get_or a v 0))
          → (v : ℕ) → v < n → has i (new_in g (get_or passed v 0)) ≡ (has j (get_or a v 0) && not (has j (get_or m v 0)))
      new_mark g a i j small few k stay now before put v l =
          new_at g i (get_or passed v 0) k (passed_small small v l)
          ∙ rw (as_is is_code i j now (g (get_or passed v 0)) (few (get_or passed v 0)), put v l, still i j stay before v l)

  -- ── the pass over "is" ──
  abbrev e : List ℕ
  e = passed is_code 0

  abbrev after : List ℕ
  after = round is_commands ws m

  -- A mark that was missing is missing still where no link puts it.
  missing : (p c : Bool) {x y z : Bool} → x ≡ (y && not c) → y ≡ not p → z ≡ (p || c) → x ≡ not z
  missing p c h k g = rw (h, k, g) (sym (neither p c))

  missing_T : (v : ℕ) → v < n → has 4 (get_or e v 0) ≡ not (has T (get_or after v 0))
  unfolding upto
  missing_T v l =
      missing (has T (get_or m v 0)) (comes n ws inside m room v (to_tail 0 T T))
      (pass_lane (to_tail 0 T T) 0 4 n (lane_0 0 T T) stays_0 m ws (written is_code) inside (written_room is_code) (stood is_code 0 T refl) v)
      (lacked is_code 4 T refl v l) (is_T n ws inside m room v)

  missing_F : (v : ℕ) → v < n → has 5 (get_or e v 0) ≡ not (has F (get_or after v 0))
  unfolding upto
  missing_F v l =
      missing (has F (get_or m v 0)) (comes n ws inside m room v (to_tail 0 F F))
      (pass_lane (to_tail 0 F F) 1 5 n (lane_1 0 F F) stays_1 m ws (written is_code) inside (written_room is_code) (stood is_code 1 F refl) v)
      (lacked is_code 5 F refl v l) (is_F n ws inside m room v)

  missing_U : (v : ℕ) → v < n → has 2 (get_or e v 0) ≡ not (has U (get_or after v 0))
  unfolding upto
  missing_U v l =
      missing (has U (get_or m v 0)) (comes n ws inside m room v (to_head 0 U U))
      (pass_lane (to_head 0 U U) 6 2 n (lane_2 0 U U) stays_6 m ws (written is_code) inside (written_room is_code) (stood is_code 6 U refl) v)
      (lacked is_code 2 U refl v l) (is_U n ws inside m room v)

  code_small : (b : ℕ) → is_code b < 256
  code_small b = omega arith

  put_T : (v : ℕ) → v < n → has T (is_marks (get_or e v 0)) ≡ has T (get_or after v 0)
  put_T v l = present (has T (get_or after v 0)) (is_marks_T (get_or e v 0)) (missing_T v l)

  put_F : (v : ℕ) → v < n → has F (is_marks (get_or e v 0)) ≡ has F (get_or after v 0)
  put_F v l = present (has F (get_or after v 0)) (is_marks_F (get_or e v 0)) (missing_F v l)

  put_U : (v : ℕ) → v < n → has U (is_marks (get_or e v 0)) ≡ has U (get_or after v 0)
  put_U v l = present (has U (get_or after v 0)) (is_marks_U (get_or e v 0)) (missing_U v l)

  -- The pass over "is", folded, is the first three commands of a round.
  pub is_pass : on_nodes (λ (x : ℕ). is_code (is_marks x)) n (lane_pass 0 ws (on_nodes is_code n m)) ≡ on_nodes is_code n (round is_commands ws m)
  is_pass =
      folded is_commands puts_is is_marks e (passed_long is_code 0) (passed_past is_code 0) (λ v l. is_marks_low (get_or e v 0)) put_T put_F put_U

  module _ (r : ℕ) (h : (i : ℕ) → i < 8 → NoneNew is_marks i n e r) where
    kept_T : Decides (not (has 0 r)) (Kept after T)
    unfolding upto
    kept_T =
        told is_commands puts_is is_marks e 0 T r (new_mark is_code 0 is_marks after 0 T code_small is_marks_low (omega arith) stays_0 refl refl put_T)
        (λ v. grown (has T (get_or m v 0)) (comes n ws inside m room v (to_tail 0 T T)) (is_T n ws inside m room v)) (h 0 (omega arith))

    kept_F : Decides (not (has 1 r)) (Kept after F)
    unfolding upto
    kept_F =
        told is_commands puts_is is_marks e 1 F r (new_mark is_code 0 is_marks after 1 F code_small is_marks_low (omega arith) stays_1 refl refl put_F)
        (λ v. grown (has F (get_or m v 0)) (comes n ws inside m room v (to_tail 0 F F)) (is_F n ws inside m room v)) (h 1 (omega arith))

    kept_U : Decides (not (has 6 r)) (Kept after U)
    unfolding upto
    kept_U =
        told is_commands puts_is is_marks e 6 U r (new_mark is_code 0 is_marks after 6 U code_small is_marks_low (omega arith) stays_6 refl refl put_U)
        (λ v. grown (has U (get_or m v 0)) (comes n ws inside m room v (to_head 0 U U)) (is_U n ws inside m room v)) (h 6 (omega arith))

    -- Nothing is new exactly if these commands set nothing.
    pub is_quiet : Decides (not (any_new r)) (round is_commands ws m ≡ m)
    is_quiet = (
      λ q. let (t, f, u) = none_new r q in kept_same is_commands puts_is (kept_T.0 t) (kept_F.0 f) (kept_U.0 u),
      λ q. new_none r (kept_T.1 (λ v l. rw q)) (kept_F.1 (λ v l. rw q)) (kept_U.1 (λ v l. rw q)),
    )

    -- Bit 6 is missing only if no U has come.
    pub u_quiet : has 6 r ≡ false → (v : ℕ) → v < n → has U (get_or (round is_commands ws m) v 0) ≡ has U (get_or m v 0)
    u_quiet q = kept_U.0 (rw q)

  -- ── the pass over "is not" ──
  abbrev d : List ℕ
  d = passed isnt_code 1

  abbrev crossed : List ℕ
  crossed = round isnt_commands ws m

  -- F is missing after the pass where neither command puts it.
  f_missing : (v : ℕ) → v < n → (has 2 (get_or d v 0) && has 4 (get_or d v 0)) ≡ not (has F (get_or crossed v 0))
  unfolding upto
  f_missing v l =
      rw (
        pass_lane (to_head 1 U F) 6 2 n (lane_2 1 U F) stays_6 m ws (written isnt_code) inside (written_room isnt_code) (stood isnt_code 6 U refl) v,
        pass_lane (to_tail 1 U F) 0 4 n (lane_0 1 U F) stays_0 m ws (written isnt_code) inside (written_room isnt_code) (stood isnt_code 0 U refl) v,
        lacked isnt_code 2 F refl v l,
        lacked isnt_code 4 F refl v l,
        isnt_F n ws inside m room v,
      )
      (twice_missing (has F (get_or m v 0)) (comes n ws inside m room v (to_head 1 U F)) (comes n ws inside m room v (to_tail 1 U F)))

  t_kept : (v : ℕ) → has T (get_or crossed v 0) ≡ has T (get_or m v 0)
  t_kept v = isnt_other n ws inside m room v T (λ (e : T ≡ F). omega arith)

  u_kept : (v : ℕ) → has U (get_or crossed v 0) ≡ has U (get_or m v 0)
  u_kept v = isnt_other n ws inside m room v U (λ (e : U ≡ F). omega arith)

  put_crossed : (v : ℕ) → v < n → has F (isnt_marks (get_or d v 0)) ≡ has F (get_or crossed v 0)
  put_crossed v l = present (has F (get_or crossed v 0)) (isnt_marks_F (get_or d v 0)) (f_missing v l)

  -- The pass over "is not", folded, is the last two commands of a round.
  pub isnt_pass : on_nodes (λ (x : ℕ). is_code (isnt_marks x)) n (lane_pass 1 ws (on_nodes isnt_code n m)) ≡ on_nodes is_code n (round isnt_commands ws m)
  unfolding upto
  isnt_pass =
      folded isnt_commands puts_isnt isnt_marks d (passed_long isnt_code 1) (passed_past isnt_code 1) (λ v l. isnt_marks_low (get_or d v 0))
      (λ v l. isnt_marks_T (get_or d v 0) ∙ still isnt_code 1 3 T stays_3 refl v l ∙ sym (t_kept v)) put_crossed
      (λ v l. isnt_marks_U (get_or d v 0) ∙ still isnt_code 1 0 U stays_0 refl v l ∙ sym (u_kept v))

  isnt_code_small : (b : ℕ) → isnt_code b < 256
  isnt_code_small b = omega arith

  -- Bit 1 is missing exactly if these commands set nothing.
  pub isnt_quiet : (r : ℕ) → NoneNew isnt_marks 1 n (lane_pass 1 ws (on_nodes isnt_code n m)) r → Decides (not (has 1 r)) (round isnt_commands ws m ≡ m)
  unfolding upto
  isnt_quiet r h =
      let f = told isnt_commands puts_isnt isnt_marks d 1 F r
      (new_mark isnt_code 1 isnt_marks crossed 1 F isnt_code_small isnt_marks_low (omega arith) stays_1 refl refl put_crossed)
      (λ v. grown (has F (get_or m v 0)) (comes n ws inside m room v (to_head 1 U F) || comes n ws inside m room v (to_tail 1 U F)) (isnt_F n ws inside m room v)) h in
      (λ q. kept_same isnt_commands puts_isnt (λ v l. t_kept v) (f.0 q) (λ v l. u_kept v), λ q. f.1 (λ v l. rw q))
