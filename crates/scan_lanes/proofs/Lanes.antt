-- What a link and a pass do to the bits of the nodes' bytes: those that are tested stay, and of those that ask for a mark just the ones are struck out that a command would answer.
use Prim.Native.Nat.{ℕ, zero, suc, ◌+◌, ◌*◌, ◌/◌, ◌%◌, ◌-◌, ◌<◌, ◌≤◌}
use mathlib.Core.Path.{◌≡◌, refl, sym, ap, ◌∙◌}
use mathlib.Core.Bool.{Bool, true, false, cond, not, ◌&&◌, ◌||◌}
use mathlib.Core.List.{List, [], ◌∷◌}
use native.Mathlib.Omega.{arith}
use borrow.Author.Tests.{eqb-true, eqb-false, eq-eqb}
use lib.Dec.{eqb}
use lib.Bits.{bit_and, and_le_l, and_le_r}
use lib.Pow.{shr-shr}
use lib.ListN.{length, get_or, set, drop, length-set}
use lib.Seq.{get_or-set_same, get_or-set_other, drop-set-lt}
use Rattle.theory_laws.proofs.Booleans.{and_true, or_true, cond_same}
use Rattle.theory_laws.proofs.Bits.{bit_and_lem}
use Rattle.theory.specs.Words.{tail_of, head_of, parity}
use Rattle.theory.specs.Marks.{has, near, far, to_head, to_tail}
use Rattle.theory.specs.Inside.{Ends, Inside}
use Rattle.theory.specs.declared.Command.{Command}
use Rattle.theory.proofs.Inside.{near_in, inside_first, inside_rest}
use Rattle.theory.proofs.machine.Commands.{any, hits}
use Rattle.scan_lanes.specs.Lanes.{open_lanes, strike, put_lanes, lane_link, lane_pass}
use Rattle.scan_lanes.specs.Codes.{bit}
use Rattle.scan_lanes.proofs.Bytes.{upto, upto_at, each}

-- A bit that is one less another bit.
pub turned : (x : ℕ) {y : ℕ} → x < 2 → y ≡ 1 - x → eqb y 1 ≡ not (eqb x 1)
turned zero l e = rw e
turned (suc zero) l e = rw e
turned (suc (suc x)) l e = absurd (omega arith)

-- ── one byte ──
-- The bits that are left at a link's tail, and at its head, where the lanes f were struck out.
abbrev at_tail : ℕ → ℕ
at_tail f = 255 - f % 4 * 16

abbrev at_head : ℕ → ℕ
at_head f = 255 - f / 4 * 4

tail_bits : (k f : ℕ) → k < 8 → f < 8 → bit k (at_tail f) ≡ cond (eqb k 4) (1 - bit 0 f) (cond (eqb k 5) (1 - bit 1 f) 1)
unfolding upto
tail_bits k f l h =
    each 8 (λ f. bit k (at_tail f)) (λ f. cond (eqb k 4) (1 - bit 0 f) (cond (eqb k 5) (1 - bit 1 f) 1))
    (upto_at 8 (λ k. upto 8 (λ f. eqb (bit k (at_tail f)) (cond (eqb k 4) (1 - bit 0 f) (cond (eqb k 5) (1 - bit 1 f) 1)))) refl k l) f h

head_bits : (k f : ℕ) → k < 8 → f < 8 → bit k (at_head f) ≡ cond (eqb k 2) (1 - bit 2 f) 1
unfolding upto
head_bits k f l h =
    each 8 (λ f. bit k (at_head f)) (λ f. cond (eqb k 2) (1 - bit 2 f) 1)
    (upto_at 8 (λ k. upto 8 (λ f. eqb (bit k (at_head f)) (cond (eqb k 2) (1 - bit 2 f) 1))) refl k l) f h

-- ── one link ──
module _ (x t v k : ℕ) (m : List ℕ) (l : t < length m) where
  struck : (q : Bool) → eqb t v ≡ q → has k (get_or (strike x t m) v 0) ≡ (has k (get_or m v 0) && (not q || has k (255 - x)))
  unfolding strike
  struck true e =
      let i : t ≡ v = eqb-true t v e in
      rw (← i) (ap (has k) (get_or-set_same m t (bit_and (get_or m t 0) (255 - x)) 0 l) ∙ bit_and_lem k (get_or m t 0) (255 - x))
  struck false e =
      ap (has k) (get_or-set_other m t v (bit_and (get_or m t 0) (255 - x)) 0 (λ (i : v ≡ t). eqb-false t v e (sym i))) ∙ sym (and_true (has k (get_or m v 0)))

  -- The bits of node v where bits of node t were struck out.
  strike_at : has k (get_or (strike x t m) v 0) ≡ (has k (get_or m v 0) && (not (eqb t v) || has k (255 - x)))
  strike_at = struck (eqb t v) refl

strike_length : (x t : ℕ) (m : List ℕ) → length (strike x t m) ≡ length m
unfolding strike
strike_length x t m = length-set m t (bit_and (get_or m t 0) (255 - x))

module _ (m : List ℕ) (w : ℕ) where
  -- A link opens a lane where its bits stand at both ends.
  few_open : open_lanes m w < 8
  few_open = omega (arith, and_le_r (bit_and (get_or m (tail_of w) 0 / 16) (get_or m (head_of w) 0)) 7)

  open_at : (i : ℕ) → has i 7 ≡ true → has i (open_lanes m w) ≡ (has (4 + i) (get_or m (tail_of w) 0) && has i (get_or m (head_of w) 0))
  open_at i s =
      let a = get_or m (tail_of w) 0 in
      let b = get_or m (head_of w) 0 in
      bit_and_lem i (bit_and (a / 16) b) 7
      ∙ ap (λ (q : Bool). has i (bit_and (a / 16) b) && q) s
      ∙ and_true (has i (bit_and (a / 16) b))
      ∙ bit_and_lem i (a / 16) b
      ∙ ap (λ (x : ℕ). eqb (x % 2) 1 && has i b) (shr-shr a 4 i)

module _ {n : ℕ} (sign w : ℕ) (m : List ℕ) (ends : Ends n w) (room : n ≤ length m) where
  abbrev f : ℕ
  f = open_lanes m w

  -- The bits of node v after the open lanes were struck out.
  abbrev struck_out : ℕ → ℕ → ℕ → Bool
  struck_out f k v =
      (has k (get_or m v 0) && (not (eqb (tail_of w) v) || has k (at_tail f))) && (not (eqb (head_of w) v) || has k (at_head f))

  put_at : (f k v : ℕ) → has k (get_or (put_lanes f w m) v 0) ≡ struck_out f k v
  put_at f k v =
      strike_at (f / 4 * 4) (head_of w) v k (strike (f % 4 * 16) (tail_of w) m) (omega (arith, ends.head_in, strike_length (f % 4 * 16) (tail_of w) m))
      ∙ ap (λ (q : Bool). q && (not (eqb (head_of w) v) || has k (at_head f))) (strike_at (f % 4 * 16) (tail_of w) v k m (omega (arith, ends.tail_in)))

  -- With no lane open nothing is struck out.
  none_out : (k v : ℕ) → has k 255 ≡ true → struck_out 0 k v ≡ has k (get_or m v 0)
  none_out k v h = rw (h, or_true (not (eqb (tail_of w) v)), or_true (not (eqb (head_of w) v)), and_true (has k (get_or m v 0)), and_true (has k (get_or m v 0)))

  followed : (s z : Bool) → eqb f 0 ≡ z → (k v : ℕ) → has k 255 ≡ true
      → has k (get_or (cond (s && not z) (put_lanes f w m) m) v 0) ≡ cond s (struck_out f k v) (has k (get_or m v 0))
  followed true true e k v h = let o : f ≡ 0 = eqb-true f 0 e in sym (ap (λ (f : ℕ). struck_out f k v) o ∙ none_out k v h)
  followed true false e k v h = put_at f k v
  followed false z e k v h = refl

  link_at : (k v : ℕ) → has k 255 ≡ true → has k (get_or (lane_link sign w m) v 0) ≡ cond (eqb (parity w) sign) (struck_out f k v) (has k (get_or m v 0))
  unfolding lane_link
  link_at k v h = followed (eqb (parity w) sign) (eqb f 0) refl k v h

  -- A bit that no lane strikes out stays.
  stays : (k v : ℕ) → has k 255 ≡ true → has k (at_tail f) ≡ true → has k (at_head f) ≡ true → has k (get_or (lane_link sign w m) v 0) ≡ has k (get_or m v 0)
  stays k v h p q = link_at k v h ∙ rw (p, q, or_true (not (eqb (tail_of w) v)), or_true (not (eqb (head_of w) v)), and_true (has k (get_or m v 0)), and_true (has k (get_or m v 0))) (cond_same (eqb (parity w) sign) (has k (get_or m v 0)))

  pub link_length : length (lane_link sign w m) ≡ length m
  unfolding lane_link
  link_length = at (eqb (parity w) sign && not (eqb f 0))
    where
      at : (p : Bool) → length (cond p (put_lanes f w m) m) ≡ length m
      at true = strike_length (f / 4 * 4) (head_of w) (strike (f % 4 * 16) (tail_of w) m) ∙ strike_length (f % 4 * 16) (tail_of w) m
      at false = refl

  pub link_past : drop n (lane_link sign w m) ≡ drop n m
  unfolding lane_link strike
  link_past = at (eqb (parity w) sign && not (eqb f 0))
    where
      at : (p : Bool) → drop n (cond p (put_lanes f w m) m) ≡ drop n m
      at true =
          let a = strike (f % 4 * 16) (tail_of w) m in
          drop-set-lt n a (head_of w) (bit_and (get_or a (head_of w) 0) (255 - f / 4 * 4)) ends.head_in
          ∙ drop-set-lt n m (tail_of w) (bit_and (get_or m (tail_of w) 0) (255 - f % 4 * 16)) ends.tail_in
      at false = refl

-- Bytes stay bytes.
strike_small : (x t n : ℕ) (m : List ℕ) → t < n → n ≤ length m → ((v : ℕ) → v < n → get_or m v 0 < 256) → (v : ℕ) → v < n → get_or (strike x t m) v 0 < 256
unfolding strike
strike_small x t n m l r h v k = at (eqb t v) refl
  where
    y : ℕ
    y = bit_and (get_or m t 0) (255 - x)

    at : (q : Bool) → eqb t v ≡ q → get_or (set m t y) v 0 < 256
    at true e =
        let i : t ≡ v = eqb-true t v e in
        rw (← i, get_or-set_same m t y 0 (omega arith)) (omega (arith, and_le_l (get_or m t 0) (255 - x), h t l))
    at false e = rw (get_or-set_other m t v y 0 (λ (i : v ≡ t). eqb-false t v e (sym i))) (h v k)

link_small : (n sign w : ℕ) (m : List ℕ) → Ends n w → n ≤ length m → ((v : ℕ) → v < n → get_or m v 0 < 256) → (v : ℕ) → v < n → get_or (lane_link sign w m) v 0 < 256
unfolding lane_link
link_small n sign w m ends r h = at (eqb (parity w) sign && not (eqb (open_lanes m w) 0))
  where
    f : ℕ
    f = open_lanes m w

    at : (p : Bool) → (v : ℕ) → v < n → get_or (cond p (put_lanes f w m) m) v 0 < 256
    at true =
        strike_small (f / 4 * 4) (head_of w) n (strike (f % 4 * 16) (tail_of w) m) ends.head_in (omega (arith, strike_length (f % 4 * 16) (tail_of w) m))
        (strike_small (f % 4 * 16) (tail_of w) n m ends.tail_in r h)
    at false = h

-- ── a lane ──
-- A bit p that is struck out by a lane: where q says that it is the node's, o is p.
struck_lane : (p o q r : Bool) → (q ≡ true → o ≡ p) → (p && (not q || not (o && r))) ≡ (p && not (r && q))
struck_lane false o q r h = refl
struck_lane true o true true h = rw (h refl)
struck_lane true o true false h = rw (h refl)
struck_lane true o false true h = refl
struck_lane true o false false h = refl

and_turn : (p q : Bool) → (p && q) ≡ (q && p)
and_turn true true = refl
and_turn true false = refl
and_turn false true = refl
and_turn false false = refl

-- The command c has the lane with the bits τ, which says that the tested marker stands, and μ, which asks for a mark: a link strikes μ out at its far end exactly
-- where it fires.
abbrev pub Lane : Command → ℕ → ℕ → Type 0
Lane c τ μ =
    (n w : ℕ) (m : List ℕ) → Ends n w → n ≤ length m → (v : ℕ)
    → has μ (get_or (lane_link c.sign w m) v 0)
    ≡ (has μ (get_or m v 0) && not ((eqb (parity w) c.sign && has τ (get_or m (near c.at_head w) 0)) && eqb (far c.at_head w) v))

-- A bit that stays.
abbrev pub Stays : ℕ → Type 0
Stays k = (n sign w : ℕ) (m : List ℕ) → Ends n w → n ≤ length m → (v : ℕ) → has k (get_or (lane_link sign w m) v 0) ≡ has k (get_or m v 0)

-- What a lane strikes out, by the sign of the word.
by_sign : (s p r q : Bool) {x : Bool} → x ≡ (p && not (r && q)) → cond s x p ≡ (p && not ((s && r) && q))
by_sign true p r q e = e
by_sign false p r q e = sym (and_true p)

-- Where two nodes are one, they have the same bits.
same_node : (k t v : ℕ) (m : List ℕ) → eqb t v ≡ true → has k (get_or m t 0) ≡ has k (get_or m v 0)
same_node k t v m e = ap (λ (t : ℕ). has k (get_or m t 0)) (eqb-true t v e)

-- Lanes 0 and 1 are for commands that mark tails.
tail_lane : (s p q i : ℕ) → has i 7 ≡ true → has (4 + i) 255 ≡ true → ((f : ℕ) → f < 8 → has (4 + i) (at_tail f) ≡ not (has i f))
    → ((f : ℕ) → f < 8 → has (4 + i) (at_head f) ≡ true) → Lane (to_tail s p q) i (4 + i)
tail_lane s p q i seven whole tail head n w m ends room v =
    let f = open_lanes m w in
    link_at s w m ends room (4 + i) v whole
    ∙ by_sign (eqb (parity w) s) (has (4 + i) (get_or m v 0)) (has i (get_or m (head_of w) 0)) (eqb (tail_of w) v)
    (rw (tail f (few_open m w), head f (few_open m w), or_true (not (eqb (head_of w) v)), open_at m w i seven)
    (and_true (has (4 + i) (get_or m v 0) && (not (eqb (tail_of w) v) || not (has (4 + i) (get_or m (tail_of w) 0) && has i (get_or m (head_of w) 0))))
    ∙ struck_lane (has (4 + i) (get_or m v 0)) (has (4 + i) (get_or m (tail_of w) 0)) (eqb (tail_of w) v) (has i (get_or m (head_of w) 0)) (same_node (4 + i) (tail_of w) v m)))

pub lane_0 : (s p q : ℕ) → Lane (to_tail s p q) 0 4
lane_0 s p q =
    tail_lane s p q 0 refl refl (λ f l. turned (bit 0 f) (omega arith) (tail_bits 4 f (omega arith) l)) (λ f l. ap (λ (x : ℕ). eqb x 1) (head_bits 4 f (omega arith) l))

pub lane_1 : (s p q : ℕ) → Lane (to_tail s p q) 1 5
lane_1 s p q =
    tail_lane s p q 1 refl refl (λ f l. turned (bit 1 f) (omega arith) (tail_bits 5 f (omega arith) l)) (λ f l. ap (λ (x : ℕ). eqb x 1) (head_bits 5 f (omega arith) l))

-- Lane 2 is for a command that marks heads.
pub lane_2 : (s p q : ℕ) → Lane (to_head s p q) 6 2
lane_2 s p q n w m ends room v =
    let f = open_lanes m w in
    let tail : has 2 (at_tail f) ≡ true = ap (λ (x : ℕ). eqb x 1) (tail_bits 2 f (omega arith) (few_open m w)) in
    let head : has 2 (at_head f) ≡ not (has 2 f) = turned (bit 2 f) (omega arith) (head_bits 2 f (omega arith) (few_open m w)) in
    let b = has 2 (get_or m v 0) in
    link_at s w m ends room 2 v refl
    ∙ by_sign (eqb (parity w) s) b (has 6 (get_or m (tail_of w) 0)) (eqb (head_of w) v)
    (rw (tail, head, or_true (not (eqb (tail_of w) v)), and_true b, open_at m w 2 refl, and_turn (has 6 (get_or m (tail_of w) 0)) (has 2 (get_or m (head_of w) 0)))
    (struck_lane b (has 2 (get_or m (head_of w) 0)) (eqb (head_of w) v) (has 6 (get_or m (tail_of w) 0)) (same_node 2 (head_of w) v m)))

-- The other bits stay.
stays_at : (k : ℕ) → has k 255 ≡ true → ((f : ℕ) → f < 8 → has k (at_tail f) ≡ true) → ((f : ℕ) → f < 8 → has k (at_head f) ≡ true) → Stays k
stays_at k h p q n sign w m ends room v = stays sign w m ends room k v h (p (open_lanes m w) (few_open m w)) (q (open_lanes m w) (few_open m w))

one : {x : ℕ} → x ≡ 1 → eqb x 1 ≡ true
one e = rw e

pub stays_0 : Stays 0
stays_0 = stays_at 0 refl (λ f l. one (tail_bits 0 f (omega arith) l)) (λ f l. one (head_bits 0 f (omega arith) l))

pub stays_1 : Stays 1
stays_1 = stays_at 1 refl (λ f l. one (tail_bits 1 f (omega arith) l)) (λ f l. one (head_bits 1 f (omega arith) l))

pub stays_3 : Stays 3
stays_3 = stays_at 3 refl (λ f l. one (tail_bits 3 f (omega arith) l)) (λ f l. one (head_bits 3 f (omega arith) l))

pub stays_6 : Stays 6
stays_6 = stays_at 6 refl (λ f l. one (tail_bits 6 f (omega arith) l)) (λ f l. one (head_bits 6 f (omega arith) l))

-- ── all links ──
module _ (n sign : ℕ) where
  pub pass_length : (ws m : List ℕ) → Inside n ws → n ≤ length m → length (lane_pass sign ws m) ≡ length m
  unfolding lane_pass
  pass_length [] m e r = refl
  pass_length (w ∷ ws) m e r =
      let l = link_length sign w m (inside_first e) r in
      pass_length ws (lane_link sign w m) (inside_rest e) (omega (arith, l)) ∙ l

  pub pass_past : (ws m : List ℕ) → Inside n ws → n ≤ length m → drop n (lane_pass sign ws m) ≡ drop n m
  unfolding lane_pass
  pass_past [] m e r = refl
  pass_past (w ∷ ws) m e r =
      let l = link_length sign w m (inside_first e) r in
      pass_past ws (lane_link sign w m) (inside_rest e) (omega (arith, l)) ∙ link_past sign w m (inside_first e) r

  pub pass_small : (ws m : List ℕ) → Inside n ws → n ≤ length m → ((v : ℕ) → v < n → get_or m v 0 < 256) → (v : ℕ) → v < n → get_or (lane_pass sign ws m) v 0 < 256
  unfolding lane_pass
  pass_small [] m e r h = h
  pass_small (w ∷ ws) m e r h =
      pass_small ws (lane_link sign w m) (inside_rest e) (omega (arith, link_length sign w m (inside_first e) r)) (link_small n sign w m (inside_first e) r h)

  pub pass_stays : (k : ℕ) → Stays k → (ws m : List ℕ) → Inside n ws → n ≤ length m → (v : ℕ) → has k (get_or (lane_pass sign ws m) v 0) ≡ has k (get_or m v 0)
  unfolding lane_pass
  pass_stays k s [] m e r v = refl
  pass_stays k s (w ∷ ws) m e r v =
      pass_stays k s ws (lane_link sign w m) (inside_rest e) (omega (arith, link_length sign w m (inside_first e) r)) v
      ∙ s n sign w m (inside_first e) r v

both_struck : (p a b d e : Bool) → e ≡ true → ((p && not (a && b)) && not d) ≡ (p && not ((a && (b && e)) || d))
both_struck false a b d e h = refl
both_struck true true true d e h = rw h
both_struck true true false d e h = refl
both_struck true false b d e h = refl

-- The bits of the lane of c that ask for a mark, after the pass: those that no link answers. The tested marker stands where old has it.
pub pass_lane : (c : Command) (τ μ n : ℕ) → Lane c τ μ → Stays τ → (old ws m : List ℕ) → Inside n ws → n ≤ length m
    → ((x : ℕ) → x < n → has τ (get_or m x 0) ≡ has c.test (get_or old x 0)) → (v : ℕ)
    → has μ (get_or (lane_pass c.sign ws m) v 0) ≡ (has μ (get_or m v 0) && not (any (hits c old c.put v) ws))
unfolding lane_pass any
pass_lane c τ μ n lane stay old [] m e r h v = sym (and_true (has μ (get_or m v 0)))
pass_lane c τ μ n lane stay old (w ∷ ws) m e r h v =
    let ends = inside_first e in
    let more : n ≤ length (lane_link c.sign w m) = omega (arith, link_length c.sign w m ends r) in
    let x = near c.at_head w in
    pass_lane c τ μ n lane stay old ws (lane_link c.sign w m) (inside_rest e) more (λ x l. stay n c.sign w m ends r x ∙ h x l) v
    ∙ ap (λ (q : Bool). q && not (any (hits c old c.put v) ws))
    (lane n w m ends r v
    ∙ ap (λ (q : Bool). has μ (get_or m v 0) && not ((eqb (parity w) c.sign && q) && eqb (far c.at_head w) v)) (h x (near_in c.at_head ends)))
    ∙ both_struck (has μ (get_or m v 0)) (eqb (parity w) c.sign && has c.test (get_or old x 0)) (eqb (far c.at_head w) v) (any (hits c old c.put v) ws) (eqb c.put c.put) (eq-eqb c.put c.put refl)
