-- The sheet turn by turn, as the program goes: by the head of what is left of the input, and by the file behind it.
use Prim.Native.Nat.{ℕ, zero, suc, ◌-◌, ◌≤◌, ◌<◌}
use mathlib.Core.Path.{◌≡◌, refl, sym, ap, ◌∙◌}
use mathlib.Core.Bool.{Bool, true, false, cond}
use mathlib.Core.List.{List, [], ◌∷◌, ◌++◌, append-nil}
use native.Mathlib.Omega.{arith}
use native.Mathlib.Decide.{dec_lt}
use borrow.Author.Tests.{lt-ltb, le-ltb, ltb-false, eq-eqb, ne_eqb, eqb-false}
use lib.Dec.{eqb, ltb}
use lib.ListN.{length, take, drop}
use lib.Seq.{take_all, length-take-le}
use Rattle.text_field.specs.Writing.{Wrote}
use Rattle.netfile_numbers.specs.Bytes.{u32_at}
use Rattle.figures_file.specs.Files.{figured_file}
use Rattle.fleet_line.specs.Line.{numbers_line, refused_line, total_line}
use Rattle.fleet_text.specs.Sums.{Sums, plus}
use Rattle.fleet_text.specs.Fleet.{file_line, length_of, Next, end, bad, file, with_length, next_of, refused_end, fleet_from}
use Rattle.fleet_text.specs.Turns.{head_of, size_of, goes_on, turn_text, turn_left, turn_sums, Turned}
use Rattle.fleet_text.specs.declared.Head.{Head}
use Rattle.fleet_text.specs.declared.Head.TheVariants.{End, Bad, Size}
use Rattle.fleet_text.specs.declared.Turn.{Turn}
use Rattle.fleet_text.proofs.Adding.{sums_more}

-- ── the head, in the terms of the code ──
module _ (left : ℕ) (head : List ℕ) where
  pub head_end : length head ≡ 0 → End ≡ head_of left head
  unfolding head_of
  head_end e = rw (eq-eqb (length head) 0 e)

  module _ (some : length head ≡ 0 → ⊥) where
    pub head_over : left ≡ 0 → Bad ≡ head_of left head
    unfolding head_of
    head_over e = rw (ne_eqb (length head) 0 some, eq-eqb left 0 e)

    module _ (may : left ≡ 0 → ⊥) where
      is_length : head_of left head ≡ length_of head
      unfolding head_of
      is_length = rw (ne_eqb (length head) 0 some, ne_eqb left 0 may)

      pub head_short : length head < 4 → Bad ≡ head_of left head
      unfolding length_of
      head_short h = sym (is_length ∙ rw (lt-ltb (length head) 4 h))

      module _ (long : 4 ≤ length head) {size : ℕ} (e : size ≡ u32_at head 0) where
        pub head_large : 32768 < size → Bad ≡ head_of left head
        unfolding length_of
        head_large h = sym (is_length ∙ rw (le-ltb (length head) 4 long, ← e, lt-ltb 32768 size h))

        pub head_size : size ≤ 32768 → Size size ≡ head_of left head
        unfolding length_of
        head_size h = sym (is_length ∙ rw (le-ltb (length head) 4 long, ← e, le-ltb 32768 size h))

-- The line of a file.
module _ (number : ℕ) (counts l l' : List ℕ) {r : ℕ} where
  pub line_done : number ≡ 0 → Wrote (numbers_line counts) l l' r → Wrote (file_line number counts) l l' r
  unfolding file_line
  line_done e w = rw (eq-eqb number 0 e) w

  pub line_refused : (number ≡ 0 → ⊥) → Wrote (refused_line number) l l' r → Wrote (file_line number counts) l l' r
  unfolding file_line
  line_refused f w = rw (ne_eqb number 0 f) w

-- ── the sheet by its turns ──
-- What is left of an input decides.
abbrev pub with_next : ℕ → List ℕ → Next → List ℕ
with_next left sums end = total_line sums
with_next left sums bad = refused_end sums
with_next left sums (file f rest) = file_line (figured_file f).number (figured_file f).counts ++ fleet_from left (plus sums (figured_file f).counts) rest

pub one_turn : (left : ℕ) (sums s : List ℕ) → fleet_from (suc left) sums s ≡ with_next left sums (next_of s)
unfolding fleet_from
one_turn left sums s = at (next_of s)
  where
    at : (n : Next) → elim n [
      | end ↦ total_line sums
      | bad ↦ refused_end sums
      | file f rest ↦ file_line (figured_file f).number (figured_file f).counts ++ fleet_from left (plus sums (figured_file f).counts) rest
    ] ≡ with_next left sums n
    at end = refl
    at bad = refl
    at (file f rest) = refl

-- The length of what was read of a file tells whether it was there.
cut : (n : ℕ) (d : List ℕ) → ltb (length (take n d)) n ≡ ltb (length d) n
cut n d = at (dec_lt (length d) n)
  where
    at : Dec (length d < n) → ltb (length (take n d)) n ≡ ltb (length d) n
    at (yes h) = rw (take_all n d (omega arith))
    at (no h) = rw (length-take-le n d (omega arith), le-ltb n n (omega arith), le-ltb (length d) n (omega arith))

-- What the program does with what is left of the input, by the head of it.
abbrev by_head : ℕ → List ℕ → List ℕ → Head → List ℕ
by_head left sums s h =
    let f = take (size_of h) (drop 4 s) in
    turn_text sums f h ++ cond (goes_on f h) (fleet_from (turn_left left f h) (turn_sums sums f h) (drop (size_of h) (drop 4 s))) []

head_turn : (left : ℕ) (sums s : List ℕ) (h : Head) → with_next left sums (with_length (drop 4 s) h) ≡ by_head (suc left) sums s h
head_turn left sums s End = sym (append-nil (total_line sums))
head_turn left sums s Bad = sym (append-nil (refused_end sums))
head_turn left sums s (Size n) =
    let e : suc left - 1 ≡ left = omega arith in
    rw (cut n (drop 4 s), e) (at (ltb (length (drop 4 s)) n))
  where
    at : (b : Bool) → with_next left sums (cond b bad (file (take n (drop 4 s)) (drop n (drop 4 s))))
        ≡ cond b (refused_end sums) (file_line (figured_file (take n (drop 4 s))).number (figured_file (take n (drop 4 s))).counts)
        ++ cond (cond b false true)
        (fleet_from (cond (cond b false true) left (suc left)) (cond (cond b false true) (plus sums (figured_file (take n (drop 4 s))).counts) sums) (drop n (drop 4 s))) []
    at true = sym (append-nil (refused_end sums))
    at false = refl

some : (a : ℕ) (s : List ℕ) → length (a ∷ s) ≡ 0 → ⊥
some a s e = omega arith

-- The sheet of what is left of an input is what a turn prints for the next four bytes of it and the file behind them, and then, where the run goes on, the sheet of
-- what is left after them.
pub by_turns : (left : ℕ) (sums s : List ℕ) → let h = head_of left (take 4 s) in let f = take (size_of h) (drop 4 s) in
    fleet_from left sums s ≡ turn_text sums f h ++ cond (goes_on f h) (fleet_from (turn_left left f h) (turn_sums sums f h) (drop (size_of h) (drop 4 s))) []
unfolding fleet_from head_of next_of
by_turns zero sums [] = sym (append-nil (total_line sums))
by_turns (suc left) sums [] = sym (append-nil (total_line sums))
by_turns zero sums (a ∷ s) = rw (ne_eqb (length (a ∷ s)) 0 (some a s), ne_eqb (length (a ∷ take 3 s)) 0 (some a (take 3 s))) (sym (append-nil (refused_end sums)))
by_turns (suc left) sums (a ∷ s) =
    one_turn left sums (a ∷ s)
    ∙ rw (ne_eqb (length (a ∷ s)) 0 (some a s), is_length (suc left) (a ∷ take 3 s) (some a (take 3 s)) (λ e. omega (arith, e))) (head_turn left sums (a ∷ s) (length_of (take 4 (a ∷ s))))

-- ── a length that was read ──
abbrev told : Head → ℕ
told End = 0
told Bad = 0
told (Size n) = suc n

size_cases : (p q r t : Bool) (u n : ℕ) → cond p End (cond q Bad (cond r Bad (cond t Bad (Size u)))) ≡ Size n → (q ≡ false) × (t ≡ false) × (u ≡ n)
size_cases true q r t u n e = let z : 0 ≡ suc n = ap told e in absurd (omega (arith, z))
size_cases false true r t u n e = let z : 0 ≡ suc n = ap told e in absurd (omega (arith, z))
size_cases false false true t u n e = let z : 0 ≡ suc n = ap told e in absurd (omega (arith, z))
size_cases false false false true u n e = let z : 0 ≡ suc n = ap told e in absurd (omega (arith, z))
size_cases false false false false u n e = let z : suc u ≡ suc n = ap told e in (refl, refl, omega (arith, z))

-- It is within the limit, and a file may still come.
pub size_within : (left n : ℕ) (head : List ℕ) {h : Head} → h ≡ head_of left head → h ≡ Size n → (n ≤ 32768) × (1 ≤ left)
unfolding head_of length_of
size_within left n head e f =
    let c = size_cases (eqb (length head) 0) (eqb left 0) (ltb (length head) 4) (ltb 32768 (u32_at head 0)) (u32_at head 0) n (sym e ∙ f) in
    (omega (arith, ltb-false 32768 (u32_at head 0) c.1, c.2), at left (eqb-false left 0 c.0))
  where
    at : (left : ℕ) → (left ≡ 0 → ⊥) → 1 ≤ left
    at left g = omega arith

-- ── a turn, in the terms of the code ──
-- What the last turn asks for.
pub end_ask : (left : ℕ) (sums : List ℕ) → Sums (65536 - left) sums → Sums 65536 sums
end_ask left sums s = sums_more (65536 - left) 65536 sums (omega arith) s

-- The bytes to be read behind a head, by what the code has of it.
module _ (left : ℕ) (head : List ℕ) {h : Head} (e : h ≡ head_of left head) where
  pub size_end : h ≡ End → (0 ≡ size_of (head_of left head)) × (0 ≤ 32768)
  size_end f = (ap size_of (sym f ∙ e), omega arith)

  pub size_bad : h ≡ Bad → (0 ≡ size_of (head_of left head)) × (0 ≤ 32768)
  size_bad f = (ap size_of (sym f ∙ e), omega arith)

  pub size_size : {n : ℕ} → h ≡ Size n → (n ≡ size_of (head_of left head)) × (n ≤ 32768)
  size_size {n} f = (ap size_of (sym f ∙ e), (size_within left n head e f).0)

  -- What a whole file asks for.
  pub file_ask : (sums : List ℕ) {n : ℕ} → h ≡ Size n → Sums (65536 - left) sums → (1 ≤ left) × Sums 65535 sums
  file_ask sums {n} f s = let k = (size_within left n head e f).1 in (k, sums_more (65536 - left) 65535 sums (omega arith) s)

  module _ (sums f l l' : List ℕ) {t : Turn} where
    -- The last turn, in its three cases.
    pub turned_end : h ≡ End → Wrote (total_line sums) l l' t.size → (t.going ≡ false) × (t.left ≡ left) × (t.sums ≡ sums) → Turned left sums f (head_of left head) l l' t
    turned_end g w s = rw (sym e ∙ g) (record { text = w; going = s.0; files = s.1; added = s.2 })

    pub turned_bad : h ≡ Bad → Wrote (refused_end sums) l l' t.size → (t.going ≡ false) × (t.left ≡ left) × (t.sums ≡ sums) → Turned left sums f (head_of left head) l l' t
    turned_bad g w s = rw (sym e ∙ g) (record { text = w; going = s.0; files = s.1; added = s.2 })

    pub turned_short : {n : ℕ} → h ≡ Size n → length f < n → Wrote (refused_end sums) l l' t.size → (t.going ≡ false) × (t.left ≡ left) × (t.sums ≡ sums)
        → Turned left sums f (head_of left head) l l' t
    turned_short {n} g k w s =
        let q = lt-ltb (length f) n k in
        rw (sym e ∙ g) (record { text = rw q w; going = rw q s.0; files = rw q s.1; added = rw q s.2 })

    -- A whole file.
    pub turned_file : {n : ℕ} → h ≡ Size n → n ≤ length f → Wrote (file_line (figured_file f).number (figured_file f).counts) l l' t.size
        → (t.going ≡ true) × (t.left ≡ left - 1) × (t.sums ≡ plus sums (figured_file f).counts) → Turned left sums f (head_of left head) l l' t
    turned_file {n} g k w s =
        let q = le-ltb (length f) n k in
        rw (sym e ∙ g) (record { text = rw q w; going = rw q s.0; files = rw q s.1; added = rw q s.2 })

-- Two turns of one head and one file print the same and leave the same state.
pub turned_unique : (left : ℕ) (sums f : List ℕ) (h : Head) (l l' l'' : List ℕ) (t u : Turn) → Turned left sums f h l l' t → Turned left sums f h l l'' u → (t ≡ u) × (l' ≡ l'')
turned_unique left sums f h l l' l'' t u a b = (
  (λ i. record {
    size = (a.text.size ∙ sym b.text.size) i;
    going = (a.going ∙ sym b.going) i;
    left = (a.files ∙ sym b.files) i;
    sums = (a.added ∙ sym b.added) i;
  }),
  a.text.list ∙ sym b.text.list,
)
