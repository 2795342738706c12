-- The lines that are found can be printed: each has a ground, and its numbers are small.
use Rattle.explain.specs.declared.ExplainError.TheVariants.{Refused, ShortLines, ShortReason, Unsupported}
use Rattle.std.specs.Prelude.{Err, Ok}
use Prim.Native.Nat.{ℕ, suc, ◌+◌, ◌*◌, ◌≤◌, ◌<◌}
use mathlib.Core.Path.{◌≡◌, refl, sym, ap, ◌∙◌}
use mathlib.Core.Bool.{Bool}
use mathlib.Core.List.{List, [], ◌∷◌}
use native.Mathlib.Omega.{arith}
use lib.ListN.{length, get_or, take, replicate, length-append, length-take}
use lib.Seq.{length-take-le}
use Rattle.theory.specs.Words.{word_limit}
use Rattle.text_field.specs.Writing.{Wrote}
use Rattle.text_field.proofs.Writing.{wrote_as}
use Rattle.derivation_lines.specs.Lines.{Line, blank, Ground, link, r2, r4, r5, none, Follows, by_link, by_1, by_2, by_3, by_4, by_5, Derivation}
use Rattle.derivation_lines.specs.Flat.{one_of, two_of, ground_at, lines_of}
use Rattle.derivation_lines.proofs.Flatness.{lines_length, line_read}
use Rattle.derivation_lines.proofs.OneWay.{ground_numbers, follows_grounded}
use Rattle.explain.specs.declared.ExplainError.{ExplainError}
use Rattle.explain.specs.Table.{ExplainOutcome, explain_outcome}
use Rattle.explain.specs.Table.{Explained}
use Rattle.explain.proofs.Meaning.{Explains, done_explains}
use Rattle.why_line.specs.Text.{line_room, line_text, lines_text}
use Rattle.why_line.proofs.Fields.{two_parts_room, ground_room}
use Rattle.why_lines.specs.Printable.{Printable}
use Rattle.why_reason.specs.Told.{lines_room, scratch_room, reason_room, derivation_room, found, told_by, why_text}

-- The numbers of a ground.
pub record Small (n words : ℕ) (g : Ground) : Type 0 where
  pub one : one_of g ≤ n + words
  pub two : two_of g ≤ n + words

small_link : (n words i : ℕ) → i < words → Small n words (link i)
small_link n words i h = record { one = omega arith; two = omega arith }

small_two : (n words i j : ℕ) (g : Ground) → one_of g ≡ i → two_of g ≡ j → i < n → j < n → Small n words g
small_two n words i j g e f h k = record { one = omega arith; two = omega arith }

module _ (o k set : ℕ) (ws : List ℕ) (ls : List Line) (n : ℕ) where
  ground_of : {l m : Line} → l ≡ m → l.ground ≡ m.ground
  ground_of e = ap (λ (q : Line). q.ground) e

  follows_small : (l : Line) → Follows o k set ws ls n l → Small n (length ws) l.ground
  follows_small l (by_link i e w) = rw e (small_link n (length ws) i w.listed)
  follows_small l (by_1 p e c) = rw (ground_of e) (record { one = omega arith; two = omega arith })
  follows_small l (by_2 x q r i j e c d a b) = rw (ground_of e) (small_two n (length ws) i j (r2 i j) refl refl a.above b.above)
  follows_small l (by_3 p q i e c d a) = rw (ground_of e) (record { one = omega (arith, a.above); two = omega arith })
  follows_small l (by_4 x q r i j e c d a b) = rw (ground_of e) (small_two n (length ws) i j (r4 i j) refl refl a.above b.above)
  follows_small l (by_5 p q t i j e c d f a b) = rw (ground_of e) (small_two n (length ws) i j (r5 i j) refl refl a.above b.above)

-- A derivation of few lines over few words can be printed.
pub derivation_printable : (o k set : ℕ) (ws l : List ℕ) → length ws ≤ word_limit → length l ≤ lines_room → Derivation o k set ws (lines_of l) → Printable l
derivation_printable o k set ws l few short d n h =
    let e = line_read l n h in
    let f = d n (omega (arith, lines_length l)) in
    let r = get_or l (4 * n + 1) 0 in
    let i = get_or l (4 * n + 2) 0 in
    let j = get_or l (4 * n + 3) 0 in
    let same : (get_or (lines_of l) n blank).ground ≡ ground_at r i j = ap (λ (q : Line). q.ground) e in
    let some : ground_at r i j ≡ none → ⊥ = λ q. follows_grounded o k set ws (lines_of l) n (get_or (lines_of l) n blank) f (same ∙ q) in
    let small : Small n (length ws) (ground_at r i j) = rw same at (follows_small o k set ws (lines_of l) n (get_or (lines_of l) n blank) f) in
    let g = ground_numbers r i j some in
    record { one = omega (arith, g.one, small.one); two = omega (arith, g.two, small.two); some = some }

-- What is asked of the first places of a list that holds lines.
pub record Ready (places : ℕ) (l : List ℕ) : Type 0 where
  pub inside : places ≤ length l
  pub few : places ≤ lines_room
  pub printable : Printable (take places l)

module _ (o k : ℕ) (ws : List ℕ) (set x y sign : ℕ) where
  explains_ready : (places : ℕ) (l : List ℕ) → length l ≤ lines_room → Explains o k ws set x y sign places l → Ready places l
  explains_ready places l h r =
      let long = length-take-le places l r.inside in
      record {
        inside = r.inside;
        few = omega (arith, r.inside);
        printable = derivation_printable o k set ws (take places l) r.net.short (omega (arith, r.inside)) r.lines.lines;
      }

  module _ {a : Explained} {d m l : List ℕ} (gave : explain_outcome a d m l ≡ found o k ws set x y sign) where
    -- The lines of a list that is no longer than the room for lines.
    pub found_ready : length l ≤ lines_room → {places size : ℕ} → a ≡ Ok (places, size) → Ready places l
    found_ready h {places} {size} f =
        let answer : (found o k ws set x y sign).answer ≡ Ok (places, size) = sym (ap (λ (q : ExplainOutcome). q.answer) gave) ∙ f in
        let r = done_explains o k ws set x y sign (replicate scratch_room 0) (replicate reason_room 0) (replicate lines_room 0) places size answer in
        let s : Explains o k ws set x y sign places l = rw (sym (ap (λ (q : ExplainOutcome). q.lines) gave)) at r in
        explains_ready places l h s

    -- The text by the answer.
    by_answer : (told : Bool) {b : Explained} → a ≡ b → told_by told ws b l ≡ why_text told o k ws set x y sign
    unfolding why_text
    by_answer told f = rw (← f) (ap (λ (q : ExplainOutcome). told_by told ws q.answer q.lines) gave)

    pub told_done : (told : Bool) {places size : ℕ} → a ≡ Ok (places, size) → lines_text told ws 0 (lines_of (take places l)) ≡ why_text told o k ws set x y sign
    unfolding told_by
    told_done told f = by_answer told f

    -- Nothing is written.
    nothing : (told : Bool) (text : List ℕ) → [] ≡ why_text told o k ws set x y sign → Wrote (why_text told o k ws set x y sign) text text 0
    nothing told text e = wrote_as e (record { list = refl; size = refl })

    pub told_nothing : (told : Bool) (text : List ℕ) {e : ExplainError} → a ≡ Err e → Wrote (why_text told o k ws set x y sign) text text 0
    unfolding told_by
    told_nothing told text {e} f = nothing told text (at e (by_answer told f))
      where
        at : (e : ExplainError) → told_by told ws (Err e) l ≡ why_text told o k ws set x y sign → [] ≡ why_text told o k ws set x y sign
        at Unsupported f = f
        at (ShortReason n) f = f
        at (ShortLines n) f = f
        at (Refused r) f = f

-- Each line has room, and so have all.
line_room_lem : (told : Bool) (ws : List ℕ) (n : ℕ) (l : Line) → length (line_text told ws n l) ≤ line_room
unfolding line_text
line_room_lem told ws n l = rw length-append (omega (arith, two_parts_room n l.tail l.sign l.head, ground_room told ws l.ground))

lines_room_lem : (told : Bool) (ws : List ℕ) (n : ℕ) (ls : List Line) → length (lines_text told ws n ls) ≤ line_room * length ls
unfolding lines_text
lines_room_lem told ws n [] = omega arith
lines_room_lem told ws n (l ∷ ls) = rw length-append (omega (arith, line_room_lem told ws n l, lines_room_lem told ws (suc n) ls))

pub told_room : (told : Bool) (ws l : List ℕ) (places : ℕ) → places ≤ lines_room → length (lines_text told ws 0 (lines_of (take places l))) ≤ derivation_room
told_room told ws l places h =
    omega (arith, lines_room_lem told ws 0 (lines_of (take places l)), lines_length (take places l), length_take_most places l)
  where
    length_take_most : (i : ℕ) (m : List ℕ) → length (take i m) ≤ i
    length_take_most i m = rw length-take (omega arith)
