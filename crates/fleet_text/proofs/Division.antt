-- Inputs of whole files divide: the lines stand one after another and the sums add.
use Prim.Native.Nat.{ℕ, zero, suc, ◌+◌, ◌-◌, ◌≤◌, ◌<◌}
use mathlib.Core.Path.{◌≡◌, refl, sym, ap, ap₂, ◌∙◌}
use mathlib.Core.Bool.{cond}
use mathlib.Core.List.{List, [], ◌∷◌, ◌++◌, append_assoc, append-nil}
use native.Mathlib.Omega.{arith}
use native.Mathlib.Decide.{dec_lt}
use borrow.Author.Tests.{lt-ltb, le-ltb, ne_eqb}
use lib.Dec.{ltb}
use lib.ListN.{length, take, drop, length-append}
use lib.Seq.{take_all, take-append-le, drop-append-le}
use Rattle.figures.specs.Figured.{nothing}
use Rattle.figures_file.specs.Files.{figured_file}
use Rattle.fleet_line.specs.Line.{total_line}
use Rattle.fleet_text.specs.Sums.{plus}
use Rattle.fleet_text.specs.Fleet.{file_line, length_of, Next, end, bad, file, with_length, next_of, fleet_from, fleet_text, files_limit}
use Rattle.fleet_text.specs.Division.{Reads, none, more, lines_of, sums_of}
use Rattle.fleet_text.specs.declared.Head.{Head}
use Rattle.fleet_text.specs.declared.Head.TheVariants.{End, Bad, Size}
use Rattle.fleet_text.proofs.Adding.{plus_length, plus_assoc, plus_nothing, plus_none}
use Rattle.fleet_text.proofs.Small.{file_small}
use Rattle.fleet_text.proofs.Turns.{one_turn}

-- ── a file at the front stays one ──
abbrev is_file : Next → ℕ
is_file end = 0
is_file bad = 0
is_file (file f rest) = 1

not_file : {A : Type 0} {n : Next} {f rest : List ℕ} → is_file n ≡ 0 → n ≡ file f rest → A
not_file {A} {n} z e = let p : is_file n ≡ 1 = ap is_file e in absurd (omega (arith, z, p))

abbrev behind : List ℕ → Next → Next
behind b end = end
behind b bad = bad
behind b (file f rest) = file f (rest ++ b)

length_more : (d b f rest : List ℕ) (h : Head) → with_length d h ≡ file f rest → with_length (d ++ b) h ≡ file f (rest ++ b)
length_more d b f rest End e = not_file refl e
length_more d b f rest Bad e = not_file refl e
length_more d b f rest (Size n) e = at (dec_lt (length d) n)
  where
    at : Dec (length d < n) → cond (ltb (length (d ++ b)) n) bad (file (take n (d ++ b)) (drop n (d ++ b))) ≡ file f (rest ++ b)
    at (yes h) = not_file refl (rw (lt-ltb (length d) n h) at e)
    at (no h) =
        let l : n ≤ length d = omega arith in
        let g : file (take n d) (drop n d) ≡ file f rest = rw (le-ltb (length d) n l) at e in
        let m : n ≤ length (d ++ b) = simp length-append (omega arith) in
        rw (le-ltb (length (d ++ b)) n m, take-append-le n d b l, drop-append-le n d b l) (ap (behind b) g)

-- A file at the front has its length before it.
four_there : (s f rest : List ℕ) → with_length (drop 4 s) (length_of (take 4 s)) ≡ file f rest → 4 ≤ length s
unfolding length_of
four_there s f rest e = at (dec_lt (length s) 4)
  where
    at : Dec (length s < 4) → 4 ≤ length s
    at (yes h) = not_file refl (rw (take_all 4 s (omega arith), lt-ltb (length s) 4 h) at e)
    at (no h) = omega arith

-- With more behind it the same file is read.
pub next_more : (a b f rest : List ℕ) → next_of a ≡ file f rest → next_of (a ++ b) ≡ file f (rest ++ b)
unfolding next_of
next_more [] b f rest e = not_file refl e
next_more (v ∷ a) b f rest e =
    let s = v ∷ a in
    let g : with_length (drop 4 s) (length_of (take 4 s)) ≡ file f rest = rw (ne_eqb (length s) 0 (λ z. omega (arith, z))) at e in
    let l = four_there s f rest g in
    rw (ne_eqb (length (s ++ b)) 0 (λ z. omega (arith, z)), take-append-le 4 s b l, drop-append-le 4 s b l) (length_more (drop 4 s) b f rest (length_of (take 4 s)) g)

-- ── division ──
pub nothing_left : (left : ℕ) (sums : List ℕ) → fleet_from left sums [] ≡ total_line sums
unfolding fleet_from next_of
nothing_left zero sums = refl
nothing_left (suc left) sums = refl

-- Whole files in front: their lines, then what the rest prints with their sums.
pub files_first : (a : List ℕ) (fs : List (List ℕ)) → Reads a fs → (b : List ℕ) (left : ℕ) (sums : List ℕ) → length fs ≤ left
    → fleet_from left sums (a ++ b) ≡ lines_of fs ++ fleet_from (left - length fs) (sums_of sums fs) b
unfolding lines_of sums_of
files_first a fs (none s e) b left sums h =
    let z : left - 0 ≡ left = omega arith in
    rw (e, z)
files_first a fs (more s f rest gs e r) b zero sums h = absurd (omega arith)
files_first a fs (more s f rest gs e r) b (suc left) sums h =
    let z : suc left - suc (length gs) ≡ left - length gs = omega arith in
    let line = file_line (figured_file f).number (figured_file f).counts in
    one_turn left sums (s ++ b)
    ∙ rw (next_more s b f rest e, z) (ap (λ (t : List ℕ). line ++ t) (files_first rest gs r b left (plus sums (figured_file f).counts) (omega arith))
    ∙ sym (append_assoc line (lines_of gs) (fleet_from (left - length gs) (sums_of (plus sums (figured_file f).counts) gs) b)))

-- An input of whole files within the limit prints their lines and their sums.
pub fleet_files : (s : List ℕ) (fs : List (List ℕ)) → Reads s fs → length fs ≤ files_limit → fleet_text s ≡ lines_of fs ++ total_line (sums_of nothing fs)
fleet_files s fs r h =
    ap fleet_text (sym (append-nil s)) ∙ files_first s fs r [] files_limit nothing h ∙ ap (λ (t : List ℕ). lines_of fs ++ t) (nothing_left (files_limit - length fs) (sums_of nothing fs))

pub reads_join : (a b : List ℕ) (fs gs : List (List ℕ)) → Reads a fs → Reads b gs → Reads (a ++ b) (fs ++ gs)
reads_join a b fs gs (none s e) q = rw e q
reads_join a b fs gs (more s f rest hs e r) q = more (s ++ b) f (rest ++ b) (hs ++ gs) (next_more s b f rest e) (reads_join rest b hs gs r q)

pub lines_join : (fs gs : List (List ℕ)) → lines_of (fs ++ gs) ≡ lines_of fs ++ lines_of gs
unfolding lines_of
lines_join [] gs = refl
lines_join (f ∷ fs) gs =
    let line = file_line (figured_file f).number (figured_file f).counts in
    ap (λ (t : List ℕ). line ++ t) (lines_join fs gs) ∙ sym (append_assoc line (lines_of fs) (lines_of gs))

-- The sums of files, from any sums.
sums_from : (fs : List (List ℕ)) (sums : List ℕ) → length sums ≡ 8 → sums_of sums fs ≡ plus sums (sums_of nothing fs)
unfolding sums_of
sums_from [] sums h = sym (plus_none 8 sums h)
sums_from (f ∷ fs) sums h =
    let c = (figured_file f).counts in
    let e = (file_small f).eight in
    sums_from fs (plus sums c) (plus_length sums c (h ∙ sym e) ∙ h) ∙ plus_assoc sums c (sums_of nothing fs)
    ∙ ap (plus sums) (sym (sums_from fs (plus nothing c) (plus_length nothing c (sym e)) ∙ ap (λ (l : List ℕ). plus l (sums_of nothing fs)) (plus_nothing 8 c e)))

sums_length : (fs : List (List ℕ)) (sums : List ℕ) → length sums ≡ 8 → length (sums_of sums fs) ≡ 8
unfolding sums_of
sums_length [] sums h = h
sums_length (f ∷ fs) sums h = sums_length fs (plus sums (figured_file f).counts) (plus_length sums (figured_file f).counts (h ∙ sym (file_small f).eight) ∙ h)

both : (fs gs : List (List ℕ)) (sums : List ℕ) → sums_of sums (fs ++ gs) ≡ sums_of (sums_of sums fs) gs
unfolding sums_of
both [] gs sums = refl
both (f ∷ fs) gs sums = both fs gs (plus sums (figured_file f).counts)

pub sums_join : (fs gs : List (List ℕ)) → sums_of nothing (fs ++ gs) ≡ plus (sums_of nothing fs) (sums_of nothing gs)
sums_join fs gs = both fs gs nothing ∙ sums_from gs (sums_of nothing fs) (sums_length fs nothing refl)

-- Two inputs of whole files, within the limit together: joined they print the lines of the one, then those of the other, and sums that are added.
pub division : (a b : List ℕ) (fs gs : List (List ℕ)) → Reads a fs → Reads b gs → length fs + length gs ≤ files_limit
    → fleet_text (a ++ b) ≡ (lines_of fs ++ lines_of gs) ++ total_line (plus (sums_of nothing fs) (sums_of nothing gs))
division a b fs gs r q h =
    fleet_files (a ++ b) (fs ++ gs) (reads_join a b fs gs r q) (simp length-append h)
    ∙ ap₂ (λ (t u : List ℕ). t ++ total_line u) (lines_join fs gs) (sums_join fs gs)
