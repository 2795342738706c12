-- What is printed stands in front of the text; and what a turn leaves: sums that fit, and fewer files to come.
use Prim.Native.Nat.{ℕ, suc, ◌-◌, ◌≤◌, ◌<◌}
use mathlib.Core.Path.{◌≡◌, refl, sym, ap, ◌∙◌}
use mathlib.Core.Bool.{Bool, true, false, cond}
use mathlib.Core.List.{List}
use native.Mathlib.Omega.{arith}
use lib.Dec.{ltb}
use lib.ListN.{length, take, drop, length-append, length-take}
use lib.Seq.{length-take-le}
use Rattle.text_field.specs.Writing.{Wrote}
use Rattle.figures_file.specs.Files.{figured_file}
use Rattle.fleet_text.specs.Sums.{Sums, plus}
use Rattle.fleet_text.specs.Turns.{head_of, goes_on, turn_left, turn_sums, Turned}
use Rattle.fleet_text.specs.declared.Head.{Head}
use Rattle.fleet_text.specs.declared.Head.TheVariants.{End, Bad, Size}
use Rattle.fleet_text.specs.declared.Turn.{Turn}
use Rattle.fleet_text.proofs.Adding.{sums_next}
use Rattle.fleet_text.proofs.Small.{file_small}
use Rattle.fleet_text.proofs.Turns.{size_within}

pub wrote_front : {ws l xs : List ℕ} {r : ℕ} → Wrote ws l xs r → (r ≤ length xs) × (r ≡ length (take r xs))
wrote_front {ws} {l} {xs} {r} w =
    let e = ap length w.list ∙ length-append ws (drop (length ws) l) in
    let f = w.size in
    (omega (arith, e, f), simp length-take (omega (arith, e, f)))

-- A part that is lent from the front has the length asked for.
pub front : (n : ℕ) (l : List ℕ) → n ≤ length l → n ≡ length (take n l)
front n l h = sym (length-take-le n l h)

-- What is kept from turn to turn: the files to come are within the limit, the sums are those of as many files as were read, and each turn that goes on leaves fewer to come.
abbrev pub Kept : ℕ → Bool → ℕ → List ℕ → Type 0
Kept left going next sums = (next ≤ 65536) × Sums (65536 - next) sums × (cond going (suc next) 0 ≤ left)

module _ (left : ℕ) (sums head f : List ℕ) (few : left ≤ 65536) (so : Sums (65536 - left) sums) where
  stays : Kept left false left sums
  stays = (few, so, omega arith)

  goes : 1 ≤ left → Kept left true (left - 1) (plus sums (figured_file f).counts)
  goes h = (omega arith, sums_next (65536 - left) (65536 - (left - 1)) sums (figured_file f).counts (omega arith) so (file_small f), omega arith)

  by_head_lem : (h : Head) → h ≡ head_of left head → Kept left (goes_on f h) (turn_left left f h) (turn_sums sums f h)
  by_head_lem End e = stays
  by_head_lem Bad e = stays
  by_head_lem (Size n) e = at (ltb (length f) n)
    where
      at : (b : Bool) → Kept left (cond b false true) (cond (cond b false true) (left - 1) left) (cond (cond b false true) (plus sums (figured_file f).counts) sums)
      at true = stays
      at false = goes (size_within left n head e refl).1

  pub turn_kept : (l l' : List ℕ) {t : Turn} → Turned left sums f (head_of left head) l l' t → Kept left t.going t.left t.sums
  turn_kept l l' d = rw (d.going, d.files, d.added) (by_head_lem (head_of left head) refl)

-- Each turn leaves fewer files to come, or is the last.
pub fewer : (going next : Bool) (left left' : ℕ) → going ≡ true → cond next (suc left') 0 ≤ left → cond next (suc left') 0 < cond going (suc left) 0
fewer going next left left' e h = rw e (omega arith)
