-- The two parts of a reason as it is written, and its lines in front of a list.
use Rattle.explain.specs.declared.ExplainError.TheVariants.{ShortLines}
use Rattle.std.specs.Prelude.{Err, Ok}
use Prim.Native.Nat.{ℕ, suc, ◌+◌, ◌-◌, ◌*◌, ◌<◌, ◌≤◌}
use mathlib.Core.Path.{◌≡◌, sym, ap, ◌∙◌}
use mathlib.Core.List.{List, ◌∷◌}
use native.Mathlib.Omega.{arith}
use borrow.Author.Tests.{lt-ltb, le-ltb}
use lib.ListN.{length, get_or, take, drop, length-drop}
use lib.Seq.{drop-cons, take_all, drop-drop, length-take-le, sets-eq}
use Rattle.theory_laws.specs.Over.{over}
use Rattle.derivation_lines.specs.Lines.{Line}
use Rattle.derivation_lines.specs.Deriving.{derive, derived_size}
use Rattle.derivation_lines.specs.Flat.{flat, derive_list}
use Rattle.derivation_lines.proofs.Sizes.{derive_size, derive_short}
use Rattle.derivation_lines.proofs.Flatness.{flat_length}
use Rattle.explain_line.specs.Blocks.{put_lines}
use Rattle.explain.specs.Table.{explain_outcome}
use Rattle.explain.specs.Found.{write_lines}

-- Lines from line 0 on stand in front of a list that has room for them.
put_over : (l : List ℕ) (ls : List Line) → 4 * length ls ≤ length l → put_lines l 0 ls ≡ over (flat ls) l
put_over l ls h = let e : 0 + length (flat ls) ≡ length (flat ls) = omega arith in rw e at (sets-eq (flat ls) l 0 (omega (arith, flat_length ls)))

-- A list that has the shape of a reason.
module _ (o set : ℕ) (ws r : List ℕ) (long : 3 ≤ length r) (some : 1 ≤ get_or r 0 0) (fits : get_or r 0 0 + 2 ≤ length r) where
  abbrev first : ℕ
  first = get_or r 0 0

  abbrev part : List ℕ
  part = take (2 + first - 2) (drop 2 r)

  abbrev second : List ℕ
  second = take (length r - (2 + first)) (drop (2 + first) r)

  pub part_length : length part ≡ first
  part_length = length-take-le (2 + first - 2) (drop 2 r) (omega (arith, length-drop 2 r)) ∙ omega arith

  second_is : second ≡ drop (2 + first) r
  second_is = take_all (length r - (2 + first)) (drop (2 + first) r) (omega (arith, length-drop (2 + first) r))

  pub second_length : length second ≡ length r - (2 + first)
  second_length = ap length second_is ∙ length-drop (2 + first) r

  part_is : part ≡ get_or r 2 0 ∷ take (first - 1) (drop 3 r)
  part_is = let e : 2 + first - 2 ≡ suc (first - 1) = omega arith in rw (e, drop-cons r 2 0 long)

  -- The parts' derivation is the reason's.
  pub lines_same : derive o set ws (get_or part 0 0) (drop 1 part) second ≡ derive_list o set ws r
  lines_same =
      let e : 3 + (first - 1) ≡ 2 + first = omega arith in
      rw (second_is, part_is, drop-drop (first - 1) 3 r, e)

  module _ {n : ℕ} (count : n ≡ derived_size o set ws (get_or part 0 0) (drop 1 part) second) where
    lines_count : n ≡ length (derive_list o set ws r)
    lines_count = count ∙ sym (derive_size set ws o (get_or part 0 0) (drop 1 part) second) ∙ ap length lines_same

    pub count_few : n ≤ 2 * length r + 1
    count_few =
        omega (arith, count, derive_size set ws o (get_or part 0 0) (drop 1 part) second, derive_short set ws o (get_or part 0 0) (drop 1 part) second, length-drop 1 part, part_length, second_length)

    -- Number 8.
    pub lines_short : (l : List ℕ) → length l < 4 * n → (d m : List ℕ) → explain_outcome (Err (ShortLines (4 * n))) d m l ≡ write_lines (derive_list o set ws r) (length r) d m l
    lines_short l h d m = rw (← lines_count, lt-ltb (length l) (4 * n) h)

    module _ (l : List ℕ) (room : 4 * n ≤ length l) where
      pub lines_room_lem : 4 * length (derive o set ws (get_or part 0 0) (drop 1 part) second) ≤ length l
      lines_room_lem = omega (arith, count, derive_size set ws o (get_or part 0 0) (drop 1 part) second)

      -- Number 0.
      pub lines_done_lem : {out : List ℕ} → out ≡ put_lines l 0 (derive o set ws (get_or part 0 0) (drop 1 part) second) → (d m : List ℕ) → explain_outcome (Ok (4 * n, length r)) d m out ≡ write_lines (derive_list o set ws r) (length r) d m l
      lines_done_lem {out} e d m =
          let f : out ≡ over (flat (derive_list o set ws r)) l = e ∙ ap (put_lines l 0) lines_same ∙ put_over l (derive_list o set ws r) (omega (arith, lines_count)) in
          rw (← lines_count, le-ltb (length l) (4 * n) room, f)
