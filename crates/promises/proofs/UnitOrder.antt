-- What the marker unit does over two lists with the same words is the same, in whatever order they stand and however often: marks, count, and whether the program ended.
use Prim.Native.Nat.{ℕ, zero, suc, ◌-◌, ◌/◌, ◌%◌, ◌≤◌, ◌<◌}
use mathlib.Core.Path.{◌≡◌, refl, sym, ap, ◌∙◌}
use mathlib.Core.Bool.{Bool, true, false, cond, not, ◌&&◌, ◌||◌}
use mathlib.Core.List.{List, [], ◌∷◌}
use native.Mathlib.Omega.{arith}
use lib.Bits.{bit_and}
use lib.Dec.{eqb, ltb, leb}
use lib.ListN.{length, length-map}
use borrow.Author.Tests.{leb-true}
use Rattle.theory_laws.proofs.Booleans.{and_left, and_right}
use Rattle.theory.specs.Nets.{AllIn}
use Rattle.theory.specs.Inside.{Inside}
use Rattle.theory.specs.Marks.{command, round}
use Rattle.theory.specs.Scans.{same, Scan, rounds}
use Rattle.theory.specs.declared.Command.{Command}
use Rattle.theory.proofs.machine.Commands.{mark_length}
use Rattle.theory.proofs.machine.Growth.{command_step}
use Rattle.theory.proofs.machine.Rounds.{rounds_none, rounds_last, rounds_more}
use Rattle.theory.proofs.machine.Order.{rounds_order}
use Rattle.unit_program.specs.declared.Instruction.{Instruction}
use Rattle.unit_program.specs.declared.Instruction.TheVariants as instruction
use Rattle.unit_program.specs.Programs.{op_of, rest_of, clear_of, set_of, link_of, loop_word, end_word, decode, Item, one, loop, Parts, part, parts, items}
use Rattle.unit_program.specs.Runs.{does, sets, Stand, pass, passes, item, onward, run_items, run}
use Rattle.unit_program.proofs.Looping.{passes_last, passes_again}

-- ── what a command of a program puts is one of the eight markers ──

abbrev Fine : Instruction → Type 0
Fine (instruction.Link c) = c.put < 8
Fine (instruction.Clear s) = Unit {0}
Fine (instruction.Set j v) = Unit {0}
Fine instruction.Loop = Unit {0}
Fine instruction.End = Unit {0}
Fine instruction.Unknown = Unit {0}

-- The one or the other, the first fine where it is taken.
fine_if : (b : Bool) (i j : Instruction) → (b ≡ true → Fine i) → Fine j → Fine (cond b i j)
fine_if true i j f g = f refl
fine_if false i j f g = g

fine_clear : (r : ℕ) → Fine (clear_of r)
fine_clear r = fine_if (leb 1 r && leb r 255) (instruction.Clear r) instruction.Unknown (λ e. tt) tt

fine_set : (n r : ℕ) → Fine (set_of n r)
fine_set n r = fine_if (leb (r / 65536) 7 && ltb (r % 65536) n) (instruction.Set (r / 65536) (r % 65536)) instruction.Unknown (λ e. tt) tt

fine_link : (r : ℕ) → Fine (link_of r)
fine_link r =
    fine_if (leb (r / 65536) 7 && (leb (r / 256 % 256) 7 && leb (r % 256) 3))
    (instruction.Link (record { sign = r % 2; at_head = eqb (r / 2 % 2) 1; test = r / 65536; put = r / 256 % 256 }))
    instruction.Unknown
    (λ e. small (and_left (leb (r / 256 % 256) 7) (leb (r % 256) 3) (and_right (leb (r / 65536) 7) (leb (r / 256 % 256) 7 && leb (r % 256) 3) e)))
    tt
  where
    small : leb (r / 256 % 256) 7 ≡ true → r / 256 % 256 < 8
    small h = let t = leb-true (r / 256 % 256) 7 h in omega (arith, t)

fine_decode : (n w : ℕ) → Fine (decode n w)
unfolding decode
fine_decode n w =
    fine_if (eqb (op_of w) 0) (clear_of (rest_of w)) (cond (eqb (op_of w) 1) (set_of n (rest_of w)) (cond (eqb (op_of w) 2) (link_of (rest_of w)) (cond (eqb w loop_word) instruction.Loop (cond (eqb w end_word) instruction.End instruction.Unknown))))
    (λ e. fine_clear (rest_of w))
    (fine_if (eqb (op_of w) 1) (set_of n (rest_of w)) (cond (eqb (op_of w) 2) (link_of (rest_of w)) (cond (eqb w loop_word) instruction.Loop (cond (eqb w end_word) instruction.End instruction.Unknown)))
    (λ e. fine_set n (rest_of w))
    (fine_if (eqb (op_of w) 2) (link_of (rest_of w)) (cond (eqb w loop_word) instruction.Loop (cond (eqb w end_word) instruction.End instruction.Unknown))
    (λ e. fine_link (rest_of w))
    (fine_if (eqb w loop_word) instruction.Loop (cond (eqb w end_word) instruction.End instruction.Unknown) (λ e. tt)
    (fine_if (eqb w end_word) instruction.End instruction.Unknown (λ e. tt) tt))))

abbrev AllFine : List Instruction → Type 0
AllFine [] = Unit {0}
AllFine (i ∷ is) = Fine i × AllFine is

abbrev ItemFine : Item → Type 0
ItemFine (one i) = Fine i
ItemFine (loop is) = AllFine is

abbrev ItemsFine : List Item → Type 0
ItemsFine [] = Unit {0}
ItemsFine (t ∷ ts) = ItemFine t × ItemsFine ts

record PartsFine (p : Parts) : Type 0 where
  pub body : AllFine p.body
  pub beyond : ItemsFine p.beyond
  pub items : ItemsFine p.items

part_fine : (i : Instruction) (p : Parts) → Fine i → PartsFine p → PartsFine (part i p)
part_fine instruction.Loop p f q = record { body = tt; beyond = tt; items = (q.body, q.beyond) }
part_fine instruction.End p f q = record { body = tt; beyond = q.items; items = q.items }
part_fine (instruction.Clear s) p f q = record { body = (tt, q.body); beyond = q.beyond; items = (tt, q.items) }
part_fine (instruction.Set j v) p f q = record { body = (tt, q.body); beyond = q.beyond; items = (tt, q.items) }
part_fine (instruction.Link c) p f q = record { body = (f, q.body); beyond = q.beyond; items = (f, q.items) }
part_fine instruction.Unknown p f q = record { body = (tt, q.body); beyond = q.beyond; items = (tt, q.items) }

parts_fine : (n : ℕ) (ps : List ℕ) → PartsFine (parts n ps)
unfolding parts
parts_fine n [] = record { body = tt; beyond = tt; items = tt }
parts_fine n (w ∷ ps) = part_fine (decode n w) (parts n ps) (fine_decode n w) (parts_fine n ps)

-- ── one command ──

-- A round of one command, within a budget of one, leaves what the command does.
one_round_lem : (c : Command) (us m : List ℕ) → (rounds (c ∷ []) us 0 1 m).marks ≡ command c us m
unfolding round
one_round_lem c us m = at (same m (round (c ∷ []) us m)) refl
  where
    at : (q : Bool) → same m (round (c ∷ []) us m) ≡ q → (rounds (c ∷ []) us 0 1 m).marks ≡ round (c ∷ []) us m
    at true h = ap (λ (s : Scan). s.marks) (rounds_last (c ∷ []) us 0 0 m h)
    at false h = ap (λ (s : Scan). s.marks) (rounds_more (c ∷ []) us 0 0 m h ∙ rounds_none (c ∷ []) us 1 0 (round (c ∷ []) us m))

module _ (n : ℕ) (ws vs : List ℕ) (e : Inside n ws) (d : Inside n vs) (to : AllIn ws vs) (from : AllIn vs ws) where
  command_same : (c : Command) → c.put < 8 → (m : List ℕ) → n ≤ length m → command c ws m ≡ command c vs m
  command_same c l m r = sym (one_round_lem c ws m) ∙ ap (λ (s : Scan). s.marks) (rounds_order n ws vs e d to from (c ∷ []) (l, tt) 1 0 m r) ∙ one_round_lem c vs m

  does_same : (i : Instruction) → Fine i → (m : List ℕ) → n ≤ length m → does ws i m ≡ does vs i m
  does_same (instruction.Link c) f m r = command_same c f m r
  does_same (instruction.Clear s) f m r = refl
  does_same (instruction.Set j v) f m r = refl
  does_same instruction.Loop f m r = refl
  does_same instruction.End f m r = refl
  does_same instruction.Unknown f m r = refl

  sets_same : (i : Instruction) → Fine i → (m : List ℕ) → n ≤ length m → sets ws i m ≡ sets vs i m
  sets_same (instruction.Link c) f m r = ap (λ (l : List ℕ). not (same m l)) (command_same c f m r)
  sets_same (instruction.Clear s) f m r = refl
  sets_same (instruction.Set j v) f m r = refl
  sets_same instruction.Loop f m r = refl
  sets_same instruction.End f m r = refl
  sets_same instruction.Unknown f m r = refl

  does_long : (i : Instruction) → Fine i → (m : List ℕ) → n ≤ length m → n ≤ length (does ws i m)
  does_long (instruction.Link c) f m r = let h = (command_step n 8 c f ws m e r).long in omega (arith, h, r)
  does_long (instruction.Clear s) f m r = let h = length-map m (λ (b : ℕ). bit_and b (255 - s)) in omega (arith, h, r)
  does_long (instruction.Set j v) f m r = let h = mark_length j v m in omega (arith, h, r)
  does_long instruction.Loop f m r = r
  does_long instruction.End f m r = r
  does_long instruction.Unknown f m r = r

  -- ── a pass ──

  pass_same : (is : List Instruction) → AllFine is → (left : ℕ) (fresh : Bool) (m : List ℕ) → n ≤ length m → pass ws is left fresh m ≡ pass vs is left fresh m
  unfolding pass
  pass_same [] f left fresh m r = refl
  pass_same (i ∷ is) f zero fresh m r = refl
  pass_same (i ∷ is) f (suc left) fresh m r =
      pass_same is f.1 left (fresh || sets ws i m) (does ws i m) (does_long i f.0 m r)
      ∙ ap (λ (b : Bool). pass vs is left (fresh || b) (does ws i m)) (sets_same i f.0 m r)
      ∙ ap (λ (l : List ℕ). pass vs is left (fresh || sets vs i m) l) (does_same i f.0 m r)

  pass_long : (is : List Instruction) → AllFine is → (left : ℕ) (fresh : Bool) (m : List ℕ) → n ≤ length m → n ≤ length (pass ws is left fresh m).marks
  unfolding pass
  pass_long [] f left fresh m r = r
  pass_long (i ∷ is) f zero fresh m r = r
  pass_long (i ∷ is) f (suc left) fresh m r = pass_long is f.1 left (fresh || sets ws i m) (does ws i m) (does_long i f.0 m r)

  -- ── a loop ──

  module _ (is : List Instruction) (f : AllFine is) where
    abbrev here : ℕ → List ℕ → Stand
    here left m = pass ws is left false m

    passes_same : (most left : ℕ) (m : List ℕ) → n ≤ length m → passes ws is most left m ≡ passes vs is most left m
    unfolding passes
    passes_same zero left m r = refl
    passes_same (suc most) left m r = at ((here left m).runs && (here left m).fresh) refl (passes_same most (here left m).left (here left m).marks (pass_long is f left false m r))
      where
        once : pass ws is left false m ≡ pass vs is left false m
        once = pass_same is f left false m r

        at : (q : Bool) → ((here left m).runs && (here left m).fresh) ≡ q
            → passes ws is most (here left m).left (here left m).marks ≡ passes vs is most (here left m).left (here left m).marks
            → passes ws is (suc most) left m ≡ passes vs is (suc most) left m
        at true h go =
            passes_again ws is most left m h ∙ go ∙ ap (λ (s : Stand). passes vs is most s.left s.marks) once
            ∙ sym (passes_again vs is most left m (sym (ap (λ (s : Stand). s.runs && s.fresh) once) ∙ h))
        at false h go = passes_last ws is most left m h ∙ once ∙ sym (passes_last vs is most left m (sym (ap (λ (s : Stand). s.runs && s.fresh) once) ∙ h))

    passes_long : (most left : ℕ) (m : List ℕ) → n ≤ length m → n ≤ length (passes ws is most left m).marks
    unfolding passes
    passes_long zero left m r = r
    passes_long (suc most) left m r = at ((here left m).runs && (here left m).fresh) refl (passes_long most (here left m).left (here left m).marks (pass_long is f left false m r))
      where
        at : (q : Bool) → ((here left m).runs && (here left m).fresh) ≡ q
            → n ≤ length (passes ws is most (here left m).left (here left m).marks).marks → n ≤ length (passes ws is (suc most) left m).marks
        at true h go = rw (passes_again ws is most left m h) go
        at false h go = rw (passes_last ws is most left m h) (pass_long is f left false m r)

  -- ── a program ──

  item_same : (t : Item) → ItemFine t → (left : ℕ) (m : List ℕ) → n ≤ length m → item ws t left m ≡ item vs t left m
  item_same (one i) f left m r = pass_same (i ∷ []) (f, tt) left false m r
  item_same (loop is) f left m r = passes_same is f (suc left) left m r

  item_long : (t : Item) → ItemFine t → (left : ℕ) (m : List ℕ) → n ≤ length m → n ≤ length (item ws t left m).marks
  item_long (one i) f left m r = pass_long (i ∷ []) (f, tt) left false m r
  item_long (loop is) f left m r = passes_long is f (suc left) left m r

  items_same : (ts : List Item) → ItemsFine ts → (left : ℕ) (m : List ℕ) → n ≤ length m → run_items ws ts left m ≡ run_items vs ts left m
  unfolding run_items
  items_same [] f left m r = refl
  items_same (t ∷ ts) f left m r =
      at (item ws t left m) (items_same ts f.1 (item ws t left m).left (item ws t left m).marks (item_long t f.0 left m r))
      ∙ ap (λ (s : Stand). onward s (λ l k. run_items vs ts l k)) (item_same t f.0 left m r)
    where
      at : (s : Stand) → run_items ws ts s.left s.marks ≡ run_items vs ts s.left s.marks → onward s (λ l k. run_items ws ts l k) ≡ onward s (λ l k. run_items vs ts l k)
      at s go = ap (λ (z : Stand). cond s.runs z s) go

  -- So a program that is run with a budget gives the same.
  pub run_same : (program : List ℕ) (budget : ℕ) (m : List ℕ) → n ≤ length m → run n ws program budget m ≡ run n vs program budget m
  run_same program budget m r = ap told (items_same (items n program) (parts_fine n program).items budget m r)
    where
      told : Stand → Scan
      told s = record { done = s.runs; count = budget - s.left; marks = s.marks }
