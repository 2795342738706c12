-- Each outcome of the unit on a checked net, in the terms of the code.
use Rattle.unit.specs.declared.UnitError.TheVariants.{Faulty, Refused, Spent}
use Rattle.std.specs.Prelude.{Ok, Err}
use Prim.Native.Nat.{ℕ, ◌-◌, ◌≤◌, ◌<◌}
use mathlib.Core.Path.{◌≡◌, sym, ap, ◌∙◌}
use mathlib.Core.Bool.{Bool, true, false, cond, not}
use mathlib.Core.List.{List, ◌++◌}
use native.Mathlib.Omega.{arith}
use borrow.Author.Tests.{lt-ltb, le-ltb, le-leb, lt-leb}
use lib.ListN.{length, take, drop}
use Rattle.theory.specs.Origins.{InsideFrom}
use Rattle.theory.proofs.origins.Statements.{inside_from}
use Rattle.net.specs.Clauses.{call}
use Rattle.net.specs.Table.{check_net}
use Rattle.net.specs.declared.Refusal.TheVariants.{ShortBuffer}
use Rattle.net.proofs.NetCheck.{chosen_checked}
use Rattle.unit_program.specs.Programs.{items}
use Rattle.unit_program.specs.Faults.{first_fault, Sound}
use Rattle.unit_program.specs.Runs.{Stand, run_items}
use Rattle.unit_program.proofs.Looping.{items_fewer, items_out}
use Rattle.unit_program.proofs.Parsing.{prefix_most}
use Rattle.unit.specs.Table.{UnitOutcome, unit_outcome, place_limit, told_place, unit_clauses, unit_done}

-- What the check of a net hands on.
pub checked_inside : (o k : ℕ) (ws : List ℕ) (set n : ℕ) → check_net o k ws set ≡ Ok n → InsideFrom n ws × (n ≤ 1024)
checked_inside o k ws set n e =
    let t = chosen_checked o k ws set e in
    (rw t.0 (inside_from o k ws t.1), rw t.0 t.1.few)

-- A program with no place at fault.
pub program_whole : (n : ℕ) (ps : List ℕ) {p : ℕ} → p ≡ first_fault n ps → length ps ≤ p → Sound n false ps
program_whole n ps e h = omega (arith, prefix_most n false ps, e)

-- A place as it is told.
pub told_near : (p : ℕ) → p ≤ place_limit → p ≡ told_place p
told_near p h = rw (le-leb p place_limit h)

pub told_far : (p : ℕ) → place_limit < p → place_limit ≡ told_place p
told_far p h = rw (lt-leb p place_limit h)

module _ (n : ℕ) (ws ps : List ℕ) (budget : ℕ) (m : List ℕ) where
  -- Number 5.
  pub unit_short : length m < n → unit_outcome (Err (Refused ShortBuffer)) m ≡ call (unit_clauses ws ps budget m n) (unit_done ws ps budget m n)
  unit_short h = rw (lt-ltb (length m) n h)

  -- Number 16.
  pub unit_fault : {p t : ℕ} → n ≤ length m → p ≡ first_fault n ps → p < length ps → t ≡ told_place p
      → unit_outcome (Err (Faulty t)) m ≡ call (unit_clauses ws ps budget m n) (unit_done ws ps budget m n)
  unit_fault {p} h e l f =
      let g : first_fault n ps < length ps = omega arith in
      rw (le-ltb (length m) n h, lt-ltb (first_fault n ps) (length ps) g) (ap (λ (i : ℕ). unit_outcome (Err (Faulty i)) m) (f ∙ ap told_place e))

  -- Numbers 6 and 0: the program was run on the marks of the nodes, and stood so.
  module _ {p : ℕ} (h : n ≤ length m) (e : p ≡ first_fault n ps) (l : length ps ≤ p) (s : Stand) (f : s ≡ run_items ws (items n ps) budget (take n m)) where
    pub left_most : s.left ≤ budget
    left_most = let t = items_fewer ws (items n ps) budget (take n m) in let q = ap (λ (z : Stand). z.left) f in omega arith

    abbrev given : Stand → UnitOutcome
    given z = cond (not z.runs) (unit_outcome (Err (Spent budget)) (z.marks ++ drop n m)) (unit_outcome (Ok (budget - z.left)) (z.marks ++ drop n m))

    stood : given s ≡ call (unit_clauses ws ps budget m n) (unit_done ws ps budget m n)
    stood =
        let g : length ps ≤ first_fault n ps = omega arith in
        rw (le-ltb (length m) n h, le-ltb (first_fault n ps) (length ps) g) (ap given f)

    pub unit_done_lem : s.runs ≡ true → unit_outcome (Ok (budget - s.left)) (s.marks ++ drop n m) ≡ call (unit_clauses ws ps budget m n) (unit_done ws ps budget m n)
    unit_done_lem g = ap (λ (q : Bool). cond (not q) (unit_outcome (Err (Spent budget)) (s.marks ++ drop n m)) (unit_outcome (Ok (budget - s.left)) (s.marks ++ drop n m))) (sym g) ∙ stood

    -- Where it was spent nothing is left, so the count is the budget.
    pub unit_spent : s.runs ≡ false → unit_outcome (Err (Spent (budget - s.left))) (s.marks ++ drop n m) ≡ call (unit_clauses ws ps budget m n) (unit_done ws ps budget m n)
    unit_spent g =
        let out = items_out ws (items n ps) budget (take n m) (ap (λ (z : Stand). z.runs) (sym f) ∙ g) in
        let none : budget - s.left ≡ budget = omega (arith, ap (λ (z : Stand). z.left) f, out) in
        ap (λ (i : ℕ). unit_outcome (Err (Spent i)) (s.marks ++ drop n m)) none
        ∙ ap (λ (q : Bool). cond (not q) (unit_outcome (Err (Spent budget)) (s.marks ++ drop n m)) (unit_outcome (Ok (budget - s.left)) (s.marks ++ drop n m))) (sym g)
        ∙ stood
