-- A pass between the loops that write the bytes for it and fold them after it: its commands, and what its answer says.
use Prim.Native.Nat.{ℕ, ◌≤◌, ◌<◌}
use mathlib.Core.Path.{◌≡◌, sym, ap, ◌∙◌}
use mathlib.Core.Bool.{false, not}
use mathlib.Core.List.{List}
use native.Mathlib.Omega.{arith}
use lib.ListN.{length, get_or}
use Rattle.theory_laws.specs.Deciding.{Decides}
use Rattle.theory.specs.Marks.{U, has, round}
use Rattle.theory.specs.Inside.{Inside}
use Rattle.theory.specs.Origins.{chosen, InsideFrom}
use Rattle.theory.proofs.origins.Statements.{chosen_inside}
use Rattle.scan_lanes.specs.Lanes.{lane_pass}
use Rattle.scan_lanes.specs.Codes.{on_nodes, is_code, is_marks, isnt_code, isnt_marks, NoneNew, any_new, marks_of, Written}
use Rattle.scan_lanes.specs.Passes.{is_commands, isnt_commands}
use Rattle.scan_lanes.proofs.Nodes.{nodes_twice}
use Rattle.scan_lanes.proofs.Meaning.{is_pass, is_quiet, u_quiet, isnt_pass, isnt_quiet}
use Rattle.scan_round.specs.Quiet.{Quiet}
use Rattle.scan_round.proofs.Written.{marks_low, marks_room}

module _ (n os : ℕ) (words e : List ℕ) (inside : InsideFrom n words) (room : n ≤ length e) where
  abbrev ws : List ℕ
  ws = chosen os words

  abbrev m : List ℕ
  m = marks_of n e

  in_ws : Inside n ws
  in_ws = chosen_inside os words inside

  -- The pass over "is" from the written bytes e to the bytes a, which are folded to the bytes b.
  pub ran_is : (a b : List ℕ) (r : ℕ) → Written n e → a ≡ lane_pass 0 ws e → b ≡ on_nodes (λ (x : ℕ). is_code (is_marks x)) n a
      → ((i : ℕ) → i < 8 → NoneNew is_marks i n a r)
      → (b ≡ on_nodes is_code n (round is_commands ws m))
      × (Decides (not (any_new r)) (Quiet is_commands ws m)
      × (has 6 r ≡ false → (v : ℕ) → v < n → has U (get_or (round is_commands ws m) v 0) ≡ has U (get_or m v 0)))
  ran_is a b r written pass fold new =
      let long = marks_room n e room in
      let low = marks_low n e room in
      let p : a ≡ lane_pass 0 ws (on_nodes is_code n m) = pass ∙ ap (lane_pass 0 ws) written in
      let news = rw p at new in (
        fold ∙ ap (on_nodes (λ (x : ℕ). is_code (is_marks x)) n) p ∙ is_pass n ws in_ws m long low,
        (is_quiet n ws in_ws m long low r news, u_quiet n ws in_ws m long low r news),
      )

  -- The pass over "is not" from the bytes c, as which the marks of e are written, to the bytes a, which are folded to the bytes b.
  pub ran_isnt : (c a b : List ℕ) (r : ℕ) → c ≡ on_nodes (λ (x : ℕ). isnt_code (is_marks x)) n e → a ≡ lane_pass 1 ws c
      → b ≡ on_nodes (λ (x : ℕ). is_code (isnt_marks x)) n a → ((i : ℕ) → i < 8 → NoneNew isnt_marks i n a r)
      → (b ≡ on_nodes is_code n (round isnt_commands ws m)) × Decides (not (has 1 r)) (Quiet isnt_commands ws m)
  ran_isnt c a b r code pass fold new =
      let long = marks_room n e room in
      let low = marks_low n e room in
      let p : a ≡ lane_pass 1 ws (on_nodes isnt_code n m) = pass ∙ ap (lane_pass 1 ws) (code ∙ sym (nodes_twice is_marks isnt_code n e)) in
      let news = rw p at new in (
        fold ∙ ap (on_nodes (λ (x : ℕ). is_code (isnt_marks x)) n) p ∙ isnt_pass n ws in_ws m long low,
        isnt_quiet n ws in_ws m long low r (news 1 (omega arith)),
      )
