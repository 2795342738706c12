-- The commands of a round by passes, marker by marker: commands that follow "is" test and put a marker each, and need nothing of each other.
use Prim.{tt}
use Prim.Native.Nat.{ℕ, suc, ◌≤◌}
use mathlib.Core.Path.{◌≡◌, ap, ◌∙◌}
use mathlib.Core.Bool.{Bool, ◌&&◌, ◌||◌}
use mathlib.Core.List.{List}
use native.Mathlib.Omega.{arith}
use borrow.Author.Tests.{ne_eqb}
use lib.Dec.{eqb}
use lib.ListN.{length, get_or}
use Rattle.theory_laws.proofs.Booleans.{and_false, or_false, or_assoc}
use Rattle.theory.specs.Words.{parity}
use Rattle.theory.specs.Marks.{T, F, U, has, near, far, fires, command, round, to_head, to_tail}
use Rattle.theory.specs.Inside.{Inside}
use Rattle.theory.specs.declared.Command.{Command}
use Rattle.theory.proofs.machine.Commands.{any, hits, any_same, any_none, command_at_lem}
use Rattle.theory.proofs.machine.Growth.{Puts, command_step}
use Rattle.scan_lanes.specs.Passes.{is_commands, isnt_commands}

-- Every command puts one of the three markers.
pub puts_is : Puts 3 is_commands
puts_is = (omega arith, (omega arith, (omega arith, tt)))

pub puts_isnt : Puts 3 isnt_commands
puts_isnt = (omega arith, (omega arith, tt))

module _ (n : ℕ) (ws : List ℕ) (inside : Inside n ws) where
  module _ (m : List ℕ) (room : n ≤ length m) where
    pub command_room : (c : Command) → n ≤ length (command c ws m)
    command_room c = omega (arith, (command_step n (suc c.put) c (omega arith) ws m inside room).long)

    -- A command changes no other marker than its own.
    pub other_same : (c : Command) (j v : ℕ) → (j ≡ c.put → ⊥) → has j (get_or (command c ws m) v 0) ≡ has j (get_or m v 0)
    other_same c j v h =
        command_at_lem c ws m n j v inside room
        ∙ ap (λ (q : Bool). has j (get_or m v 0) || q)
        (any_none (hits c m j v) ws (λ w i. rw (ne_eqb j c.put h, and_false (eqb (far c.at_head w) v)) (and_false (fires c m w))))
        ∙ or_false (has j (get_or m v 0))

    -- After a command that does not put the marker tested for, another puts its marker where it would have put it before.
    pub same_hits : (c d : Command) (v : ℕ) → (c.test ≡ d.put → ⊥) → any (hits c (command d ws m) c.put v) ws ≡ any (hits c m c.put v) ws
    same_hits c d v h =
        any_same (hits c (command d ws m) c.put v) (hits c m c.put v) ws
        (λ w i. ap (λ (q : Bool). (eqb (parity w) c.sign && q) && (eqb (far c.at_head w) v && eqb c.put c.put)) (other_same d c.test (near c.at_head w) h))

  module _ (m : List ℕ) (room : n ≤ length m) (v : ℕ) where
    -- The marks of node v that the links put there under a command, tested against m.
    abbrev pub comes : Command → Bool
    comes c = any (hits c m c.put v) ws

    abbrev a : List ℕ
    a = command (to_tail 0 T T) ws m

    abbrev b : List ℕ
    b = command (to_head 0 U U) ws a

    room_a : n ≤ length a
    room_a = command_room m room (to_tail 0 T T)

    room_b : n ≤ length b
    room_b = command_room a room_a (to_head 0 U U)

    pub is_T : has T (get_or (round is_commands ws m) v 0) ≡ (has T (get_or m v 0) || comes (to_tail 0 T T))
    unfolding round
    is_T =
        other_same b room_b (to_tail 0 F F) T v (λ (e : T ≡ F). omega arith)
        ∙ other_same a room_a (to_head 0 U U) T v (λ (e : T ≡ U). omega arith)
        ∙ command_at_lem (to_tail 0 T T) ws m n T v inside room

    pub is_U : has U (get_or (round is_commands ws m) v 0) ≡ (has U (get_or m v 0) || comes (to_head 0 U U))
    unfolding round
    is_U =
        other_same b room_b (to_tail 0 F F) U v (λ (e : U ≡ F). omega arith)
        ∙ command_at_lem (to_head 0 U U) ws a n U v inside room_a
        ∙ ap (λ (q : Bool). q || any (hits (to_head 0 U U) a U v) ws) (other_same m room (to_tail 0 T T) U v (λ (e : U ≡ T). omega arith))
        ∙ ap (λ (q : Bool). has U (get_or m v 0) || q) (same_hits m room (to_head 0 U U) (to_tail 0 T T) v (λ (e : U ≡ T). omega arith))

    pub is_F : has F (get_or (round is_commands ws m) v 0) ≡ (has F (get_or m v 0) || comes (to_tail 0 F F))
    unfolding round
    is_F =
        command_at_lem (to_tail 0 F F) ws b n F v inside room_b
        ∙ ap (λ (q : Bool). q || any (hits (to_tail 0 F F) b F v) ws)
        (other_same a room_a (to_head 0 U U) F v (λ (e : F ≡ U). omega arith) ∙ other_same m room (to_tail 0 T T) F v (λ (e : F ≡ T). omega arith))
        ∙ ap (λ (q : Bool). has F (get_or m v 0) || q)
        (same_hits a room_a (to_tail 0 F F) (to_head 0 U U) v (λ (e : F ≡ U). omega arith) ∙ same_hits m room (to_tail 0 F F) (to_tail 0 T T) v (λ (e : F ≡ T). omega arith))

    abbrev d : List ℕ
    d = command (to_head 1 U F) ws m

    room_d : n ≤ length d
    room_d = command_room m room (to_head 1 U F)

    pub isnt_other : (j : ℕ) → (j ≡ F → ⊥) → has j (get_or (round isnt_commands ws m) v 0) ≡ has j (get_or m v 0)
    unfolding round
    isnt_other j h = other_same d room_d (to_tail 1 U F) j v h ∙ other_same m room (to_head 1 U F) j v h

    pub isnt_F : has F (get_or (round isnt_commands ws m) v 0) ≡ (has F (get_or m v 0) || (comes (to_head 1 U F) || comes (to_tail 1 U F)))
    unfolding round
    isnt_F =
        command_at_lem (to_tail 1 U F) ws d n F v inside room_d
        ∙ ap (λ (q : Bool). q || any (hits (to_tail 1 U F) d F v) ws) (command_at_lem (to_head 1 U F) ws m n F v inside room)
        ∙ ap (λ (q : Bool). (has F (get_or m v 0) || comes (to_head 1 U F)) || q) (same_hits m room (to_tail 1 U F) (to_head 1 U F) v (λ (e : U ≡ F). omega arith))
        ∙ or_assoc (has F (get_or m v 0)) (comes (to_head 1 U F)) (comes (to_tail 1 U F))
