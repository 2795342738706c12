-- After a scan from an object only the bytes of kinds are answers: read at every node, as the report's Theorem 4 does, they would say what no rule gives.
use Prim.Native.Nat.{ℕ, ◌+◌, ◌<◌}
use mathlib.Core.Path.{◌≡◌, refl, ap}
use mathlib.Core.List.{List, [], ◌∷◌}
use mathlib.Core.Logic.{◌↔◌}
use native.Mathlib.Omega.{arith}
use Rattle.std.specs.Prelude.{Ok}
use Rattle.theory.specs.Words.{Sign, is}
use Rattle.theory.specs.Nets.{Links, LegalWords}
use Rattle.theory.specs.Support.{Supported}
use Rattle.theory.specs.Marks.{T, mark, link, links, command, commands, round, blank, scan_start, marker_of, At}
use Rattle.theory.specs.Scans.{after, same, rounds, scan}
use Rattle.theory.proofs.machine.Budgets.{last_round}
use Rattle.theory.proofs.machine.Meaning.{scan_T_object}
use Rattle.theory.proofs.Legal.{legal_links}
use Rattle.theory.proofs.support.Joining.{ends}
use Rattle.theory.specs.Origins.{chosen}
use Rattle.net.specs.Passing.{passing}
use Rattle.net.specs.Table.{check_net}
use Rattle.scan.specs.Table.{ScanOutcome, scanned}
use Rattle.promises.proofs.Answered.{scan_ended}

-- One object, one kind, no words: the scan from the object leaves T and U on it.
on_itself : scanned 1 1 [] 15 0 1 (blank 2) ≡ record { answer = Ok 1; marks = 5 ∷ 0 ∷ [] }
unfolding check_net chosen passing after rounds same round command links link mark
on_itself = refl

no_words : LegalWords 1 1 []
no_words w m = elim m [ ]

-- But that the object is itself is no statement.
not_itself : Supported 1 1 (Links []) 0 0 is → ⊥
not_itself p = let e = ends 1 1 (Links []) (legal_links 1 1 [] no_words) 0 0 is p in omega (arith, e.1.low)

-- So its bytes are not exact at every node.
pub objects_say_nothing : ((o k : ℕ) (ws : List ℕ) (set x budget : ℕ) (m : List ℕ) (count : ℕ) → (scanned o k ws set x budget m).answer ≡ Ok count
    → (y : ℕ) → y < o + k → (s : Sign) → At (scanned o k ws set x budget m).marks (marker_of s) y ↔ Supported o k (Links (chosen set ws)) x y s) → ⊥
unfolding chosen
objects_say_nothing f =
    not_itself ((f 1 1 [] 15 0 1 (blank 2) 1 (ap (λ (r : ScanOutcome). r.answer) on_itself) 0 (omega arith) is).0 (rw on_itself refl))

-- From an object T stands on it alone: no node leads to an object.
pub T_on_the_object : (o k : ℕ) (ws : List ℕ) (set x budget : ℕ) (m : List ℕ) (count : ℕ) → (scanned o k ws set x budget m).answer ≡ Ok count → x < o
    → (z : ℕ) → z < o + k → At (scanned o k ws set x budget m).marks T z ↔ (z ≡ x)
T_on_the_object o k ws set x budget m count e h z l =
    let r = scan_ended o k ws set x budget m count e in
    let t = last_round commands (chosen set ws) (scan_start (o + k) x) budget r.ended in
    let g : At (scan (o + k) (chosen set ws) x budget).marks T z ↔ (z ≡ x) = rw t.marks (scan_T_object o k (chosen set ws) r.net.legal x r.node t.at t.quiet h z) in
    ((λ a. g.0 (rw (r.left z l) at a)), λ q. rw (r.left z l) (g.1 q))
