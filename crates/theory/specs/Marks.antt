-- Marks, one byte a node; marker commands over the links; rounds; where a scan starts.
use Rattle.std.specs.Prelude.{ℕ, ◌/◌, ◌%◌, ◌^◌, ◌≡◌, Bool, true, false, cond, ◌&&◌, List, [], ◌∷◌, eqb, get_or, set, replicate}
use Rattle.std.specs.Int.Bits.{bit_or}
use Rattle.theory.specs.Words.{Sign, is, isnt, tail_of, head_of, parity}
use Rattle.theory.specs.declared.Command.{Command}

-- The markers T, F and U: marker j of a byte, 0 to 7, is worth 2 ^ j, so these are 1, 2 and 4.
abbrev pub T : ℕ
T = 0

abbrev pub F : ℕ
F = 1

abbrev pub U : ℕ
U = 2

-- A byte has marker j.
abbrev pub has : ℕ → ℕ → Bool
has j b = eqb (b / 2 ^ j % 2) 1

-- What the byte of a kind y says after the scan from x: U is yes, x → y; F is no, x ↛ y.
abbrev pub says_yes : ℕ → Bool
says_yes b = has U b

abbrev pub says_no : ℕ → Bool
says_no b = has F b

-- The marks have marker j at node v.
abbrev pub At : List ℕ → ℕ → ℕ → Type 0
At m j v = has j (get_or m v 0) ≡ true

-- The marker for a sign at a kind y after the scan from x: U for x → y, F for x ↛ y.
abbrev pub marker_of : Sign → ℕ
marker_of is = U
marker_of isnt = F

-- Against the arrows, at a node z after the scan from a kind y: T for z → y, F for z ↛ y.
abbrev pub marker_to : Sign → ℕ
marker_to is = T
marker_to isnt = F

-- A byte with marker j besides.
abbrev pub with : ℕ → ℕ → ℕ
with j b = bit_or b (2 ^ j)

-- The marks with marker j at node v besides.
unfoldable pub mark : ℕ → ℕ → List ℕ → List ℕ
mark j v m = set m v (with j (get_or m v 0))

-- The end of a link that a command tests, and the end where it puts its marker.
abbrev pub near : Bool → ℕ → ℕ
near atHead w = cond atHead (head_of w) (tail_of w)

abbrev pub far : Bool → ℕ → ℕ
far atHead w = cond atHead (tail_of w) (head_of w)

-- A link of the command's sign with its marker at the tested end.
abbrev pub fires : Command → List ℕ → ℕ → Bool
fires c old w = eqb (parity w) c.sign && has c.test (get_or old (near c.at_head w) 0)

-- What one link does to the marks m, tested against the marks old.
unfoldable pub link : Command → List ℕ → ℕ → List ℕ → List ℕ
link c old w m = cond (fires c old w) (mark c.put (far c.at_head w) m) m

-- What all links do to the marks m, each tested against the marks old.
unfoldable pub links : Command → List ℕ → List ℕ → List ℕ → List ℕ
links c old [] m = m
links c old (w ∷ ws) m = links c old ws (link c old w m)

-- A command tests all links against the marks at its beginning.
unfoldable pub command : Command → List ℕ → List ℕ → List ℕ
command c ws m = links c m ws m

-- A round runs its commands in order.
unfoldable pub round : List Command → List ℕ → List ℕ → List ℕ
round [] ws m = m
round (c ∷ cs) ws m = round cs ws (command c ws m)

-- Links of the sign with marker p at the tail get marker q at the head; and the other way round.
abbrev pub to_head : ℕ → ℕ → ℕ → Command
to_head s p q = record { sign = s; at_head = false; test = p; put = q }

abbrev pub to_tail : ℕ → ℕ → ℕ → Command
to_tail s p q = record { sign = s; at_head = true; test = p; put = q }

-- The five commands of a round.
abbrev pub commands : List Command
commands = to_tail 0 T T ∷ to_head 0 U U ∷ to_tail 0 F F ∷ to_head 1 U F ∷ to_tail 1 U F ∷ []

-- No marks on n nodes.
abbrev pub blank : ℕ → List ℕ
blank n = replicate n 0

-- A scan starts with T and U on x, be it an object or a kind.
abbrev pub scan_start : ℕ → ℕ → List ℕ
scan_start n x = mark U x (mark T x (blank n))
