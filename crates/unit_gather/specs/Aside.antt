-- Nodes kept aside, one bit a node, and a link command by means of them. Eight markers leave no bit of a byte free for marks that wait.
use Rattle.std.specs.Prelude.{ℕ, zero, suc, ◌/◌, ◌%◌, Bool, cond, ◌&&◌, List, [], ◌∷◌, get_or}
use Rattle.theory.specs.Marks.{has, mark, far, fires}
use Rattle.theory.specs.Origins.{plain_of, chooses}
use Rattle.theory.specs.declared.Command.{Command}

-- A word with an origin fires: the set of origins chooses it, and the plain word fires.
abbrev pub fires_on : ℕ → Command → List ℕ → ℕ → Bool
fires_on set c m w = chooses set w && fires c m (plain_of w)

-- Node v is kept aside: bit v % 8 of byte v / 8.
abbrev pub holds : List ℕ → ℕ → Bool
holds a v = has (v % 8) (get_or a (v / 8) 0)

-- Node v kept aside besides.
abbrev pub put : ℕ → List ℕ → List ℕ
put v a = mark (v % 8) (v / 8) a

-- The far end of a link, if the link fires.
abbrev pub gather_one : Command → List ℕ → ℕ → List ℕ → List ℕ
gather_one c m w a = cond (fires c m w) (put (far c.at_head w) a) a

-- The far ends of all links that fire.
unfoldable pub gather : Command → List ℕ → List ℕ → List ℕ → List ℕ
gather c m [] a = a
gather c m (w ∷ ws) a = gather c m ws (gather_one c m w a)

-- Marker j put at the nodes that are kept aside, among i nodes from v on.
unfoldable pub spread : ℕ → List ℕ → ℕ → ℕ → List ℕ → List ℕ
spread j a v zero m = m
spread j a v (suc i) m = spread j a (suc v) i (cond (holds a v) (mark j v m) m)
