-- A pass over the links of one sign, up to three commands at once. Each command has a lane of the nodes' bytes: bit i of a byte's lower half speaks of its node as the
-- head of links, bit i of its upper half of it as the tail. Where both stand, at a link's two ends, the command of lane i has a new mark to put along the link.
use Rattle.std.specs.Prelude.{ℕ, ◌*◌, ◌/◌, ◌%◌, ◌-◌, cond, not, ◌&&◌, List, [], ◌∷◌, eqb, get_or, set}
use Rattle.std.specs.Int.Bits.{bit_and}
use Rattle.theory.specs.Words.{tail_of, head_of, parity}
use Rattle.theory.specs.Origins.{plain_of, chooses}

-- The lanes that have a mark to put along a link, lane i worth 2 ^ i.
abbrev pub open_lanes : List ℕ → ℕ → ℕ
open_lanes m w = bit_and (bit_and (get_or m (tail_of w) 0 / 16) (get_or m (head_of w) 0)) 7

-- The bits x of node v struck out.
unfoldable pub strike : ℕ → ℕ → List ℕ → List ℕ
strike x v m = set m v (bit_and (get_or m v 0) (255 - x))

-- The marks of the lanes f put along a link, those of lanes 0 and 1 at its tail and that of lane 2 at its head: the bit that asks for a mark is struck out.
abbrev pub put_lanes : ℕ → ℕ → List ℕ → List ℕ
put_lanes f w m = strike (f / 4 * 4) (head_of w) (strike (f % 4 * 16) (tail_of w) m)

-- What one link does in a pass over the links of a sign.
unfoldable pub lane_link : ℕ → ℕ → List ℕ → List ℕ
lane_link sign w m = cond (eqb (parity w) sign && not (eqb (open_lanes m w) 0)) (put_lanes (open_lanes m w) w m) m

-- The pass: its links in turn.
unfoldable pub lane_pass : ℕ → List ℕ → List ℕ → List ℕ
lane_pass sign [] m = m
lane_pass sign (w ∷ ws) m = lane_pass sign ws (lane_link sign w m)

-- In it a chosen word does what the plain word does, and any other does nothing.
abbrev pub lane_from : ℕ → ℕ → ℕ → List ℕ → List ℕ
lane_from set sign w m = cond (chooses set w) (lane_link sign (plain_of w) m) m
