-- The words of a net are known words.
use Prim.Native.Nat.{ℕ, ◌≤◌, ◌<◌}
use mathlib.Core.List.{List}
use lib.ListN.{length, get_or}
use Rattle.theory.specs.Origins.{origin_of, origin_limit, NetFrom}
use Rattle.theory.proofs.Inside.{at_member}
use Rattle.derivation_lines.specs.Known.{KnownWords}

pub net_known : {o k : ℕ} (ws : List ℕ) → NetFrom o k ws → KnownWords ws
net_known ws net = record { few = net.short; origins = λ w m. (net.legal w m).origin }

pub known_at : (ws : List ℕ) → KnownWords ws → (i : ℕ) → i < length ws → origin_of (get_or ws i 0) ≤ origin_limit
known_at ws known i h = known.origins (get_or ws i 0) (at_member ws i h)
