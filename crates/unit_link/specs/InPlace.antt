-- A link command whose links are tested against the marks as they change.
use Rattle.std.specs.Prelude.{ℕ, List, [], ◌∷◌}
use Rattle.theory.specs.Marks.{link}
use Rattle.theory.specs.declared.Command.{Command}

-- What one link does to the marks, tested against themselves.
abbrev pub link_here : Command → ℕ → List ℕ → List ℕ
link_here c w m = link c m w m

-- All links in turn.
unfoldable pub in_place : Command → List ℕ → List ℕ → List ℕ
in_place c [] m = m
in_place c (w ∷ ws) m = in_place c ws (link_here c w m)
