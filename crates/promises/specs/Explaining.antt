-- What an explanation and a derivation check promise: what is written derives the statement line by line, and the check accepts exactly the lists that do.
use Rattle.explain.specs.declared.ExplainError.TheVariants as explained
use Rattle.std.specs.Prelude.{ℕ, ◌+◌, ◌*◌, ◌≤◌, ◌<◌, ◌≡◌, List, ◌↔◌, length, get_or, take, drop, Ok, false, true, Err}
use Rattle.theory.specs.Words.{sign_at}
use Rattle.theory.specs.Nets.{Links}
use Rattle.theory.specs.Support.{Supported}
use Rattle.theory.specs.Origins.{chosen}
use Rattle.net.specs.Good.{GoodStatement}
use Rattle.derivation_lines.specs.Lines.{blank}
use Rattle.derivation_lines.specs.Flat.{lines_of}
use Rattle.derivation_check.specs.Table.{DerivationOf}
use Rattle.promises.specs.Engines.{Engine, Read}
use Rattle.promises.specs.Reasoning.{ReasonOf}

-- The links of a reason: those of its first part, the crossing, and those of its second.
abbrev pub links_of : {o k : ℕ} {ws : List ℕ} {x y sign size : ℕ} → ReasonOf o k ws x y sign size → ℕ
links_of r = length r.xs + length r.ys

pub record Explaining (e : Engine) : Type 0 where
  -- Where it is done, the numbers in front of the list of lines, as many as it gave first, derive the statement from the chosen words, four numbers a
  -- line; the rest of the list is as it was.
  pub written : (o k : ℕ) (ws : List ℕ) (set x y sign : ℕ) (d m l : List ℕ) (places size : ℕ) → (e.explanation o k ws set x y sign d m l).answer ≡ Ok (places, size)
      → DerivationOf o k set ws x y (sign_at sign) (take places (e.explanation o k ws set x y sign d m l).lines)
      × (drop places (e.explanation o k ws set x y sign d m l).lines ≡ drop places l)
      × (length (e.explanation o k ws set x y sign d m l).lines ≡ length l) × (places ≤ length l)
  -- Those numbers are accepted by the check.
  pub accepted : (o k : ℕ) (ws : List ℕ) (set x y sign : ℕ) (d m l : List ℕ) (places size : ℕ) → (e.explanation o k ws set x y sign d m l).answer ≡ Ok (places, size)
      → e.derivation_check o k ws set x y sign (take places (e.explanation o k ws set x y sign d m l).lines) ≡ Ok true
  -- The second number it gave is the size of the shortest reason; there are at most two lines for each link of it, and one more.
  pub few : (o k : ℕ) (ws : List ℕ) (set x y sign : ℕ) (d m l : List ℕ) (places size : ℕ) → (e.explanation o k ws set x y sign d m l).answer ≡ Ok (places, size)
      → (r : ReasonOf o k (chosen set ws) x y sign size) × (places ≤ 4 * (2 * links_of r + 1))
  -- The scratch and the list of the reason are left as the reason leaves them, whatever is answered.
  pub reason : (o k : ℕ) (ws : List ℕ) (set x y sign : ℕ) (d m l : List ℕ)
      → ((e.explanation o k ws set x y sign d m l).scratch ≡ (e.reason o k ws set x y sign d m).scratch)
      × ((e.explanation o k ws set x y sign d m l).list ≡ (e.reason o k ws set x y sign d m).list)
  -- Number 7: the statement is not supported.
  pub unsupported : (o k : ℕ) (ws : List ℕ) (set x y sign : ℕ) (d m l : List ℕ) → (e.explanation o k ws set x y sign d m l).answer ≡ Err explained.Unsupported
      → Supported o k (Links (chosen set ws)) x y (sign_at sign) → ⊥
  -- Number 8 says which list is too short: that of the reason,
  pub short_reason : (o k : ℕ) (ws : List ℕ) (set x y sign : ℕ) (d m l : List ℕ) (needed : ℕ) → (e.explanation o k ws set x y sign d m l).answer ≡ Err (explained.ShortReason needed)
      → ReasonOf o k (chosen set ws) x y sign needed × (length m < needed)
  -- or that of lines, which keeps what it held; with the places that it asks for the call is done.
  pub short_lines : (o k : ℕ) (ws : List ℕ) (set x y sign : ℕ) (d m l : List ℕ) (needed : ℕ) → (e.explanation o k ws set x y sign d m l).answer ≡ Err (explained.ShortLines needed)
      → (length l < needed) × ((e.explanation o k ws set x y sign d m l).lines ≡ l)
      × ((l' : List ℕ) → needed ≤ length l' → (size : ℕ) × ((e.explanation o k ws set x y sign d m l').answer ≡ Ok (needed, size)))
  -- Over a net and a set, with room in the scratch, it is done with every supported statement whose reason finds room, and four places for each of
  -- the lines that there can be.
  pub whenever : (o k : ℕ) (ws : List ℕ) (set x y sign : ℕ) (d m l : List ℕ) (size : ℕ) → Read o k ws set → GoodStatement o (o + k) x y sign → 2 * (o + k) ≤ length d
      → (r : ReasonOf o k (chosen set ws) x y sign size) → size ≤ length m → 4 * (2 * links_of r + 1) ≤ length l
      → (places : ℕ) × ((e.explanation o k ws set x y sign d m l).answer ≡ Ok (places, size))
  -- Whatever list the check says yes to, whoever wrote it, the chosen words support the statement of every one of its lines,
  pub every : (o k : ℕ) (ws : List ℕ) (set x y sign : ℕ) (l : List ℕ) → e.derivation_check o k ws set x y sign l ≡ Ok true → (n : ℕ) → n < length (lines_of l)
      → Supported o k (Links (chosen set ws)) (get_or (lines_of l) n blank).tail (get_or (lines_of l) n blank).head (get_or (lines_of l) n blank).sign
  -- and so the statement asked.
  pub sound : (o k : ℕ) (ws : List ℕ) (set x y sign : ℕ) (l : List ℕ) → e.derivation_check o k ws set x y sign l ≡ Ok true → Supported o k (Links (chosen set ws)) x y (sign_at sign)
  -- Over a net and a set it says yes exactly to a derivation of the statement, and no exactly to any other list.
  pub holds : (o k : ℕ) (ws : List ℕ) (set x y sign : ℕ) (l : List ℕ) → Read o k ws set → GoodStatement o (o + k) x y sign
      → (e.derivation_check o k ws set x y sign l ≡ Ok true) ↔ DerivationOf o k set ws x y (sign_at sign) l
  pub fails : (o k : ℕ) (ws : List ℕ) (set x y sign : ℕ) (l : List ℕ) → Read o k ws set → GoodStatement o (o + k) x y sign
      → (e.derivation_check o k ws set x y sign l ≡ Ok false) ↔ (DerivationOf o k set ws x y (sign_at sign) l → ⊥)
  -- A derivation is written in one way: two lists that it says yes to and that are read as the same lines are the same list.
  pub one_way : (o k : ℕ) (ws : List ℕ) (set x y sign : ℕ) (l m : List ℕ) → e.derivation_check o k ws set x y sign l ≡ Ok true → e.derivation_check o k ws set x y sign m ≡ Ok true
      → lines_of l ≡ lines_of m → l ≡ m
