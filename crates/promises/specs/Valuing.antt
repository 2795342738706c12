-- What a valuation and its test promise ([10]): in the table that is filled holds what is supported and nothing else, and the test says what holds in any table.
use mathlib.Core.List.{List, Memᴰ}
use Rattle.std.specs.Prelude.{ℕ, ◌+◌, ◌*◌, ◌≤◌, ◌<◌, ◌≡◌, true, ◌↔◌, length, drop, Ok, false}
use Rattle.theory.specs.Words.{Sign, sign_at, tail_of, head_of, parity}
use Rattle.theory.specs.Nets.{Kind, Links}
use Rattle.theory.specs.Support.{Supported}
use Rattle.theory.specs.Origins.{chosen}
use Rattle.theory.specs.Valuations.{HoldsIn, Model, Implies, Valued, byte_at, table_valuation}
use Rattle.net.specs.Good.{GoodStatement}
use Rattle.scan_start.specs.Starts.{cleared}
use Rattle.question.specs.Table.{answer_number}
use Rattle.question.specs.declared.Answer.{Answer}
use Rattle.question.specs.declared.Answer.TheVariants.{None}
use Rattle.promises.specs.Engines.{Engine, Read}
use Rattle.promises.specs.Demand2.{says}

pub record Valuing (e : Engine) : Type 1 where
  -- Over a net and a set of origins, and with room for both, the table is filled.
  pub given : (o k : ℕ) (ws : List ℕ) (set : ℕ) (t m : List ℕ) → Read o k ws set → (o + k) * k ≤ length t → o + k ≤ length m → (e.valuation o k ws set t m).answer ≡ Ok tt
  -- One that is filled is a table for the nodes as elements, and past it nothing is changed; the marks of the nodes are zero.
  pub valued : (o k : ℕ) (ws : List ℕ) (set : ℕ) (t m : List ℕ) → (e.valuation o k ws set t m).answer ≡ Ok tt → Valued (o + k) k (e.valuation o k ws set t m).table
  pub past : (o k : ℕ) (ws : List ℕ) (set : ℕ) (t m : List ℕ) → (e.valuation o k ws set t m).answer ≡ Ok tt
      → (drop ((o + k) * k) (e.valuation o k ws set t m).table ≡ drop ((o + k) * k) t) × (length (e.valuation o k ws set t m).table ≡ length t) × ((e.valuation o k ws set t m).marks ≡ cleared (o + k) m)
  -- Its byte of a node and a kind is the number of the question's answer.
  pub byte : (o k : ℕ) (ws : List ℕ) (set : ℕ) (t m : List ℕ) → (e.valuation o k ws set t m).answer ≡ Ok tt
      → (x y : ℕ) (l : List ℕ) (a : Answer) (count : ℕ) → (e.question o k ws set x y l).answer ≡ Ok (a, count)
      → byte_at o k (e.valuation o k ws set t m).table x y ≡ answer_number a
  -- A statement holds in it exactly if the chosen words support it; so all of these hold.
  pub exact : (o k : ℕ) (ws : List ℕ) (set : ℕ) (t m : List ℕ) → (e.valuation o k ws set t m).answer ≡ Ok tt → (x y : ℕ) (s : Sign) → x < o + k → Kind o k y
      → HoldsIn (table_valuation o k (e.valuation o k ws set t m).table) x y s ↔ Supported o k (Links (chosen set ws)) x y s
  pub model : (o k : ℕ) (ws : List ℕ) (set : ℕ) (t m : List ℕ) → (e.valuation o k ws set t m).answer ≡ Ok tt
      → Model (Links (chosen set ws)) (table_valuation o k (e.valuation o k ws set t m).table)
  -- The test of any table says yes to what holds in the valuation that it stands for, and no to what does not.
  pub holds : (o k : ℕ) (t : List ℕ) (x y sign : ℕ) → e.satisfies o k t x y sign ≡ Ok true → HoldsIn (table_valuation o k t) x y (sign_at sign)
  pub fails : (o k : ℕ) (t : List ℕ) (x y sign : ℕ) → e.satisfies o k t x y sign ≡ Ok false → HoldsIn (table_valuation o k t) x y (sign_at sign) → ⊥
  -- Of the table that is filled it says yes exactly to what is supported.
  pub joined : (o k : ℕ) (ws : List ℕ) (set : ℕ) (t m : List ℕ) → (e.valuation o k ws set t m).answer ≡ Ok tt → (x y sign : ℕ) → GoodStatement o (o + k) x y sign
      → (e.satisfies o k (e.valuation o k ws set t m).table x y sign ≡ Ok true) ↔ Supported o k (Links (chosen set ws)) x y (sign_at sign)
  -- So where a question is answered by none, it says no to the yes and to the no.
  pub none : (o k : ℕ) (ws : List ℕ) (set : ℕ) (t m : List ℕ) → (e.valuation o k ws set t m).answer ≡ Ok tt
      → (x y : ℕ) (l : List ℕ) (count : ℕ) → (e.question o k ws set x y l).answer ≡ Ok (None, count)
      → (e.satisfies o k (e.valuation o k ws set t m).table x y 0 ≡ Ok false) × (e.satisfies o k (e.valuation o k ws set t m).table x y 1 ≡ Ok false)
  -- A table from anybody: where the test says yes to every chosen word and no to a statement, that statement is not supported.
  pub refutes : (o k : ℕ) (ws : List ℕ) (set : ℕ) (t : List ℕ) → ((w : ℕ) → Memᴰ w (chosen set ws) → e.satisfies o k t (tail_of w) (head_of w) (parity w) ≡ Ok true)
      → (x y sign : ℕ) → e.satisfies o k t x y sign ≡ Ok false → Supported o k (Links (chosen set ws)) x y (sign_at sign) → ⊥
  -- A question's yes or no is given exactly if the statement holds in every valuation, over any domain, in which all chosen words hold.
  pub implied : (o k : ℕ) (ws : List ℕ) (set x y : ℕ) (m : List ℕ) (a : Answer) (count : ℕ) → (e.question o k ws set x y m).answer ≡ Ok (a, count)
      → (s : Sign) → (says a s ≡ true) ↔ Implies o (Links (chosen set ws)) x y s
