-- What is promised of the completion by rows ([6]): what the rows hold, that it answers and lists what the completion by marks does, and that a
-- question of the rows is answered like one of the net.
use Rattle.std.specs.Prelude.{ℕ, ◌+◌, ◌≤◌, ◌≡◌, List, length, drop, Err, Ok}
use Rattle.theory.specs.Words.{is, isnt}
use Rattle.theory.specs.Origins.{chosen}
use Rattle.theory.specs.Rows.{rows_size, Exact}
use Rattle.net.specs.declared.Refusal.{Refusal}
use Rattle.question.specs.declared.Answer.{Answer}
use Rattle.promises.specs.Engines.{Engine, Read}

pub record ByRows (e : Engine) : Type 0 where
  -- Over a net and a set, with rows that have room, the rows hold just what the chosen words support, whatever they held, and also where the
  -- list is too short.
  pub filled : (o k : ℕ) (ws : List ℕ) (set : ℕ) (yeses noes l : List ℕ) → Read o k ws set → rows_size (o + k) ≤ length yeses → rows_size (o + k) ≤ length noes
      → Exact o k (chosen set ws) is (e.completion_by_rows o k ws set yeses noes l).yeses × Exact o k (chosen set ws) isnt (e.completion_by_rows o k ws set yeses noes l).noes
  -- Words behind the rows stay.
  pub behind : (o k : ℕ) (ws : List ℕ) (set : ℕ) (yeses noes l : List ℕ) → Read o k ws set → rows_size (o + k) ≤ length yeses → rows_size (o + k) ≤ length noes
      → (drop (rows_size (o + k)) (e.completion_by_rows o k ws set yeses noes l).yeses ≡ drop (rows_size (o + k)) yeses)
      × (drop (rows_size (o + k)) (e.completion_by_rows o k ws set yeses noes l).noes ≡ drop (rows_size (o + k)) noes)
      × (length (e.completion_by_rows o k ws set yeses noes l).yeses ≡ length yeses) × (length (e.completion_by_rows o k ws set yeses noes l).noes ≡ length noes)
  -- Answer and list are those of the completion by marks, whatever marks that is lent that are long enough.
  pub same : (o k : ℕ) (ws : List ℕ) (set : ℕ) (yeses noes l : List ℕ) → Read o k ws set → rows_size (o + k) ≤ length yeses → rows_size (o + k) ≤ length noes
      → (m : List ℕ) → o + k ≤ length m
      → ((e.completion_by_rows o k ws set yeses noes l).answer ≡ (e.completion o k ws set m l).answer) × ((e.completion_by_rows o k ws set yeses noes l).list ≡ (e.completion o k ws set m l).list)
  -- From the rows left every question has the answer that the single question gives over that net and set, and is refused where that one is.
  pub answers : (o k : ℕ) (ws : List ℕ) (set : ℕ) (yeses noes l : List ℕ) → Read o k ws set → rows_size (o + k) ≤ length yeses → rows_size (o + k) ≤ length noes
      → (x y : ℕ) (m : List ℕ) → o + k ≤ length m → (a : Answer) (count : ℕ) → (e.question o k ws set x y m).answer ≡ Ok (a, count)
      → e.answer_in_rows o k (e.completion_by_rows o k ws set yeses noes l).yeses (e.completion_by_rows o k ws set yeses noes l).noes x y ≡ Ok a
  pub refused : (o k : ℕ) (ws : List ℕ) (set : ℕ) (yeses noes l : List ℕ) → Read o k ws set → rows_size (o + k) ≤ length yeses → rows_size (o + k) ≤ length noes
      → (x y : ℕ) (m : List ℕ) → o + k ≤ length m → (r : Refusal) → (e.question o k ws set x y m).answer ≡ Err r
      → e.answer_in_rows o k (e.completion_by_rows o k ws set yeses noes l).yeses (e.completion_by_rows o k ws set yeses noes l).noes x y ≡ Err r
