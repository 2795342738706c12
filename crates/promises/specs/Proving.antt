-- What a proof and a proof check promise ([4]): what is written proves the statement, and the check accepts exactly the lists that do, or says which
-- step is at fault.
use Rattle.proof_check.specs.declared.JudgeError.TheVariants.{Faulty}
use Rattle.proof.specs.declared.ProofError.TheVariants as proved
use Rattle.std.specs.Prelude.{ℕ, ◌+◌, ◌-◌, ◌*◌, ◌≤◌, ◌<◌, ◌≡◌, List, ◌↔◌, length, take, drop, Err, Ok}
use Rattle.theory.specs.Words.{sign_at}
use Rattle.theory.specs.Nets.{Links}
use Rattle.theory.specs.Support.{Supported}
use Rattle.theory.specs.Origins.{chosen}
use Rattle.theory.specs.Sequents.{Proof}
use Rattle.theory.specs.ProofFiles.{proof_depth, proof_file, depth_limit, Proves, FaultAt}
use Rattle.net.specs.Good.{GoodStatement}
use Rattle.proof_form.specs.Ours.{our_file}
use Rattle.proof_check.specs.Table.{no_step}
use Rattle.promises.specs.Engines.{Engine, Read}
use Rattle.promises.specs.Reasoning.{ReasonOf}

pub record Proving (e : Engine) : Type 0 where
  -- Where the writer is done, the numbers in front of the list, as many as it gave, prove the statement from the chosen words; the rest of the list is
  -- as it was.
  pub written : (o k : ℕ) (ws : List ℕ) (set x y sign : ℕ) (d l : List ℕ) (size : ℕ) → (e.proof o k ws set x y sign d l).answer ≡ Ok size
      → Proves o k (chosen set ws) x y (sign_at sign) (take size (e.proof o k ws set x y sign d l).list)
      × (drop size (e.proof o k ws set x y sign d l).list ≡ drop size l) × (length (e.proof o k ws set x y sign d l).list ≡ length l) × (size ≤ length l)
  -- Those numbers are accepted by the check.
  pub accepted : (o k : ℕ) (ws : List ℕ) (set x y sign : ℕ) (d l : List ℕ) (size : ℕ) → (e.proof o k ws set x y sign d l).answer ≡ Ok size
      → e.proof_check o k ws set x y sign (take size (e.proof o k ws set x y sign d l).list) ≡ Ok tt
  -- They are the list of our proof: the one that Lemmas 9 to 12 build, link by link, from the two parts of the shortest reason.
  pub ours : (o k : ℕ) (ws : List ℕ) (set x y sign : ℕ) (d l : List ℕ) (size : ℕ) → (e.proof o k ws set x y sign d l).answer ≡ Ok size
      → (places : ℕ) × (r : ReasonOf o k (chosen set ws) x y sign places)
      × (take size (e.proof o k ws set x y sign d l).list ≡ our_file o (o + k) (chosen set ws) x y (sign_at sign) r.xs r.ys)
  -- Number 11: our proof has more than 255 sequents one above another.
  pub deep : (o k : ℕ) (ws : List ℕ) (set x y sign : ℕ) (d l : List ℕ) → (e.proof o k ws set x y sign d l).answer ≡ Err proved.TooDeep
      → (places : ℕ) × (r : ReasonOf o k (chosen set ws) x y sign places) × (p : Proof o k (chosen set ws) x y (sign_at sign))
      × (proof_file p ≡ our_file o (o + k) (chosen set ws) x y (sign_at sign) r.xs r.ys) × (depth_limit < proof_depth p)
  -- The scratch is left as the reason leaves it, whatever list the reason gets.
  pub scratch : (o k : ℕ) (ws : List ℕ) (set x y sign : ℕ) (d l m : List ℕ) → (e.proof o k ws set x y sign d l).scratch ≡ (e.reason o k ws set x y sign d m).scratch
  -- Over a net and a set, with room in the scratch, the writer is done with every supported statement whose proof is not too deep and finds room.
  pub whenever : (o k : ℕ) (ws : List ℕ) (set x y sign : ℕ) (d l : List ℕ) → Read o k ws set → GoodStatement o (o + k) x y sign → 2 * (o + k) ≤ length d
      → Supported o k (Links (chosen set ws)) x y (sign_at sign) → ((e.proof o k ws set x y sign d l).answer ≡ Err proved.TooDeep → ⊥)
      → ((needed : ℕ) → (e.proof o k ws set x y sign d l).answer ≡ Err (proved.Short needed) → ⊥) → (size : ℕ) × ((e.proof o k ws set x y sign d l).answer ≡ Ok size)
  -- The same by the shortest reason's places: at most 258 of an object, at most 256 of a kind. It also tells how many numbers are written.
  pub object : (o k : ℕ) (ws : List ℕ) (set x y sign : ℕ) (d l : List ℕ) (places : ℕ) → Read o k ws set → GoodStatement o (o + k) x y sign → 2 * (o + k) ≤ length d
      → ReasonOf o k (chosen set ws) x y sign places → x < o → places ≤ 258 → 8 * (places - 4) + 6 ≤ length l
      → (e.proof o k ws set x y sign d l).answer ≡ Ok (8 * (places - 4) + 6)
  pub kind : (o k : ℕ) (ws : List ℕ) (set x y sign : ℕ) (d l : List ℕ) (places : ℕ) → Read o k ws set → GoodStatement o (o + k) x y sign → 2 * (o + k) ≤ length d
      → ReasonOf o k (chosen set ws) x y sign places → o ≤ x → places ≤ 256 → 8 * (places - 3) + 9 ≤ length l
      → (e.proof o k ws set x y sign d l).answer ≡ Ok (8 * (places - 3) + 9)
  -- Whatever list is accepted, the chosen words support its statement.
  pub sound : (o k : ℕ) (ws : List ℕ) (set x y sign : ℕ) (l : List ℕ) → e.proof_check o k ws set x y sign l ≡ Ok tt → Supported o k (Links (chosen set ws)) x y (sign_at sign)
  -- Over a net and a set, a list is accepted exactly if it proves the statement.
  pub exactly : (o k : ℕ) (ws : List ℕ) (set x y sign : ℕ) (l : List ℕ) → Read o k ws set → GoodStatement o (o + k) x y sign
      → (e.proof_check o k ws set x y sign l ≡ Ok tt) ↔ Proves o k (chosen set ws) x y (sign_at sign) l
  -- A step is given exactly if it is the first at fault in the order of the list,
  pub fault : (o k : ℕ) (ws : List ℕ) (set x y sign : ℕ) (l : List ℕ) → Read o k ws set → GoodStatement o (o + k) x y sign → (i : ℕ) → i < no_step
      → (e.proof_check o k ws set x y sign l ≡ Err (Faulty i)) ↔ FaultAt o k (chosen set ws) x y (sign_at sign) l i
  -- and the number for no one step exactly if the list is no proof and no step of it that is reached is at fault.
  pub nowhere : (o k : ℕ) (ws : List ℕ) (set x y sign : ℕ) (l : List ℕ) → Read o k ws set → GoodStatement o (o + k) x y sign
      → (e.proof_check o k ws set x y sign l ≡ Err (Faulty no_step))
      ↔ ((Proves o k (chosen set ws) x y (sign_at sign) l → ⊥) × ((i : ℕ) → FaultAt o k (chosen set ws) x y (sign_at sign) l i → ⊥))
