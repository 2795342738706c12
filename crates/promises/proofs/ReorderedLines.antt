-- Links stand in any order and a repeated word counts once: over two nets of which the same words are chosen the explanation is the same, but for the indices of links.
use Prim.Native.Nat.{ℕ, ◌*◌}
use mathlib.Core.Path.{◌≡◌, refl, sym, ap, subst, ◌∙◌}
use mathlib.Core.Bool.{Bool, true, false, cond}
use mathlib.Core.List.{List, ◌++◌, map}
use lib.Dec.{ltb}
use lib.ListN.{length, take, drop}
use Rattle.std.specs.Prelude.{Err, Ok}
use Rattle.theory_laws.specs.Over.{over}
use Rattle.theory.specs.Words.{isnt}
use Rattle.theory.specs.Nets.{AllIn}
use Rattle.theory.specs.Origins.{chosen}
use Rattle.reason.specs.Table.{ReasonOutcome, reasoned, Reasoned}
use Rattle.reason.specs.declared.ReasonError.TheVariants as reasonedAs
use Rattle.derivation_lines.specs.Lines.{Line}
use Rattle.derivation_lines.specs.Flat.{flat, derive_list}
use Rattle.derivation_lines.proofs.Flatness.{flat_length}
use Rattle.explain.specs.Table.{ExplainOutcome, explain_outcome, explained}
use Rattle.explain.specs.Found.{write_lines, explained_by}
use Rattle.explain.proofs.Found.{explained_by_lem}
use Rattle.explain.specs.declared.ExplainError.TheVariants as explainedAs
use Rattle.promises.specs.Engines.{Read}
use Rattle.promises.specs.Origins.{unindexed, SameButIndices}
use Rattle.promises.proofs.Tests.{chosen_of}
use Rattle.promises.proofs.Reordered.{listed_same, reason_order}
use Rattle.promises.proofs.LinesAlike.{plain_line, Alike, alike_length, flat_plain, reason_alike}

-- Written into the list, four places each, or not.
module _ (size : ℕ) (d m l : List ℕ) where
  abbrev put : ℕ → List ℕ → ExplainOutcome
  put n out = cond (ltb (length l) (4 * n)) (explain_outcome (Err (explainedAs.ShortLines (4 * n))) d m l) (explain_outcome (Ok (4 * n, size)) d m out)

  put_same : (n : ℕ) (out other : List ℕ) → unindexed out ≡ unindexed other → SameButIndices (put n out) (put n other)
  put_same n out other e = at (ltb (length l) (4 * n))
    where
      at : (q : Bool) → SameButIndices (cond q (explain_outcome (Err (explainedAs.ShortLines (4 * n))) d m l) (explain_outcome (Ok (4 * n, size)) d m out))
          (cond q (explain_outcome (Err (explainedAs.ShortLines (4 * n))) d m l) (explain_outcome (Ok (4 * n, size)) d m other))
      at true = record { answer = refl; scratch = refl; list = refl; lines = refl }
      at false = record { answer = refl; scratch = refl; list = refl; lines = e }

  written_alike : (ls ms : List Line) → Alike ls ms → SameButIndices (write_lines ls size d m l) (write_lines ms size d m l)
  written_alike ls ms e =
      let many : length ls ≡ length ms = alike_length ls ms e in
      let long : length (flat ls) ≡ length (flat ms) = flat_length ls ∙ ap (λ (n : ℕ). 4 * n) many ∙ sym (flat_length ms) in
      let behind : unindexed (over (flat ls) l) ≡ unindexed (over (flat ms) l) =
      flat_plain ls (drop (length (flat ls)) l)
      ∙ ap (λ (ns : List Line). flat ns ++ unindexed (drop (length (flat ls)) l)) e
      ∙ ap (λ (n : ℕ). flat (map plain_line ms) ++ unindexed (drop n l)) long
      ∙ sym (flat_plain ms (drop (length (flat ms)) l)) in
      subst (λ (n : ℕ). SameButIndices (put (length ls) (over (flat ls) l)) (put n (over (flat ms) l))) many (put_same (length ls) (over (flat ls) l) (over (flat ms) l) behind)

-- Two nets, each read with its set, of which the same words are chosen.
module _ (o k : ℕ) (ws : List ℕ) (set : ℕ) (vs : List ℕ) (set' : ℕ) (n : Read o k ws set) (p : Read o k vs set') (to : AllIn (chosen set ws) (chosen set' vs)) (from : AllIn (chosen set' vs) (chosen set ws)) where
  -- By what the reason answered.
  by_answer : (a : Reasoned) (d m l : List ℕ) → SameButIndices (explained_by o set ws a d m l) (explained_by o set' vs a d m l)
  unfolding explained_by
  by_answer (Ok size) d m l =
      written_alike size d m l (derive_list o set ws (take size m)) (derive_list o set' vs (take size m))
      (reason_alike set ws set' vs (λ u v. listed_same o k (chosen set ws) (chosen set' vs) (chosen_of o k ws set n) (chosen_of o k vs set' p) to from u v isnt) o (take size m))
  by_answer (Err reasonedAs.Unsupported) d m l = record { answer = refl; scratch = refl; list = refl; lines = refl }
  by_answer (Err (reasonedAs.Short needed)) d m l = record { answer = refl; scratch = refl; list = refl; lines = refl }
  by_answer (Err (reasonedAs.Refused r)) d m l = record { answer = refl; scratch = refl; list = refl; lines = refl }

  -- The explanation.
  pub explanation_order : (x y sign : ℕ) (d m l : List ℕ) → SameButIndices (explained o k ws set x y sign d m l) (explained o k vs set' x y sign d m l)
  explanation_order x y sign d m l =
      let r = reasoned o k ws set x y sign d m in
      let left = explained_by_lem o k ws set x y sign d m l in
      let right = ap (λ (q : ReasonOutcome). explained_by o set' vs q.answer q.scratch q.list l) (reason_order o k ws set vs set' n p to from x y sign d m) ∙ explained_by_lem o k vs set' x y sign d m l in
      subst (λ (q : ExplainOutcome). SameButIndices q (explained o k vs set' x y sign d m l)) left
      (subst (SameButIndices (explained_by o set ws r.answer r.scratch r.list l)) right (by_answer r.answer r.scratch r.list l))
