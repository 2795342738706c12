-- The parts of what an explanation leaves: which list was too short, and that scratch and list of the reason are kept.
use Prim.Native.Nat.{ℕ, ◌*◌}
use mathlib.Core.Path.{◌≡◌, refl, ap}
use mathlib.Core.Bool.{Bool, true, false, cond}
use mathlib.Core.List.{List}
use native.Mathlib.Omega.{arith}
use lib.Dec.{ltb}
use lib.ListN.{length, take}
use Rattle.std.specs.Prelude.{Err, Ok}
use Rattle.theory_laws.specs.Over.{over}
use Rattle.reason.specs.Table.{Reasoned}
use Rattle.reason.specs.declared.ReasonError.TheVariants as reasonedAs
use Rattle.derivation_lines.specs.Flat.{flat, derive_list}
use Rattle.explain.specs.Table.{ExplainOutcome, explain_outcome, explained_reply, Explained}
use Rattle.explain.specs.Found.{explained_by}
use Rattle.explain.specs.declared.ExplainError.TheVariants as explainedAs

-- Which list was too short, by the answer.
module _ (a b : ℕ) (past m n l : List ℕ) where
  abbrev pub either : Bool → ExplainOutcome
  either q = cond q (explain_outcome (Err (explainedAs.ShortReason a)) past m l) (explain_outcome (Err (explainedAs.ShortLines b)) past n l)

  pub the_reason : (q : Bool) (needed : ℕ) → (either q).answer ≡ Err (explainedAs.ShortReason needed) → (q ≡ true) × (a ≡ needed)
  the_reason true needed e = (refl, ap (λ (r : Explained). (explained_reply r).first) e)
  the_reason false needed e = let z : ◌≡◌ {A = ℕ} 1 0 = ap (λ (r : Explained). (explained_reply r).second) e in absurd (omega arith)

  pub the_lines : (q : Bool) (needed : ℕ) → (either q).answer ≡ Err (explainedAs.ShortLines needed) → (q ≡ false) × (b ≡ needed) × ((either q).lines ≡ l)
  the_lines true needed e = let z : ◌≡◌ {A = ℕ} 0 1 = ap (λ (r : Explained). (explained_reply r).second) e in absurd (omega arith)
  the_lines false needed e = (refl, ap (λ (r : Explained). (explained_reply r).first) e, refl)

-- Whatever the reason answered, its scratch and its list are kept.
pub kept : (o set : ℕ) (ws : List ℕ) (a : Reasoned) (d m l : List ℕ) → ((explained_by o set ws a d m l).scratch ≡ d) × ((explained_by o set ws a d m l).list ≡ m)
unfolding explained_by
kept o set ws (Ok size) d m l = let ls = derive_list o set ws (take size m) in at (ltb (length l) (4 * length ls)) (4 * length ls) (over (flat ls) l)
  where
    at : (q : Bool) (n : ℕ) (out : List ℕ)
        → ((cond q (explain_outcome (Err (explainedAs.ShortLines n)) d m l) (explain_outcome (Ok (n, size)) d m out)).scratch ≡ d)
        × ((cond q (explain_outcome (Err (explainedAs.ShortLines n)) d m l) (explain_outcome (Ok (n, size)) d m out)).list ≡ m)
    at true n out = (refl, refl)
    at false n out = (refl, refl)
kept o set ws (Err reasonedAs.Unsupported) d m l = (refl, refl)
kept o set ws (Err (reasonedAs.Short needed)) d m l = (refl, refl)
kept o set ws (Err (reasonedAs.Refused r)) d m l = (refl, refl)
