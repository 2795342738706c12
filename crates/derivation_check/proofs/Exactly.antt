-- What each verdict means, that the lines from a reason hold, and that a derivation is written in one way.
use Rattle.std.specs.Prelude.{Err, Ok}
use Prim.Native.Nat.{ℕ, ◌+◌, ◌%◌, ◌<◌}
use mathlib.Core.Path.{◌≡◌, refl, sym, ◌∙◌}
use mathlib.Core.Bool.{Bool, true, false, cond}
use mathlib.Core.List.{List}
use mathlib.Core.Logic.{◌↔◌}
use native.Mathlib.Omega.{arith}
use lib.Dec.{eqb}
use lib.ListN.{length, get_or}
use Rattle.theory_laws.specs.Deciding.{Decides}
use Rattle.theory_laws.proofs.Booleans.{contradiction, not_so}
use Rattle.theory_laws.proofs.Deciding.{decides_equal, decides_both}
use Rattle.theory.specs.Words.{Sign, sign_at}
use Rattle.theory.specs.Nets.{Links}
use Rattle.theory.specs.Origins.{chosen}
use Rattle.theory.specs.Support.{Supported}
use Rattle.theory.specs.Reasons.{never}
use Rattle.theory.specs.Searches.{distances, reason_states, reason_list}
use Rattle.theory.proofs.origins.Statements.{chosen_net}
use Rattle.net.specs.Table.{check_net, bad_statement, Checked}
use Rattle.net.specs.Good.{GoodStatement}
use Rattle.net.specs.declared.Refusal.{Refusal}
use Rattle.net.specs.declared.Refusal.TheVariants.{BadQuestion}
use Rattle.net.proofs.NetCheck.{nodes_exactly}
use Rattle.net.proofs.OnNet.{passed_on, gone_on}
use Rattle.net.proofs.Good.{good_statement, good_kind}
use Rattle.reason_check.specs.Table.{check_clauses, Verdict}
use Rattle.reason_check.proofs.Exactly.{Accepted}
use Rattle.derivation_lines.specs.Tests.{derives}
use Rattle.derivation_lines.specs.Flat.{flat, lines_of, derive_list}
use Rattle.derivation_lines.proofs.Sound.{derives_supported}
use Rattle.derivation_lines.proofs.Checking.{derives_exactly}
use Rattle.derivation_lines.proofs.Flatness.{flat_length, lines_length}
use Rattle.derivation_lines.proofs.ReasonLines.{derivation_back, reason_derives}
use Rattle.derivation_lines.proofs.OneWay.{one_way}
use Rattle.derivation_check.specs.Table.{DerivationOf, accepts, lines_done, lines_verdict}

pub accepts_exactly : (o k set : ℕ) (ws : List ℕ) (x y : ℕ) (s : Sign) (l : List ℕ) → Decides (accepts o k set ws x y s l) (DerivationOf o k set ws x y s l)
accepts_exactly o k set ws x y s l =
    let d = decides_both (eqb (length l % 4) 0) (derives o k set ws (lines_of l) x y s) (decides_equal (length l % 4) 0) (derives_exactly o k set ws (lines_of l) x y s) in
    (λ e. let p = d.0 e in record { whole = p.0; lines = p.1 }, λ p. d.1 (p.whole, p.lines))

-- The verdict on a net, by its two tests.
abbrev judged : Bool → Bool → Verdict
judged bad good = cond bad (Err BadQuestion) (Ok good)

judged_ok : (b p q : Bool) → judged b p ≡ Ok q → (b ≡ false) × (p ≡ q)
judged_ok true p q e = let z : ◌≡◌ {A = ℕ} 0 1 = cc in absurd (omega arith)
judged_ok false p q e = (refl, cc)

module _ (o k : ℕ) (ws : List ℕ) (set x y sign : ℕ) (l : List ℕ) where
  bad : Bool
  bad = bad_statement o (o + k) x y sign

  good : Bool
  good = accepts o k set ws x y (sign_at sign) l

  judged_accepted : Accepted o k ws set → judged bad good ≡ lines_verdict o k ws set x y sign l
  unfolding bad good
  judged_accepted net =
      gone_on Err o k ws set (check_clauses o x y sign) (λ _. lines_done o k set ws x y sign l) ((nodes_exactly o k ws set (o + k)).1 (refl, net.0, net.1)) refl

  -- The check of the net accepts it, or its refusal is the verdict.
  data Case : Type 0 where
    accepted : Accepted o k ws set → judged bad good ≡ lines_verdict o k ws set x y sign l → Case
    refused : (r : Refusal) → Err r ≡ lines_verdict o k ws set x y sign l → Case

  cases : (c : Checked) → check_net o k ws set ≡ c → Case
  cases (Ok n) e =
      let g = (nodes_exactly o k ws set n).0 e in
      accepted (g.1, g.2) (judged_accepted (g.1, g.2))
  cases (Err r) e = refused r (passed_on Err o k ws set (check_clauses o x y sign) (λ _. lines_done o k set ws x y sign l) e)

  asked : (bad ≡ false) ↔ GoodStatement o (o + k) x y sign
  unfolding bad
  asked = good_statement o (o + k) x y sign

  tested : (good ≡ true) ↔ DerivationOf o k set ws x y (sign_at sign) l
  unfolding good
  tested = accepts_exactly o k set ws x y (sign_at sign) l

  -- The lines hold exactly if net and set are accepted, the statement may be asked, and they derive it.
  pub holds_exactly : (lines_verdict o k ws set x y sign l ≡ Ok true) ↔ (Accepted o k ws set × GoodStatement o (o + k) x y sign × DerivationOf o k set ws x y (sign_at sign) l)
  holds_exactly = (at (cases (check_net o k ws set) refl), back)
    where
      at : Case → lines_verdict o k ws set x y sign l ≡ Ok true → Accepted o k ws set × GoodStatement o (o + k) x y sign × DerivationOf o k set ws x y (sign_at sign) l
      at (accepted net j) e =
          let (b, g) = judged_ok bad good true (j ∙ e) in
          (net, asked.0 b, tested.0 g)
      at (refused r j) e = let z : ◌≡◌ {A = ℕ} 0 1 = cc in absurd (omega arith)

      back : Accepted o k ws set × GoodStatement o (o + k) x y sign × DerivationOf o k set ws x y (sign_at sign) l → lines_verdict o k ws set x y sign l ≡ Ok true
      back h = sym (judged_accepted h.0) ∙ rw (asked.1 h.1, tested.1 h.2)

  -- They fail exactly if net and set are accepted, the statement may be asked, and they do not derive it.
  pub fails_exactly : (lines_verdict o k ws set x y sign l ≡ Ok false) ↔ (Accepted o k ws set × GoodStatement o (o + k) x y sign × (DerivationOf o k set ws x y (sign_at sign) l → ⊥))
  fails_exactly = (at (cases (check_net o k ws set) refl), back)
    where
      at : Case → lines_verdict o k ws set x y sign l ≡ Ok false → Accepted o k ws set × GoodStatement o (o + k) x y sign × (DerivationOf o k set ws x y (sign_at sign) l → ⊥)
      at (accepted net j) e =
          let (b, g) = judged_ok bad good false (j ∙ e) in
          (net, asked.0 b, λ p. contradiction (sym g ∙ tested.1 p))
      at (refused r j) e = let z : ◌≡◌ {A = ℕ} 0 1 = cc in absurd (omega arith)

      back : Accepted o k ws set × GoodStatement o (o + k) x y sign × (DerivationOf o k set ws x y (sign_at sign) l → ⊥) → lines_verdict o k ws set x y sign l ≡ Ok false
      back h =
          let f : good ≡ false = not_so good (λ (g : good ≡ true). h.2 (tested.0 g)) in
          sym (judged_accepted h.0) ∙ rw (asked.1 h.1, f)

  -- What holds is supported by the chosen words, whoever wrote it.
  pub holds_supported : lines_verdict o k ws set x y sign l ≡ Ok true → Supported o k (Links (chosen set ws)) x y (sign_at sign)
  holds_supported e = let (net, a, p) = holds_exactly.0 e in derives_supported o k set ws (lines_of l) x y (sign_at sign) p.lines

-- A derivation that holds is written in one way: two lists that are read as the same lines are the same list.
pub holds_one_way : (o k : ℕ) (ws : List ℕ) (set x y sign : ℕ) (l m : List ℕ) → lines_verdict o k ws set x y sign l ≡ Ok true → lines_verdict o k ws set x y sign m ≡ Ok true
    → lines_of l ≡ lines_of m → l ≡ m
holds_one_way o k ws set x y sign l m e f same =
    let p = ((holds_exactly o k ws set x y sign l).0 e).2 in
    let q = ((holds_exactly o k ws set x y sign m).0 f).2 in
    one_way o k set ws l m (omega (arith, p.whole, lines_length l)) (omega (arith, q.whole, lines_length m)) p.lines.lines same

-- The lines from the reason of what is supported hold.
pub reason_lines_hold : (o k : ℕ) (ws : List ℕ) (set : ℕ) → Accepted o k ws set → (x y sign : ℕ) → GoodStatement o (o + k) x y sign
    → get_or (distances (o + k) (sign_at sign) (chosen set ws) y) x never < never
    → lines_verdict o k ws set x y sign (flat (derive_list o set ws (reason_list (o + k) x (reason_states (o + k) (sign_at sign) (chosen set ws) x y)))) ≡ Ok true
reason_lines_hold o k ws set net x y sign may h =
    let plain = chosen_net set o k ws net.1 in
    let ls = derive_list o set ws (reason_list (o + k) x (reason_states (o + k) (sign_at sign) (chosen set ws) x y)) in
    let d = reason_derives o k set ws plain x may.pair.node y (good_kind may.pair) (sign_at sign) h in
    (holds_exactly o k ws set x y sign (flat ls)).1
    (net, may, record { whole = omega (arith, flat_length ls); lines = rw (derivation_back o k set ws plain ls d.lines) d })
