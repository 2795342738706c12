-- Nothing is ever lost: the room for scratch, for the reason and for its lines does for every net.
use Rattle.explain.specs.declared.ExplainError.TheVariants.{Refused, Unsupported}
use Rattle.std.specs.Prelude.{Err}
use Prim.Native.Nat.{ℕ, ◌+◌, ◌*◌, ◌≤◌, ◌<◌}
use mathlib.Core.Path.{◌≡◌, refl, sym, ap, ◌∙◌}
use mathlib.Core.Bool.{Bool}
use mathlib.Core.List.{List, []}
use mathlib.Core.Logic.{◌⊎◌, ⊎_elim, ◌↔◌}
use native.Mathlib.Omega.{arith}
use borrow.Author.Tests.{le-ltb, eq-eqb, ne_eqb}
use lib.ListN.{length, get_or, drop, replicate, length-replicate}
use lib.Seq.{take_at}
use Rattle.theory.specs.Words.{sign_at}
use Rattle.theory.specs.Nets.{Links, Net}
use Rattle.theory.specs.Support.{Supported}
use Rattle.theory.specs.Reasons.{never}
use Rattle.theory.specs.Searches.{distances}
use Rattle.theory.specs.Origins.{set_limit, chosen, NetFrom}
use Rattle.theory.proofs.origins.Statements.{chosen_net}
use Rattle.theory.proofs.reason.Distances.{distances_small}
use Rattle.theory.proofs.reason.Reason.{reason_exactly, reason_length}
use Rattle.net.specs.Clauses.{call}
use Rattle.net.specs.Good.{GoodStatement}
use Rattle.net.proofs.Good.{good_statement, good_kind}
use Rattle.net.proofs.NetCheck.{net_is_checked}
use Rattle.net.proofs.OnNet.{gone_on}
use Rattle.reason.specs.Table.{filled, reason_of}
use Rattle.derivation_lines.specs.Lines.{Line, Derives}
use Rattle.derivation_lines.specs.Flat.{flat, lines_of}
use Rattle.derivation_lines.proofs.Flatness.{flat_length}
use Rattle.derivation_lines.proofs.ReasonLines.{derivation_back, reason_derives, reason_lines}
use Rattle.explain.specs.Table.{ExplainOutcome, explain_outcome, explaining, explain_clauses, explain_done, explained}
use Rattle.why_line.specs.Text.{lines_text}
use Rattle.why_reason.specs.Told.{most_lines, lines_room, scratch_room, reason_room, told_by, why_text}

-- The lines of a statement are told whole: they derive it, and there is room for them all.
pub record ToldWhole (told : Bool) (o k : ℕ) (ws : List ℕ) (set x y sign : ℕ) : Type 0 where
  pub text : why_text told o k ws set x y sign ≡ lines_text told ws 0 (explaining o ws set x y sign (o + k))
  pub lines : Derives o k set ws (explaining o ws set x y sign (o + k)) x y (sign_at sign)
  pub few : length (explaining o ws set x y sign (o + k)) ≤ most_lines

-- Lists of enough places: scratch, reason and lines.
record Room (d m l : List ℕ) : Type 0 where
  pub scratch : scratch_room ≤ length d
  pub nodes : reason_room ≤ length m
  pub lines : lines_room ≤ length l

-- Those of `found` are such.
enough : Room (replicate scratch_room 0) (replicate reason_room 0) (replicate lines_room 0)
enough = record { scratch = places scratch_room; nodes = places reason_room; lines = places lines_room }
  where
    places : (n : ℕ) → n ≤ length (replicate {A = ℕ} n 0)
    places n = omega (arith, length-replicate {A = ℕ} n 0)

-- A statement about an accepted net.
module _ (o k : ℕ) (ws : List ℕ) (set x y sign : ℕ) (net : NetFrom o k ws) (low : set ≤ set_limit) (may : GoodStatement o (o + k) x y sign) where
  abbrev links : ℕ
  links = get_or (distances (o + k) (sign_at sign) (chosen set ws) y) x never

  abbrev lines : List Line
  lines = explaining o ws set x y sign (o + k)

  plain : Net o k (chosen set ws)
  plain = chosen_net set o k ws net

  near : (links < o + k + (o + k)) ⊎ (links ≡ never)
  near = distances_small o k (chosen set ws) plain y (good_kind may.pair) (sign_at sign) x

  exactly : Supported o k (Links (chosen set ws)) x y (sign_at sign) ↔ (links < never)
  exactly = reason_exactly o k (chosen set ws) plain x may.pair.node y (good_kind may.pair) (sign_at sign)

  -- A reason has at most 2,047 links,
  few_links : links < never → links ≤ 2047
  few_links h = ⊎_elim (λ g. omega (arith, g, net.few)) (λ e. absurd (omega (arith, e, h))) near

  -- and its derivation has room.
  few_lines : links < never → length lines ≤ most_lines
  few_lines h = omega (arith, few_links h, reason_lines o k set ws plain x may.pair.node y (good_kind may.pair) (sign_at sign) h)

  derived : links < never → Derives o k set ws lines x y (sign_at sign)
  derived = reason_derives o k set ws plain x may.pair.node y (good_kind may.pair) (sign_at sign)

  module _ {d m l : List ℕ} (room : Room d m l) where
    on_net : explained o k ws set x y sign d m l
        ≡ call (explain_clauses o (chosen set ws) lines x y sign d m l (o + k)) (explain_done (chosen set ws) lines x y sign d m l (o + k))
    on_net =
        sym (gone_on (λ r. explain_outcome (Err (Refused r)) d m l) o k ws set (explain_clauses o (chosen set ws) lines x y sign d m l) (explain_done (chosen set ws) lines x y sign d m l) (net_is_checked o k ws set low net) refl)

    -- A statement that has a reason is explained,
    with_reason : links < never → explained o k ws set x y sign d m l ≡ explain_done (chosen set ws) lines x y sign d m l (o + k)
    with_reason h =
        let n = o + k in
        let all = reason_of (chosen set ws) x y sign n in
        on_net
        ∙ rw (
          (good_statement o n x y sign).1 may,
          le-ltb (length d) (n + n) (omega (arith, net.few, room.scratch)),
          ne_eqb links never (λ e. omega (arith, e, h)),
          le-ltb (length m) (length all) (omega (arith, reason_length n (sign_at sign) (chosen set ws) x y, few_links h, room.nodes)),
          le-ltb (length l) (4 * length lines) (omega (arith, few_lines h, room.lines)),
        )

    -- and one that has none is not.
    without_reason : links ≡ never → explained o k ws set x y sign d m l ≡ explain_outcome (Err Unsupported) (filled (chosen set ws) y sign d (o + k)) m l
    without_reason e =
        on_net ∙ rw ((good_statement o (o + k) x y sign).1 may, le-ltb (length d) (o + k + (o + k)) (omega (arith, net.few, room.scratch)), eq-eqb links never e)

    told_lines : (told : Bool) → links < never → told_by told ws (explained o k ws set x y sign d m l).answer (explained o k ws set x y sign d m l).lines ≡ lines_text told ws 0 lines
    unfolding told_by
    told_lines told h =
        ap (λ (q : ExplainOutcome). told_by told ws q.answer q.lines) (with_reason h)
        ∙ ap (λ (t : List ℕ). lines_text told ws 0 (lines_of t)) (take_at (flat lines) (drop (length (flat lines)) l) (4 * length lines) (flat_length lines))
        ∙ ap (lines_text told ws 0) (derivation_back o k set ws plain lines (derived h).lines)

    told_nothing : (told : Bool) → links ≡ never → told_by told ws (explained o k ws set x y sign d m l).answer (explained o k ws set x y sign d m l).lines ≡ []
    unfolding told_by
    told_nothing told e = ap (λ (q : ExplainOutcome). told_by told ws q.answer q.lines) (without_reason e)

  -- A statement that is supported is told whole,
  pub always_room : (told : Bool) → Supported o k (Links (chosen set ws)) x y (sign_at sign) → ToldWhole told o k ws set x y sign
  unfolding why_text
  always_room told p =
      let h = exactly.0 p in
      record {
        text = told_lines enough told h;
        lines = derived h;
        few = few_lines h;
      }

  -- and one that is not, not at all.
  pub nothing_to_tell : (told : Bool) → (Supported o k (Links (chosen set ws)) x y (sign_at sign) → ⊥) → why_text told o k ws set x y sign ≡ []
  unfolding why_text
  nothing_to_tell told u = told_nothing enough told (⊎_elim (λ g. absurd (u (exactly.1 (omega (arith, g, net.few))))) (λ e. e) near)
