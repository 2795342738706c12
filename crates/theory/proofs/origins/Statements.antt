-- What a net with origins chooses: a net, whose statements are those of the words of chosen origins. What two origins say counts once.
use Prim.Native.Nat.{ℕ, ◌+◌, ◌<◌}
use mathlib.Core.Path.{◌≡◌, refl, ap, subst, ◌∙◌}
use mathlib.Core.Bool.{true}
use mathlib.Core.List.Memᴰ
use mathlib.Core.List.{List, ◌∷◌, Memᴰ}
use mathlib.Core.Logic.{◌↔◌, ⊎_elim}
use native.Mathlib.Omega.{arith}
use lib.ListN.{length, get_or}
use Rattle.theory.specs.Words.{Sign, sign_number, tail_of, head_of, parity}
use Rattle.theory.specs.Nets.{Links, AllIn, LegalWord, Net}
use Rattle.theory.specs.Support.{Supported}
use Rattle.theory.specs.Inside.{Inside}
use Rattle.theory.specs.Marks.{commands, scan_start}
use Rattle.theory.specs.Scans.{scan}
use Rattle.theory.specs.Origins.{origin_unit, from, origin_of, plain_of, among, chooses, chosen, NetFrom, EndsFrom, InsideFrom}
use Rattle.theory.specs.Completion.{complete}
use Rattle.theory.proofs.Inside.{at_member, legal_inside}
use Rattle.theory.proofs.support.Joining.{Sub, monotone}
use Rattle.theory.proofs.machine.Order.{rounds_order}
use Rattle.theory.proofs.machine.Starts.{start_long, commands_put_8}
use Rattle.theory.proofs.completion.Completing.{lists_unique, complete_lists}
use Rattle.theory.proofs.completion.Demand3.{lists_as}
use Rattle.theory.proofs.origins.Choosing.{Plain, plain_origin, plain_itself, origin_from, plain_from, chosen_in, chosen_length, chosen_picked, picked_chosen}

-- ── the chosen list is a net ──
-- Whatever the set: the words that it chooses from a net with origins, their origins removed, are a net.
pub chosen_net : (set o k : ℕ) (ws : List ℕ) → NetFrom o k ws → Net o k (chosen set ws)
chosen_net set o k ws n = record {
  few = n.few;
  short = omega (arith, n.short, chosen_length set ws);
  legal = λ v m. let p = chosen_picked set ws v m in subst (LegalWord o k) p.plain (n.legal p.it p.listed).plain;
}

module _ (o k : ℕ) (ws : List ℕ) where
  -- The words of a net without origins are plain, and it is a net with origins too: all are of origin 0.
  pub net_plain : Net o k ws → Plain ws
  net_plain n w m = omega (arith, n.few, (n.legal w m).tail)

  pub net_from : Net o k ws → NetFrom o k ws
  net_from n = record {
    few = n.few;
    short = n.short;
    legal = λ w m.
        let b = net_plain n w m in
        record { origin = omega (arith, plain_origin w b); plain = rw (plain_itself w b) (n.legal w m) };
  }

  -- What the loops over links ask of a net with origins.
  pub inside_from : NetFrom o k ws → InsideFrom (o + k) ws
  inside_from n w m = let l = n.legal w m in record { origin = l.origin; ends = record { tail_in = l.plain.tail; head_in = l.plain.head.high } }

pub inside_from_at : {n : ℕ} (ws : List ℕ) → InsideFrom n ws → (i : ℕ) → i < length ws → EndsFrom n (get_or ws i 0)
inside_from_at ws e i l = e (get_or ws i 0) (at_member ws i l)

pub chosen_inside : (set : ℕ) {n : ℕ} (ws : List ℕ) → InsideFrom n ws → Inside n (chosen set ws)
chosen_inside set ws e v m =
    let p = chosen_picked set ws v m in
    let d = (e p.it p.listed).ends in
    rw (← p.plain) d

-- ── its statements ──
-- A word of a chosen origin says it, the origin removed.
pub record LinksFrom (set : ℕ) (ws : List ℕ) (x y : ℕ) (s : Sign) : Type 0 where
  pub it : ℕ
  pub listed : Memᴰ it ws
  pub picked : chooses set it ≡ true
  pub tail : tail_of (plain_of it) ≡ x
  pub head : head_of (plain_of it) ≡ y
  pub sign : parity (plain_of it) ≡ sign_number s

-- The chosen list makes just the statements that words of chosen origins make.
pub chosen_statements : (set : ℕ) (ws : List ℕ) (x y : ℕ) (s : Sign) → Links (chosen set ws) x y s ↔ LinksFrom set ws x y s
chosen_statements set ws x y s = (
  (λ l.
      let p = chosen_picked set ws l.it l.listed in
      record {
        it = p.it;
        listed = p.listed;
        picked = p.picked;
        tail = ap tail_of p.plain ∙ l.tail;
        head = ap head_of p.plain ∙ l.head;
        sign = ap parity p.plain ∙ l.sign;
      }),
  λ l. record {
    it = plain_of l.it;
    listed = picked_chosen set ws (plain_of l.it) (record { it = l.it; listed = l.listed; picked = l.picked; plain = refl });
    tail = l.tail;
    head = l.head;
    sign = l.sign;
  },
)

pub among_links : (ws vs : List ℕ) → AllIn ws vs → Sub (Links ws) (Links vs)
among_links ws vs h x y s l = record { it = l.it; listed = h l.it l.listed; tail = l.tail; head = l.head; sign = l.sign }

-- More origins take nothing away: what is supported stays so.
pub more_origins : (o k set set' : ℕ) → ((i : ℕ) → among set i ≡ true → among set' i ≡ true) → (ws : List ℕ) (x y : ℕ) (s : Sign)
    → Supported o k (Links (chosen set ws)) x y s → Supported o k (Links (chosen set' ws)) x y s
more_origins o k set set' h ws =
    monotone o k (Links (chosen set ws)) (Links (chosen set' ws))
    (among_links (chosen set ws) (chosen set' ws)
    (λ v m.
    let p = chosen_picked set ws v m in
    picked_chosen set' ws v (record { it = p.it; listed = p.listed; picked = h (origin_of p.it) p.picked; plain = p.plain })))

-- Where the chosen words are the same, whoever said them, in whatever order and how often:
module _ (set set' o k : ℕ) (ws vs : List ℕ) (n : NetFrom o k ws) (n' : NetFrom o k vs) (to : AllIn (chosen set ws) (chosen set' vs)) (back : AllIn (chosen set' vs) (chosen set ws)) where
  abbrev here : List ℕ
  here = chosen set ws

  abbrev there : List ℕ
  there = chosen set' vs

  forth : Sub (Supported o k (Links here)) (Supported o k (Links there))
  forth = monotone o k (Links here) (Links there) (among_links here there to)

  back_again : Sub (Supported o k (Links there)) (Supported o k (Links here))
  back_again = monotone o k (Links there) (Links here) (among_links there here back)

  -- the same is supported,
  pub same_supported : (x y : ℕ) (s : Sign) → Supported o k (Links (chosen set ws)) x y s ↔ Supported o k (Links (chosen set' vs)) x y s
  same_supported x y s = (forth x y s, back_again x y s)

  -- the completed lists are the same,
  pub same_complete : complete o k (chosen set ws) ≡ complete o k (chosen set' vs)
  same_complete =
      lists_unique o k there (complete o k here) (complete o k there)
      (lists_as o k here there (complete o k here) forth back_again (complete_lists o k here (chosen_net set o k ws n)))
      (complete_lists o k there (chosen_net set' o k vs n'))

  -- and so is every scan: marks, count and end.
  pub same_scan : (x b : ℕ) → x < o + k → scan (o + k) (chosen set ws) x b ≡ scan (o + k) (chosen set' vs) x b
  same_scan x b hx =
      rounds_order (o + k) here there
      (legal_inside o k here (chosen_net set o k ws n).legal) (legal_inside o k there (chosen_net set' o k vs n').legal) to back
      commands commands_put_8 b 0 (scan_start (o + k) x) (omega (arith, start_long (o + k) x hx))

-- Two origins that say one thing count once: the second adds nothing to the chosen words.
module _ (set i j p : ℕ) (h : p < origin_unit) (hi : among set i ≡ true) (hj : among set j ≡ true) (ws : List ℕ) where
  said : (l : ℕ) → among set l ≡ true → (vs : List ℕ) → chosen set (from l p ∷ vs) ≡ p ∷ chosen set vs
  said l hl vs = chosen_in set (from l p) vs (ap (among set) (origin_from l p h) ∙ hl) ∙ ap (λ (v : ℕ). v ∷ chosen set vs) (plain_from l p h)

  twice : chosen set (from i p ∷ from j p ∷ ws) ≡ p ∷ p ∷ chosen set ws
  twice = said i hi (from j p ∷ ws) ∙ ap (λ (l : List ℕ). p ∷ l) (said j hj ws)

  pub once_to : AllIn (chosen set (from i p ∷ from j p ∷ ws)) (chosen set (from i p ∷ ws))
  once_to w m = rw (said i hi ws) (⊎_elim (λ e. Memᴰ.head e) (λ n. n) (Memᴰ.cases_cons (rw twice at m)))

  pub once_back : AllIn (chosen set (from i p ∷ ws)) (chosen set (from i p ∷ from j p ∷ ws))
  once_back w m = rw twice (Memᴰ.tail (rw (said i hi ws) at m))
