-- The computed run is what the unit's steps come to: they come to the end of the program, or to a command for which nothing is left.
use Prim.Native.Nat.{ℕ, zero, suc, ◌+◌, ◌-◌, ◌≤◌, ◌<◌}
use mathlib.Core.Path.{◌≡◌, refl, sym, ap, subst, ◌∙◌}
use mathlib.Core.Bool.{Bool, true, false, cond, ◌&&◌, ◌||◌}
use mathlib.Core.List.{List, [], ◌∷◌, map}
use native.Mathlib.Omega.{arith}
use native.Mathlib.Decide.{dec_lt}
use lib.ListN.{length, get_or, take, drop, length-drop, drop_of_length-le}
use lib.Seq.{drop-cons, drop-drop, get_or-drop}
use Rattle.theory_laws.proofs.Booleans.{contradiction, and_left, and_right}
use Rattle.unit_program.specs.declared.Instruction.{Instruction}
use Rattle.unit_program.specs.declared.Instruction.TheVariants as instruction
use Rattle.unit_program.specs.Programs.{decode, parts, items}
use Rattle.unit_program.specs.Faults.{is_loop, before_end, Sound}
use Rattle.unit_program.specs.Wrong.{command_at}
use Rattle.unit_program.specs.Runs.{does, sets, Stand, pass, passes, onward, run_items, run}
use Rattle.unit_program.specs.Steps.{State, state, charged, Begins, runs, enters, repeats, leaves, Leads, arrived, further, Runs, ended, spent}
use Rattle.unit_program.proofs.Looping.{pass_fresh, passes_last, passes_again}
use Rattle.unit_program.proofs.Parsing.{plain_first, loop_first, Plain, Opened}

module _ (n : ℕ) (ws ps : List ℕ) where
  leads_then : {s t u : State} → Leads n ws ps s t → Leads n ws ps t u → Leads n ws ps s u
  leads_then {u = u} (arrived e) k = subst (λ (z : State). Leads n ws ps z u) (sym e) k
  leads_then (further v g l) k = further v g (leads_then l k)

  -- Steps lead to place `to`, where the run that is computed still runs; and where it stopped, to a charged command with nothing left.
  record Arrives (from : State) (s : Stand) (to : ℕ) : Type 0 where
    fresh : Bool
    led : Leads n ws ps from (state to s.left fresh s.marks)

  record Stops (from : State) (s : Stand) : Type 0 where
    place : ℕ
    fresh : Bool
    led : Leads n ws ps from (state place s.left fresh s.marks)
    counts : charged (command_at n ps place) ≡ true
    none : s.left ≡ 0

  record Comes (from : State) (s : Stand) (to : ℕ) : Type 0 where
    arrives : s.runs ≡ true → Arrives from s to
    stops : s.runs ≡ false → Stops from s

  stops_after : {a b : State} {s : Stand} → Leads n ws ps a b → Stops b s → Stops a s
  stops_after l t = record { place = t.place; fresh = t.fresh; led = leads_then l t.led; counts = t.counts; none = t.none }

  comes_after : {a b : State} {s : Stand} {to : ℕ} → Leads n ws ps a b → Comes b s to → Comes a s to
  comes_after l c = record {
    arrives = λ e. let t = c.arrives e in record { fresh = t.fresh; led = leads_then l t.led };
    stops = λ e. stops_after l (c.stops e);
  }

  -- One after another.
  comes_on : {a : State} {to end : ℕ} (s : Stand) (next : ℕ → List ℕ → Stand) → Comes a s to → ((l : ℕ) (f : Bool) (m : List ℕ) → Comes (state to l f m) (next l m) end)
      → Comes a (onward s next) end
  comes_on {a} {to} {end} s next c go = pick s.runs refl
    where
      pick : (q : Bool) → s.runs ≡ q → Comes a (cond q (next s.left s.marks) s) end
      pick true e = let t = c.arrives e in comes_after t.led (go s.left t.fresh s.marks)
      pick false e = record { arrives = λ f. contradiction (sym e ∙ f); stops = c.stops }

  -- ── a pass over k commands from place i on, which keeps whether it set something ──
  record Passes (from : State) (s : Stand) (to : ℕ) : Type 0 where
    arrives : s.runs ≡ true → Leads n ws ps from (state to s.left s.fresh s.marks)
    stops : s.runs ≡ false → Stops from s

  step_run : (i l : ℕ) (f : Bool) (m : List ℕ) → charged (command_at n ps i) ≡ true
      → Leads n ws ps (state i (suc l) f m) (state (suc i) l (f || sets ws (command_at n ps i) m) (does ws (command_at n ps i) m))
  step_run i l f m c = further (state (suc i) l (f || sets ws (command_at n ps i) m) (does ws (command_at n ps i) m)) (runs c l refl refl) (arrived refl)

  pass_comes : (k i left : ℕ) (f : Bool) (m : List ℕ) → i + k ≤ length ps → ((j : ℕ) → j < k → charged (command_at n ps (i + j)) ≡ true)
      → Passes (state i left f m) (pass ws (map (decode n) (take k (drop i ps))) left f m) (i + k)
  unfolding pass
  pass_comes zero i left f m h g =
      let e : i ≡ i + 0 = omega arith in
      record { arrives = λ _. arrived (ap (λ (q : ℕ). state q left f m) e); stops = λ q. contradiction (sym q) }
  pass_comes (suc k) i left f m h g =
      subst (λ (q : List ℕ). Passes (state i left f m) (pass ws (map (decode n) (take (suc k) q)) left f m) (i + suc k)) (sym (drop-cons ps i 0 (omega arith)))
      (at left (λ l r b. pass_comes k (suc i) l r b (omega arith) (λ j a. let e : i + suc j ≡ suc i + j = omega arith in subst (λ (q : ℕ). charged (command_at n ps q) ≡ true) e (g (suc j) (omega arith)))))
    where
      here : charged (command_at n ps i) ≡ true
      here = let e : i + 0 ≡ i = omega arith in subst (λ (q : ℕ). charged (command_at n ps q) ≡ true) e (g 0 (omega arith))

      rest : List Instruction
      rest = map (decode n) (take k (drop (suc i) ps))

      at : (left : ℕ) → ((l : ℕ) (r : Bool) (b : List ℕ) → Passes (state (suc i) l r b) (pass ws (map (decode n) (take k (drop (suc i) ps))) l r b) (suc i + k))
          → Passes (state i left f m) (pass ws (command_at n ps i ∷ map (decode n) (take k (drop (suc i) ps))) left f m) (i + suc k)
      at zero go = record { arrives = λ q. contradiction q; stops = λ q. record { place = i; fresh = f; led = arrived refl; counts = here; none = refl } }
      at (suc l) go =
          let t = go l (f || sets ws (command_at n ps i) m) (does ws (command_at n ps i) m) in
          let e : suc i + k ≡ i + suc k = omega arith in
          let s : Stand = pass ws (map (decode n) (take k (drop (suc i) ps))) l (f || sets ws (command_at n ps i) m) (does ws (command_at n ps i) m) in
          record {
            arrives = λ q. leads_then (step_run i l f m here) (subst (λ (p : ℕ). Leads n ws ps (state (suc i) l (f || sets ws (command_at n ps i) m) (does ws (command_at n ps i) m)) (state p s.left s.fresh s.marks)) e (t.arrives q));
            stops = λ q. stops_after (step_run i l f m here) (t.stops q);
          }

  -- ── a loop at place i, with k commands before its end ──
  module _ (i k : ℕ) (opens : command_at n ps i ≡ instruction.Loop) (shuts : command_at n ps (suc i + k) ≡ instruction.End) (h : suc i + k ≤ length ps)
      (g : (j : ℕ) → j < k → charged (command_at n ps (suc i + j)) ≡ true) where
    abbrev body : List Instruction
    body = map (decode n) (take k (drop (suc i) ps))

    begins : Begins n ps i (suc i + k)
    begins = record {
      before = omega arith;
      opens = opens;
      between = λ j a b. let e : suc i + (j - suc i) ≡ j = omega arith in subst (λ (q : ℕ). charged (command_at n ps q) ≡ true) e (g (j - suc i) (omega arith));
    }

    loop_comes : (most left : ℕ) (m : List ℕ) → left < most → Comes (state (suc i) left false m) (passes ws body most left m) (suc (suc i + k))
    loop_comes zero left m b = absurd (omega arith)
    loop_comes (suc most) left m b = at ((pass ws body left false m).runs && (pass ws body left false m).fresh) refl (λ c. loop_comes most (pass ws body left false m).left (pass ws body left false m).marks c)
      where
        p : Stand
        p = pass ws body left false m

        turn : Passes (state (suc i) left false m) (pass ws body left false m) (suc i + k)
        turn = pass_comes k (suc i) left false m h g

        at : (q : Bool) → ((pass ws body left false m).runs && (pass ws body left false m).fresh) ≡ q
            → ((pass ws body left false m).left < most
            → Comes (state (suc i) (pass ws body left false m).left false (pass ws body left false m).marks) (passes ws body most (pass ws body left false m).left (pass ws body left false m).marks) (suc (suc i + k)))
            → Comes (state (suc i) left false m) (passes ws body (suc most) left m) (suc (suc i + k))
        at true e go =
            let s : Stand = pass ws body left false m in
            let again : State = state (suc i) s.left false s.marks in
            rw (passes_again ws body most left m e)
            (comes_after (leads_then (turn.arrives (and_left s.runs s.fresh e)) (further again (repeats shuts (and_right s.runs s.fresh e) i begins refl) (arrived refl)))
            (go (omega (arith, pass_fresh ws body left m e))))
        at false e go =
            let s : Stand = pass ws body left false m in
            rw (passes_last ws body most left m e)
            (record {
              arrives = λ r.
                  let quiet : s.fresh ≡ false = sym (ap (λ (q : Bool). q && s.fresh) r) ∙ e in
                  record {
                    fresh = false;
                    led = leads_then (turn.arrives r) (further (state (suc (suc i + k)) s.left false s.marks) (leaves shuts quiet refl) (arrived refl));
                  };
              stops = turn.stops;
            })

  -- ── the items from place i on ──
  at_end : (i left : ℕ) (f : Bool) (m : List ℕ) → i ≤ length ps → length ps ≤ i → Comes (state i left f m) (run_items ws (items n (drop i ps)) left m) (length ps)
  unfolding run_items parts
  at_end i left f m a b =
      let e : i ≡ length ps = omega arith in
      rw (drop_of_length-le ps b)
      (record { arrives = λ _. record { fresh = f; led = arrived (ap (λ (q : ℕ). state q left f m) e) }; stops = λ q. contradiction (sym q) })

  plain_comes : (i left : ℕ) (f : Bool) (m : List ℕ) → charged (command_at n ps i) ≡ true → Comes (state i left f m) (pass ws (command_at n ps i ∷ []) left false m) (suc i)
  unfolding pass
  plain_comes i zero f m c = record { arrives = λ q. contradiction q; stops = λ q. record { place = i; fresh = f; led = arrived refl; counts = c; none = refl } }
  plain_comes i (suc l) f m c = record { arrives = λ q. record { fresh = f || sets ws (command_at n ps i) m; led = step_run i l f m c }; stops = λ q. contradiction (sym q) }

  -- What is still to be shown from a later place.
  abbrev Later : ℕ → Type 0
  Later k = (i left : ℕ) (f : Bool) (m : List ℕ) → i ≤ length ps → length ps ≤ i + k → Sound n false (drop i ps) → Comes (state i left f m) (run_items ws (items n (drop i ps)) left m) (length ps)

  module _ (k i : ℕ) (l : i < length ps) (b : length ps ≤ i + suc k) (go : Later k) (left : ℕ) (f : Bool) (m : List ℕ) where
    abbrev w : ℕ
    w = get_or ps i 0

    abbrev qs : List ℕ
    qs = drop (suc i) ps

    abbrev Here : Type 0
    Here = Comes (state i left f m) (run_items ws (items n (get_or ps i 0 ∷ drop (suc i) ps)) left m) (length ps)

    plain_next : Plain n w qs → Here
    unfolding run_items
    plain_next t =
        rw t.taken
        (comes_on (pass ws (command_at n ps i ∷ []) left false m) (λ l k. run_items ws (items n (drop (suc i) ps)) l k) (plain_comes i left f m t.counts)
        (λ a r v. go (suc i) a r v (omega arith) (omega arith) t.rest))

    loop_next : decode n w ≡ instruction.Loop → Opened n w qs → Here
    unfolding run_items
    loop_next e t =
        let size : ℕ = before_end n (drop (suc i) ps) in
        let long = length-drop (suc i) ps in
        let over : drop (suc size) (drop (suc i) ps) ≡ drop (suc (suc i + size)) ps =
        drop-drop (suc size) (suc i) ps ∙ (let e : suc i + suc size ≡ suc (suc i + size) = omega arith in ap (λ (q : ℕ). drop q ps) e) in
        let shuts : command_at n ps (suc i + size) ≡ instruction.End = ap (decode n) (sym (get_or-drop (suc i) ps size 0)) ∙ t.shuts in
        let inside : (j : ℕ) → j < size → charged (command_at n ps (suc i + j)) ≡ true = λ j a. ap (λ (q : ℕ). charged (decode n q)) (sym (get_or-drop (suc i) ps j 0)) ∙ t.counts j a in
        rw t.taken
        (comes_on (passes ws (map (decode n) (take size (drop (suc i) ps))) (suc left) left m) (λ l k. run_items ws (items n (drop (suc size) (drop (suc i) ps))) l k)
        (comes_after (further (state (suc i) left false m) (enters e refl) (arrived refl)) (loop_comes i size e shuts (omega (arith, t.short)) inside (suc left) left m (omega arith)))
        (λ l f m. subst (λ (q : List ℕ). Comes (state (suc (suc i + size)) l f m) (run_items ws (items n q) l m) (length ps)) (sym over)
        (go (suc (suc i + size)) l f m (omega (arith, t.short)) (omega arith) (subst (Sound n false) over t.rest))))

    next : Sound n false (get_or ps i 0 ∷ drop (suc i) ps) → Here
    next s = at (decode n w) refl
      where
        other : (c : Instruction) → decode n w ≡ c → (c ≡ instruction.Loop → ⊥) → Here
        other c e no_loop = plain_next (plain_first n w qs s (λ q. no_loop (sym e ∙ q)))

        at : (c : Instruction) → decode n (get_or ps i 0) ≡ c → Here
        at instruction.Loop e = loop_next e (loop_first n w qs s e)
        at (instruction.Clear r) e = other (instruction.Clear r) e (λ q. contradiction (ap is_loop q))
        at (instruction.Set j v) e = other (instruction.Set j v) e (λ q. contradiction (ap is_loop q))
        at (instruction.Link c) e = other (instruction.Link c) e (λ q. contradiction (ap is_loop q))
        at instruction.End e = other instruction.End e (λ q. contradiction (ap is_loop q))
        at instruction.Unknown e = other instruction.Unknown e (λ q. contradiction (ap is_loop q))

  items_come : (k : ℕ) → Later k
  items_come zero i left f m a b s = at_end i left f m a (omega arith)
  items_come (suc k) i left f m a b s = pick (dec_lt i (length ps)) (items_come k)
    where
      pick : Dec (i < length ps) → Later k → Comes (state i left f m) (run_items ws (items n (drop i ps)) left m) (length ps)
      pick (yes l) go =
          subst (λ (q : List ℕ). Comes (state i left f m) (run_items ws (items n q) left m) (length ps)) (sym (drop-cons ps i 0 l))
          (next k i l b go left f m (subst (Sound n false) (drop-cons ps i 0 l) s))
      pick (no l) go = at_end i left f m a (omega arith)

  -- The computed run of a program without a fault is what the steps come to.
  pub run_steps : Sound n false ps → (budget : ℕ) (m : List ℕ) → Runs n ws ps budget m (run n ws ps budget m)
  run_steps sound budget m = at (run_items ws (items n ps) budget m) (items_come (length ps) 0 budget false m (omega arith) (omega arith) sound)
    where
      at : (s : Stand) → Comes (state 0 budget false m) s (length ps) → Runs n ws ps budget m (record { done = s.runs; count = budget - s.left; marks = s.marks })
      at s c = pick s.runs refl
        where
          pick : (q : Bool) → s.runs ≡ q → Runs n ws ps budget m (record { done = q; count = budget - s.left; marks = s.marks })
          pick true e = let t = c.arrives e in ended (state (length ps) s.left t.fresh s.marks) t.led refl refl
          pick false e =
              let t = c.stops e in
              let all : budget - s.left ≡ budget = omega (arith, t.none) in
              spent (state t.place s.left t.fresh s.marks) t.led t.counts t.none
              (ap (λ (q : ℕ). record { done = false; count = q; marks = s.marks }) all)
