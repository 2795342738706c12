-- How a program without a fault is read: a plain command, or a loop up to its end.
use Prim.Native.Nat.{ℕ, zero, suc, ◌≤◌, ◌<◌}
use mathlib.Core.Path.{◌≡◌, refl, sym, ap, ◌∙◌}
use mathlib.Core.Bool.{Bool, true, false, cond, not}
use mathlib.Core.List.{List, [], ◌∷◌, map}
use native.Mathlib.Omega.{arith}
use borrow.Author.Tests.{not-false}
use lib.ListN.{length, take, drop}
use Rattle.theory_laws.proofs.Booleans.{contradiction}
use Rattle.unit_program.specs.declared.Instruction.{Instruction}
use Rattle.unit_program.specs.declared.Instruction.TheVariants as instruction
use Rattle.unit_program.specs.Programs.{decode, Item, one, loop, part, parts, items}
use Rattle.unit_program.specs.Wrong.{command_at}
use Rattle.unit_program.specs.Steps.{charged}
use Rattle.unit_program.specs.Faults.{is_end, ends, before_end, faulty, within, sound_prefix, Sound}

-- The place of the first fault is at most the length.
pub prefix_most : (n : ℕ) (inside : Bool) (ps : List ℕ) → sound_prefix n inside ps ≤ length ps
unfolding sound_prefix
prefix_most n inside [] = omega arith
prefix_most n inside (w ∷ ps) = at (faulty inside (ends n ps) (decode n w)) (prefix_most n (within inside (decode n w)) ps)
  where
    at : (q : Bool) → sound_prefix n (within inside (decode n w)) ps ≤ length ps → cond q zero (suc (sound_prefix n (within inside (decode n w)) ps)) ≤ suc (length ps)
    at true h = omega arith
    at false h = omega arith

-- The first command is not at fault, and neither are the others.
record First (n : ℕ) (inside : Bool) (w : ℕ) (ws : List ℕ) : Type 0 where
  good : faulty inside (ends n ws) (decode n w) ≡ false
  rest : Sound n (within inside (decode n w)) ws

first_sound : (n : ℕ) (inside : Bool) (w : ℕ) (ws : List ℕ) → Sound n inside (w ∷ ws) → First n inside w ws
unfolding sound_prefix
first_sound n inside w ws h = at (faulty inside (ends n ws) (decode n w)) refl
  where
    at : (q : Bool) → faulty inside (ends n ws) (decode n w) ≡ q → First n inside w ws
    at true e = let z : 0 ≡ suc (length ws) = rw e at h in absurd (omega arith)
    at false e = let z : suc (sound_prefix n (within inside (decode n w)) ws) ≡ suc (length ws) = rw e at h in record { good = e; rest = omega arith }

-- ── a plain command ──
pub record Plain (n w : ℕ) (ws : List ℕ) : Type 0 where
  pub taken : items n (w ∷ ws) ≡ one (decode n w) ∷ items n ws
  pub rest : Sound n false ws
  pub counts : charged (decode n w) ≡ true

pub plain_first : (n w : ℕ) (ws : List ℕ) → Sound n false (w ∷ ws) → (decode n w ≡ instruction.Loop → ⊥) → Plain n w ws
unfolding parts
plain_first n w ws h other = at (decode n w) refl
  where
    f : First n false w ws
    f = first_sound n false w ws h

    opened : (i : Instruction) → decode n w ≡ i → (part i (parts n ws)).items ≡ one i ∷ items n ws → items n (w ∷ ws) ≡ one (decode n w) ∷ items n ws
    opened i e g = ap (λ (i : Instruction). (part i (parts n ws)).items) e ∙ g ∙ sym (ap (λ (i : Instruction). one i ∷ items n ws) e)

    at : (i : Instruction) → decode n w ≡ i → Plain n w ws
    at (instruction.Clear s) e = record { taken = opened _ e refl; rest = rw e at f.rest; counts = ap charged e }
    at (instruction.Set j v) e = record { taken = opened _ e refl; rest = rw e at f.rest; counts = ap charged e }
    at (instruction.Link c) e = record { taken = opened _ e refl; rest = rw e at f.rest; counts = ap charged e }
    at instruction.Loop e = absurd (other e)
    at instruction.End e = contradiction (sym (rw e at f.good))
    at instruction.Unknown e = contradiction (sym (rw e at f.good))

-- ── a loop: what stands inside it up to its end ──
record Inner (n : ℕ) (ws : List ℕ) : Type 0 where
  short : before_end n ws < length ws
  body : (parts n ws).body ≡ map (decode n) (take (before_end n ws) ws)
  beyond : (parts n ws).beyond ≡ items n (drop (suc (before_end n ws)) ws)
  rest : Sound n false (drop (suc (before_end n ws)) ws)
  counts : (j : ℕ) → j < before_end n ws → charged (command_at n ws j) ≡ true
  shuts : command_at n ws (before_end n ws) ≡ instruction.End

-- A plain command inside a loop, and what comes after it.
module _ (n w : ℕ) (ws : List ℕ) where
  -- A command that is kept in the body.
  abbrev Keeps : Type 0
  Keeps = ((parts n (w ∷ ws)).body ≡ decode n w ∷ (parts n ws).body) × ((parts n (w ∷ ws)).beyond ≡ (parts n ws).beyond)

  counts_more : charged (decode n w) ≡ true → Inner n ws → (j : ℕ) → j < suc (before_end n ws) → charged (command_at n (w ∷ ws) j) ≡ true
  counts_more c t zero h = c
  counts_more c t (suc j) h = t.counts j (omega arith)

  inner_more : is_end (decode n w) ≡ false → charged (decode n w) ≡ true → Keeps → Inner n ws → Inner n (w ∷ ws)
  unfolding before_end
  inner_more e c k t =
      let b : before_end n (w ∷ ws) ≡ suc (before_end n ws) = rw e in
      record {
        short = rw b (let s = t.short in omega arith);
        body = rw b (k.0 ∙ ap (λ (q : List Instruction). decode n w ∷ q) t.body);
        beyond = rw b (k.1 ∙ t.beyond);
        rest = rw b t.rest;
        counts = rw b (counts_more c t);
        shuts = rw b t.shuts;
      }

inner : (n : ℕ) (ws : List ℕ) → Sound n true ws → ends n ws ≡ true → Inner n ws
unfolding ends parts before_end
inner n [] s h = contradiction h
inner n (w ∷ ws) s h = at (decode n w) refl (λ s' h'. inner n ws s' h')
  where
    f : First n true w ws
    f = first_sound n true w ws s

    at : (i : Instruction) → decode n w ≡ i → (Sound n true ws → ends n ws ≡ true → Inner n ws) → Inner n (w ∷ ws)
    at (instruction.Clear s) e go = inner_more n w ws (rw e) (ap charged e) (rw e, rw e) (go (rw e at f.rest) (rw e at h))
    at (instruction.Set j v) e go = inner_more n w ws (rw e) (ap charged e) (rw e, rw e) (go (rw e at f.rest) (rw e at h))
    at (instruction.Link c) e go = inner_more n w ws (rw e) (ap charged e) (rw e, rw e) (go (rw e at f.rest) (rw e at h))
    at instruction.Loop e go = contradiction (sym (rw e at f.good))
    at instruction.End e go =
        let b : before_end n (w ∷ ws) ≡ 0 = rw e in
        record { short = rw b (omega arith); body = rw (b, e); beyond = rw (b, e); rest = rw b (rw e at f.rest); counts = rw b (λ j l. absurd (omega arith)); shuts = rw b e }
    at instruction.Unknown e go = contradiction (sym (rw e at f.good))

-- The loop that a program begins with: its commands, and what comes after its end.
pub record Opened (n w : ℕ) (ws : List ℕ) : Type 0 where
  pub short : before_end n ws < length ws
  pub taken : items n (w ∷ ws) ≡ loop (map (decode n) (take (before_end n ws) ws)) ∷ items n (drop (suc (before_end n ws)) ws)
  pub rest : Sound n false (drop (suc (before_end n ws)) ws)
  pub counts : (j : ℕ) → j < before_end n ws → charged (command_at n ws j) ≡ true
  pub shuts : command_at n ws (before_end n ws) ≡ instruction.End

pub loop_first : (n w : ℕ) (ws : List ℕ) → Sound n false (w ∷ ws) → decode n w ≡ instruction.Loop → Opened n w ws
unfolding parts
loop_first n w ws h e =
    let f = first_sound n false w ws h in
    let g : not (ends n ws) ≡ false = rw e at f.good in
    let t = inner n ws (rw e at f.rest) (not-false (ends n ws) g) in
    record {
      short = t.short;
      taken =
          ap (λ (i : Instruction). (part i (parts n ws)).items) e
          ∙ ap (λ (q : List Instruction). loop q ∷ (parts n ws).beyond) t.body
          ∙ ap (λ (q : List Item). loop (map (decode n) (take (before_end n ws) ws)) ∷ q) t.beyond;
      rest = t.rest;
      counts = t.counts;
      shuts = t.shuts;
    }
