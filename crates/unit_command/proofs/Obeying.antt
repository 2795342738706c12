-- What a command does, in the terms of the code.
use Prim.Native.Nat.{ℕ, zero, suc, ◌+◌, ◌-◌, ◌<◌}
use mathlib.Core.Path.{◌≡◌, refl, sym, ap, ◌∙◌}
use mathlib.Core.Bool.{Bool, false, not}
use mathlib.Core.List.{List, [], ◌∷◌, ◌++◌, map}
use native.Mathlib.Omega.{arith}
use native.Mathlib.Numerals.{add-one}
use lib.Bits.{bit_and}
use lib.ListN.{length, get_or, set, take, drop}
use Rattle.theory_laws.proofs.Booleans.{not_not}
use Rattle.theory.specs.Marks.{mark, command}
use Rattle.theory.specs.Scans.{same}
use Rattle.theory.specs.declared.Command.{Command}
use Rattle.theory.specs.Growth.{Set}
use Rattle.theory.proofs.machine.Rounds.{set_same}
use Rattle.unit_program.specs.declared.Instruction.{Instruction}
use Rattle.unit_program.specs.declared.Instruction.TheVariants as instruction
use Rattle.unit_program.specs.Runs.{does, sets}

-- A flag that says whether marks were set is the test.
pub flag_test : {f : Bool} {m m' : List ℕ} → Set f m m' → f ≡ not (same m m')
flag_test {f} s = sym (ap not (set_same s) ∙ not_not f)

-- ── clear: a loop that has come to byte i, of the bytes l at the beginning ──
abbrev pub kept : ℕ → List ℕ → List ℕ
kept s l = map (λ b. bit_and b (255 - s)) l

module _ (s : ℕ) where
  keep_next : (l : List ℕ) (i : ℕ) → i < length l
      → set (kept s (take i l) ++ drop i l) i (bit_and (get_or (kept s (take i l) ++ drop i l) i 0) (255 - s)) ≡ kept s (take (suc i) l) ++ drop (suc i) l
  keep_next [] i h = absurd (omega arith)
  keep_next (b ∷ l) zero h = refl
  keep_next (b ∷ l) (suc i) h = ap (λ (q : List ℕ). bit_and b (255 - s) ∷ q) (keep_next l i (omega arith))

  pub keep_go : (l m : List ℕ) (i : ℕ) → i < length l → m ≡ kept s (take i l) ++ drop i l → set m i (bit_and (get_or m i 0) (255 - s)) ≡ kept s (take (i + 1) l) ++ drop (i + 1) l
  keep_go l m i h e = rw (add-one i, e) (keep_next l i h)

-- ── each command, read as i by the code ──
module _ (ws : List ℕ) (m : List ℕ) {d i : Instruction} (e : i ≡ d) where
  pub does_clear : {s : ℕ} {m' : List ℕ} → i ≡ instruction.Clear s → m' ≡ kept s m → (m' ≡ does ws d m) × (false ≡ sets ws d m)
  does_clear {s} f g = let t : d ≡ instruction.Clear s = sym e ∙ f in rw t (g, refl)

  pub does_set : {j v : ℕ} {m' : List ℕ} {r : Bool} → i ≡ instruction.Set j v → m' ≡ mark j v m → Set r m m' → (m' ≡ does ws d m) × (r ≡ sets ws d m)
  does_set {j} {v} f g h = let t : d ≡ instruction.Set j v = sym e ∙ f in rw t (g, flag_test h ∙ ap (λ (q : List ℕ). not (same m q)) g)

  pub does_link : {c : Command} {m' : List ℕ} {r : Bool} → i ≡ instruction.Link c → m' ≡ command c ws m → Set r m m' → (m' ≡ does ws d m) × (r ≡ sets ws d m)
  does_link {c} f g h = let t : d ≡ instruction.Link c = sym e ∙ f in rw t (g, flag_test h ∙ ap (λ (q : List ℕ). not (same m q)) g)

  pub does_loop : i ≡ instruction.Loop → (m ≡ does ws d m) × (false ≡ sets ws d m)
  does_loop f = let t : d ≡ instruction.Loop = sym e ∙ f in rw t (refl, refl)

  pub does_end : i ≡ instruction.End → (m ≡ does ws d m) × (false ≡ sets ws d m)
  does_end f = let t : d ≡ instruction.End = sym e ∙ f in rw t (refl, refl)

  pub does_unknown : i ≡ instruction.Unknown → (m ≡ does ws d m) × (false ≡ sets ws d m)
  does_unknown f = let t : d ≡ instruction.Unknown = sym e ∙ f in rw t (refl, refl)
