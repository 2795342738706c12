-- What the parts of a file are: one, which is the whole text, or one for each question of a body.
use Prim.Native.Nat.{ℕ, ◌/◌, ◌≤◌}
use mathlib.Core.Path.{◌≡◌, refl}
use mathlib.Core.Bool.{Bool, true, false, cond}
use mathlib.Core.List.{List}
use native.Mathlib.Omega.{arith}
use lib.Dec.{eqb}
use lib.ListN.{length, length-take, length-drop}
use Rattle.std.specs.Prelude.{Ok, Err}
use Rattle.net.specs.Table.{check_net, check_plain}
use Rattle.net.specs.Table.{Checked}
use Rattle.netfile_numbers.specs.Bytes.{u32_at}
use Rattle.netfile_entry.specs.Entries.{entries, contents_size}
use Rattle.netfile.specs.Contents.{contents_of, stretch, Contents}
use Rattle.netfile.specs.Places.{words_start}
use Rattle.netfile.proofs.Places.{says_place}
use Rattle.netfile.proofs.Stretches.{stretches}
use Rattle.ask_text.specs.Text.{words_of, file_report}
use Rattle.why_text.specs.Text.{questions_text, net_why, bodies_why, why_of}
use Rattle.why_text.specs.Turns.{last_part, question_part, net_part, bodies_part, part_of}

-- A file has one part, or one for each question of a body, of which there are at most 8,192.
pub data Seen (s : List ℕ) : Type 0 where
  one : (text : List ℕ) → ((i : ℕ) → part_of s i ≡ last_part text) → why_of s ≡ text → Seen s
  each : (told : Bool) (o k : ℕ) (ws : List ℕ) (set : ℕ) (b : List ℕ) → length b / 4 ≤ 8192 → ((i : ℕ) → part_of s i ≡ question_part told o k ws set b i)
      → why_of s ≡ questions_text told o k ws set (length b / 4) b → Seen s

module _ (s : List ℕ) where
  -- By what the check of a net gave.
  by_check_lem : (told : Bool) (o k : ℕ) (ws : List ℕ) (set : ℕ) (b : List ℕ) (c : Checked) → length b / 4 ≤ 8192 → ((i : ℕ) → part_of s i ≡ net_part told o k ws set b i c)
      → why_of s ≡ net_why told o k ws set b c → Seen s
  unfolding net_part net_why
  by_check_lem told o k ws set b (Ok n) h e f = each told o k ws set b h e f
  by_check_lem told o k ws set b (Err r) h e f = one _ e f

  -- By the bodies.
  by_bodies : (nodes words questions origins : List ℕ) → length questions / 4 ≤ 8192 → ((i : ℕ) → part_of s i ≡ bodies_part nodes words questions origins i)
      → why_of s ≡ bodies_why nodes words questions origins → Seen s
  by_bodies nodes words questions origins h = at (eqb (length origins) 0)
    where
      at : (plain : Bool)
          → ((i : ℕ) → part_of s i ≡ cond plain
          (net_part false (u32_at nodes 0) (u32_at nodes 4) (words_of words) 1 questions i (check_plain (u32_at nodes 0) (u32_at nodes 4) (words_of words)))
          (net_part true (u32_at nodes 0) (u32_at nodes 4) (words_of words) (u32_at origins 0) questions i (check_net (u32_at nodes 0) (u32_at nodes 4) (words_of words) (u32_at origins 0))))
          → why_of s ≡ cond plain
          (net_why false (u32_at nodes 0) (u32_at nodes 4) (words_of words) 1 questions (check_plain (u32_at nodes 0) (u32_at nodes 4) (words_of words)))
          (net_why true (u32_at nodes 0) (u32_at nodes 4) (words_of words) (u32_at origins 0) questions (check_net (u32_at nodes 0) (u32_at nodes 4) (words_of words) (u32_at origins 0)))
          → Seen s
      at true = by_check_lem false _ _ _ _ questions _ h
      at false = by_check_lem true _ _ _ _ questions _ h

  -- By the contents.
  by_contents : (c : Contents) → contents_of s ≡ c → Seen s
  unfolding part_of why_of
  by_contents (Err m) e = one (file_report m.place) (λ i. says_place s m.place e _ _ _) (says_place s m.place e _ _ _)
  by_contents (Ok (q, d)) e =
      let t = stretches s q d e in
      by_bodies (stretch s (contents_size (entries s)) (words_start (entries s) s)) (stretch s (words_start (entries s) s) q) (stretch s q d) (stretch s d (length s))
      (simp (length-take, length-drop) (omega (arith, t.limit, t.end))) (λ i. t.says _ _ _) (t.says _ _ _)

pub file_seen : (s : List ℕ) → Seen s
file_seen s = by_contents s (contents_of s) refl
