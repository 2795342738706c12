-- The figures of a file are small: none is above the number of pairs of the largest net.
use Prim.Native.Nat.{ℕ, zero, suc, ◌+◌, ◌*◌, ◌≤◌, ◌<◌}
use mathlib.Core.Path.{◌≡◌, refl}
use mathlib.Core.Bool.{Bool, true, false, cond}
use mathlib.Core.List.{List}
use native.Mathlib.Omega.{arith}
use native.Mathlib.Nat.{mul-le-mul}
use native.Mathlib.Decide.{dec_lt}
use lib.Dec.{eqb}
use lib.ListN.{length, get_or, get_or-eq_default}
use Rattle.std.specs.Prelude.{Ok, Err}
use Rattle.theory.specs.Nets.{Net}
use Rattle.theory.specs.Origins.{chosen}
use Rattle.net.specs.Table.{check_net, check_plain}
use Rattle.net.specs.Table.{Checked}
use Rattle.net.proofs.NetCheck.{chosen_checked, plain_chosen}
use Rattle.netfile_numbers.specs.Bytes.{u32_at}
use Rattle.netfile_entry.specs.Entries.{entries, contents_size}
use Rattle.netfile.specs.Contents.{contents_of, stretch, Contents}
use Rattle.netfile.specs.Places.{words_start}
use Rattle.ask_text.specs.Text.{words_of}
use Rattle.figures_counts.specs.Counting.{figures}
use Rattle.figures_counts.proofs.Figures.{figures_right, objects_add, kinds_add}
use Rattle.figures.specs.Figured.{nothing, figured_by, figured_net, figured_plain}
use Rattle.figures.specs.declared.Figured.{Figured}
use Rattle.figures_file.specs.Files.{figured_bodies, figured_file}
use Rattle.figures_file.proofs.Whole.{file_bodies, file_malformed}
use Rattle.text_field.specs.Writing.{Wrote}
use Rattle.fleet_text.specs.Sums.{Small, plus}
use Rattle.fleet_text.specs.Fleet.{file_line}
use Rattle.fleet_text.proofs.Adding.{nothing_sums, sums_more}

none_small : Small nothing
none_small = sums_more 0 1 nothing (omega arith) nothing_sums

net_small : (o k : ℕ) (ws : List ℕ) → Net o k ws → Small (figures o k ws)
net_small o k ws net = record { eight = long; few = few }
  where
    long : length (figures o k ws) ≡ 8
    long = (figures_right o k ws net).eight

    few : (i : ℕ) → get_or (figures o k ws) i 0 ≤ 1 * 1048576
    few i = at i (dec_lt i 8)
      where
        h : o + k ≤ 1024
        h = net.few

        objects : o ≤ 1024
        objects = omega (arith, h)

        kinds : k ≤ 1024
        kinds = omega (arith, h)

        p : o * k ≤ 1024 * 1024
        p = mul-le-mul objects kinds

        q : k * k ≤ 1024 * 1024
        q = mul-le-mul kinds kinds

        at : (i : ℕ) → Dec (i < 8) → get_or (figures o k ws) i 0 ≤ 1 * 1048576
        at zero d = omega (arith, p, objects_add o k ws)
        at (suc zero) d = omega (arith, p, objects_add o k ws)
        at (suc (suc zero)) d = omega (arith, p, objects_add o k ws)
        at (suc (suc (suc zero))) d = omega (arith, p, objects_add o k ws)
        at (suc (suc (suc (suc zero)))) d = omega (arith, q, kinds_add o k ws)
        at (suc (suc (suc (suc (suc zero))))) d = omega (arith, q, kinds_add o k ws)
        at (suc (suc (suc (suc (suc (suc zero)))))) d = omega (arith, q, kinds_add o k ws)
        at (suc (suc (suc (suc (suc (suc (suc zero))))))) d = omega (arith, q, kinds_add o k ws)
        at (suc (suc (suc (suc (suc (suc (suc (suc i)))))))) (yes d) = absurd (omega arith)
        at (suc (suc (suc (suc (suc (suc (suc (suc i)))))))) (no d) = rw (get_or-eq_default (figures o k ws) 0 {n = suc (suc (suc (suc (suc (suc (suc (suc i)))))))} (omega (arith, long))) (omega arith)

-- By what the check of a net gave.
by_small : (o k : ℕ) (ws : List ℕ) (set : ℕ) (c : Checked) → ((n : ℕ) → c ≡ Ok n → check_net o k ws set ≡ Ok n) → Small (figured_by o k ws set c).counts
unfolding figured_by
by_small o k ws set (Ok n) f = net_small o k (chosen set ws) (chosen_checked o k ws set (f n refl)).2
by_small o k ws set (Err r) f = none_small

bodies_small : (nodes words origins : List ℕ) → Small (figured_bodies nodes words origins).counts
bodies_small nodes words origins = at (eqb (length origins) 0)
  where
    at : (b : Bool) → Small (cond b (figured_plain (u32_at nodes 0) (u32_at nodes 4) (words_of words)) (figured_net (u32_at nodes 0) (u32_at nodes 4) (words_of words) (u32_at origins 0))).counts
    at true = by_small (u32_at nodes 0) (u32_at nodes 4) (words_of words) 1 (check_plain (u32_at nodes 0) (u32_at nodes 4) (words_of words))
        (λ n e. (plain_chosen (u32_at nodes 0) (u32_at nodes 4) (words_of words) e 1 (omega arith) refl).0)
    at false = by_small (u32_at nodes 0) (u32_at nodes 4) (words_of words) (u32_at origins 0) (check_net (u32_at nodes 0) (u32_at nodes 4) (words_of words) (u32_at origins 0)) (λ n e. e)

-- What any file adds.
pub file_small : (s : List ℕ) → Small (figured_file s).counts
file_small s = at (contents_of s) refl
  where
    at : (c : Contents) → contents_of s ≡ c → Small (figured_file s).counts
    at (Ok (q, d)) e = rw (file_bodies s q d e) (bodies_small (stretch s (contents_size (entries s)) (words_start (entries s) s)) (stretch s (words_start (entries s) s) q) (stretch s d (length s)))
    at (Err m) e = rw (file_malformed s m.place e) none_small

-- ── in the terms of the code ──
module _ (s : List ℕ) {r : Figured} (e : r ≡ figured_file s) where
  pub counted_small : Small r.counts
  counted_small = rw e (file_small s)

  pub file_turned : (sums l l' : List ℕ) {size : ℕ} {next : List ℕ} → Wrote (file_line r.number r.counts) l l' size → next ≡ plus sums r.counts
      → Wrote (file_line (figured_file s).number (figured_file s).counts) l l' size × (next ≡ plus sums (figured_file s).counts)
  file_turned sums l l' w n = (rw e at w, rw e at n)
