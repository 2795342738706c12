-- The reply tells which answer of the reader it is, and which of an entry; a shut entry's reply is the reader's.
use Prim.Native.Nat.{ℕ, zero, suc}
use mathlib.Core.Path.{◌≡◌, refl, sym, ap, ◌∙◌}
use mathlib.Core.Bool.{false}
use mathlib.Core.List.{List}
use Rattle.std.specs.Prelude.{Option, Some, None, Ok, Err}
use Rattle.net.specs.Table.{Reply}
use Rattle.netfile_entry.specs.Entries.{entries, contents_size, entry_at}
use Rattle.netfile_entry.proofs.Opening.{a_fourth}
use Rattle.netfile.specs.Contents.{wrong_size, malformed_at, Contents, contents_of, contents_reply, entry_reply}
use Rattle.netfile.proofs.Reading.{first_shut, second_shut, third_shut, fourth_shut}

-- The answer of a number and two values.
abbrev contents_of_reply : ℕ → ℕ → ℕ → Contents
contents_of_reply zero v w = Ok (v, w)
contents_of_reply (suc n) v w = Err (malformed_at v)

abbrev contents_at : Reply → Contents
contents_at r = contents_of_reply r.number r.first r.second

contents_at_reply : (c : Contents) → contents_at (contents_reply c) ≡ c
contents_at_reply (Ok (q, d)) = refl
contents_at_reply (Err malformed) = refl

-- No two answers of the reader have one reply.
pub contents_reply_one_to_one : (c d : Contents) → contents_reply c ≡ contents_reply d → c ≡ d
contents_reply_one_to_one c d e = sym (contents_at_reply c) ∙ ap contents_at e ∙ contents_at_reply d

-- The entry of a number and two values.
abbrev entry_of_reply : ℕ → ℕ → ℕ → Option (ℕ × ℕ)
entry_of_reply zero a e = Some (a, e)
entry_of_reply (suc n) a e = None

abbrev entry_at_reply : Reply → Option (ℕ × ℕ)
entry_at_reply r = entry_of_reply r.number r.first r.second

entry_at_reply_lem : (n : ℕ) (c : Option (ℕ × ℕ)) → entry_at_reply (entry_reply n c) ≡ c
entry_at_reply_lem n (Some (a, e)) = refl
entry_at_reply_lem n None = refl

-- No two answers of an entry have one reply.
pub entry_reply_one_to_one : (n : ℕ) (c d : Option (ℕ × ℕ)) → entry_reply n c ≡ entry_reply n d → c ≡ d
entry_reply_one_to_one n c d e = sym (entry_at_reply_lem n c) ∙ ap entry_at_reply e ∙ entry_at_reply_lem n d

-- An entry that cannot be opened ends the reading with its own reply.
module _ (s : List ℕ) (z : wrong_size s ≡ false) where
  abbrev entry : ℕ → ℕ → Option (ℕ × ℕ)
  entry n from = entry_at (entries s) s n from

  pub first_reply : entry 0 (contents_size (entries s)) ≡ None → contents_reply (contents_of s) ≡ entry_reply 0 None
  first_reply e = ap contents_reply (first_shut s z _ refl _ refl e _ _ _)

  module _ {a d : ℕ} (e : entry 0 (contents_size (entries s)) ≡ Some (a, d)) where
    pub second_reply : entry 1 d ≡ None → contents_reply (contents_of s) ≡ entry_reply 1 None
    second_reply f = ap contents_reply (second_shut s z _ refl _ _ _ refl e _ refl f _ _ _)

    module _ {a' d' : ℕ} (f : entry 1 d ≡ Some (a', d')) where
      pub third_reply : entry 2 d' ≡ None → contents_reply (contents_of s) ≡ entry_reply 2 None
      third_reply g = ap contents_reply (third_shut s z _ refl _ _ _ refl e _ _ _ refl f _ refl g _ _ _)

      pub fourth_reply : {a'' d'' : ℕ} → entry 2 d' ≡ Some (a'', d'') → (entries s ≡ 3 → ⊥) → entry 3 d'' ≡ None → contents_reply (contents_of s) ≡ entry_reply 3 None
      fourth_reply {d'' = d''} g n h = ap contents_reply (fourth_shut s z _ refl _ _ _ refl e _ _ _ refl f _ _ _ refl g _ refl (sym (a_fourth (entries s) s d'' n) ∙ h) _ _ _)
