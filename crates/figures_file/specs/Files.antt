-- What a net file gives ([11]): the figures of its net, or the number of its refusal.
use Rattle.std.specs.Prelude.{ℕ, cond, List, eqb, length, Err}
use Rattle.netfile_numbers.specs.Bytes.{u32_at}
use Rattle.netfile.specs.Contents.{contents_reply, entries_of, stretch, malformed_at}
use Rattle.ask_text.specs.Text.{words_of}
use Rattle.figures.specs.Figured.{refused, figured_net, figured_plain}
use Rattle.figures.specs.declared.Figured.{Figured}

-- The figures by the bodies of a file: without a set the words are plain, with one they have origins.
abbrev pub figured_bodies : List ℕ → List ℕ → List ℕ → Figured
figured_bodies nodes words origins =
    cond (eqb (length origins) 0) (figured_plain (u32_at nodes 0) (u32_at nodes 4) (words_of words))
    (figured_net (u32_at nodes 0) (u32_at nodes 4) (words_of words) (u32_at origins 0))

-- The figures of a file, whose bodies are the stretches between each entry's start and end; a malformed one has the reader's number. The questions play no part.
unfoldable pub figured_file : List ℕ → Figured
figured_file s =
    entries_of (λ place. refused (contents_reply (Err (malformed_at place))).number)
    (λ a e b f c g d h. figured_bodies (stretch s a e) (stretch s b f) (stretch s d h)) s
