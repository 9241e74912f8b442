-- What is certain by an image's first bytes: docs/CUT.md. A program of reads is certain for what arrived if none of its reads met the end
-- of that: no byte that is still missing changes its answer, or that it has none (`CertainLaws.certain-run`).
use Rattle.std.specs.Prelude.{ℕ, zero, suc, ◌+◌, List, [], ◌∷◌, Bool, true, false, ◌&&◌, length, take, drop, leb, Option, Some, None}
use Rattle.utf8.specs.Text.{until_nul}
use Rattle.segment.specs.Segments.{segments_of, file_offset}
use Rattle.util.specs.Cstr.{text_at}
use Rattle.runtime.specs.Reads.{Reads, done, nothing, bytes, text, text_offset}

-- whether there is a NUL among these bytes
unfoldable pub has_nul : List ℕ → Bool
has_nul [] = false
has_nul (zero ∷ s) = true
has_nul (suc b ∷ s) = has_nul s

-- a test of an answer; it passes if there is none
abbrev pub if_there : {A : Type 0} → Option A → (A → Bool) → Bool
if_there None test = true
if_there (Some a) test = test a

-- An address that is not in the file stays so. Bytes are certain if all of them arrived; a text, found or ill_formed, is certain if its NUL
-- arrived.
unfoldable pub certain : {A : Type 0} → List ℕ → List ℕ → Reads A → Bool
certain arrived segments (done a) = true
certain arrived segments nothing = true
certain arrived segments (bytes address n k) =
    if_there (file_offset (segments_of segments) address)
    (λ o. leb (o + n) (length arrived) && certain arrived segments (k (take n (drop o arrived))))
certain arrived segments (text address k) =
    if_there (text_offset segments address)
    (λ o. has_nul (drop o arrived) && if_there (text_at arrived o) (λ p. certain arrived segments (k p (until_nul (drop o arrived)))))
