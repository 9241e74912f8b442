-- The joined name: docs/SPECIFICATION.md, "Joined names" and "Refusals".
use Rattle.std.specs.Prelude.{ℕ, List, [], ◌∷◌, ◌++◌, Bool, true, false, cond, length, ltb, Option, Some, None}
use Rattle.refusal.specs.Refusal.{Guarded, answered, refused}
use Rattle.runtime.specs.Reads.{run}
use Rattle.typedescriptor.specs.Row.{TypeRow}
use Rattle.parent.specs.Context.{Name, Context}
use Rattle.parent.specs.Chain.{contexts_most, header_at, chain}

-- a present name, even an empty one, and a dot
abbrev pub hop : Option Name → List ℕ
hop None = []
hop (Some n) = n.bytes ++ (46 ∷ [])

-- the hops of a chain, the outermost first
unfoldable pub hops : List Context → List ℕ
hops [] = []
hops (c ∷ cs) = hops cs ++ hop c.name

-- the joined name of a row: the hops of its first 256 contexts, and its own name
unfoldable pub qualified_name : List ℕ → List ℕ → TypeRow → List ℕ
qualified_name image segments row = hops (chain image segments contexts_most row.parent) ++ row.name_bytes

abbrev pub is_there : {A : Type 0} → Option A → Bool
is_there None = false
is_there (Some a) = true

-- whether a 257th context can be read
unfoldable pub too_deep : List ℕ → List ℕ → ℕ → Bool
too_deep image segments a = is_there (run image segments (header_at contexts_most a))

-- the name for a buffer of a length: refusal 4, then 3 if it is longer than the buffer
unfoldable pub name_answer : List ℕ → List ℕ → TypeRow → ℕ → Guarded (List ℕ)
name_answer image segments row size =
    cond (too_deep image segments row.parent) (refused 4)
    (cond (ltb size (length (qualified_name image segments row))) (refused 3) (answered (qualified_name image segments row)))
