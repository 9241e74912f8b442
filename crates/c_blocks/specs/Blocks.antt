-- docs/SPECIFICATION.md, "Calls for C". Blocks as numbers: the number of the kind in the table's order, and what is recorded in
-- three numbers, filled up with zeros.
use Rattle.std.specs.Prelude.{ℕ, List, [], ◌∷◌, ◌++◌, not, eqb, Option, Some, None}
use Rattle.runtime.specs.Reads.{and_then, run}
use Rattle.classtrailers.specs.Blocks.{row_number, kind_numbered}
use Rattle.classtrailers.specs.declared.block.Block.{Block}
use Rattle.classtrailers.specs.declared.iter.BlockIter.{BlockIter}
use Rattle.classtrailers.specs.declared.iter.BlockStep.{BlockStep}
use Rattle.type_body.specs.Body.{body}
use Rattle.type_body.specs.Items.{trailers}
use Rattle.type_body.specs.declared.trailers.Start.{Start}
use Rattle.steps.specs.Blocks.{kind_from}
use Rattle.c_numbers.specs.Flags.{flag_number}
use Rattle.full_rows.specs.FullRows.{recorded_numbers}

-- what follows the descriptor with these flags at an address
abbrev pub start_at : List ℕ → List ℕ → ℕ → ℕ → Option Start
start_at image segments address flags = trailers address flags (run image segments (body address flags))

-- whether it is a class, the extra class flags, and where the blocks start
abbrev pub start_numbers : Option Start → List ℕ
start_numbers None = 0 ∷ (0 ∷ (0 ∷ (0 ∷ [])))
start_numbers (Some s) = 1 ∷ (flag_number s.trailing.is_class ∷ (s.trailing.extra ∷ (s.start ∷ [])))

-- a walk from its numbers; any number but 0 means a class
abbrev pub walk_at : ℕ → ℕ → ℕ → ℕ → ℕ → BlockIter
walk_at flags class extra row address =
    record { trailing = record { flags = flags; is_class = not (eqb class 0); extra = extra }; row = row; address = address }

abbrev pub block_numbers : Block → List ℕ
block_numbers b = row_number b.kind ∷ recorded_numbers b

-- a step: the block, and the walk's row and address from there on
abbrev pub block_step_numbers : Option BlockStep → List ℕ
block_step_numbers None = 0 ∷ (0 ∷ (0 ∷ (0 ∷ (0 ∷ (0 ∷ (0 ∷ []))))))
block_step_numbers (Some s) = 1 ∷ (block_numbers s.block ++ (s.next.row ∷ (s.next.address ∷ [])))

abbrev pub kind_block_numbers : Option Block → List ℕ
kind_block_numbers None = 0 ∷ (0 ∷ (0 ∷ (0 ∷ (0 ∷ []))))
kind_block_numbers (Some b) = 1 ∷ block_numbers b

-- the block of the kind with a number, for the descriptor at an address; there is none for a number that no kind has
abbrev pub block_numbered : List ℕ → List ℕ → Option Start → ℕ → Option Block
block_numbered image segments start number = and_then (kind_numbered number) (λ k. kind_from image segments k start)
