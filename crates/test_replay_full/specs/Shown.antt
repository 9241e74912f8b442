-- How much the program shows of a line's sections: docs/SPECIFICATION.md, "Type rows", "Fields" and "Refusals".
use Rattle.std.specs.Prelude.{ℕ, zero, suc, List, length, Some, None}
use Rattle.refusal.specs.Guarded.{fault}
use Rattle.typedescriptor.specs.Steps.{stepped_rows}
use Rattle.field.specs.Fields.{field_step}

-- how many rows: those of at most 4,096 steps, and none if the segments are refused
unfoldable pub rows_shown : List ℕ → List ℕ → List ℕ → ℕ → ℕ
rows_shown image segments types start =
    elim (fault segments) [ None ↦ length (stepped_rows image segments types start 4096 0) | Some n ↦ 0 ]

-- where a walk over a fields section stands after the first step that gives no descriptor, or after `n` steps
unfoldable pub walk_end : List ℕ → ℕ → ℕ → ℕ → ℕ
walk_end fields start zero at = at
walk_end fields start (suc n) at =
    elim (field_step fields start at).found [
      | None ↦ (field_step fields start at).next
      | Some d ↦ walk_end fields start n (field_step fields start at).next
    ]
