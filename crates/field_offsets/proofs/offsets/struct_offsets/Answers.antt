-- `field_offsets::offsets::struct_offsets` meets its contract: each `return` is a case of `offsets_place`.
use native.Mathlib.Omega.{arith}
use mathlib.Core.Path.{◌∙◌}
use Rattle.field_offsets.proofs.OffsetsLaws.{no_offsets, offsets_placed}
use Rattle.field_offsets.proofs.offsets.struct_offsets.Goals as goal

pub returns-then-count-eq0 : goal.returns-then-count-eq0
returns-then-count-eq0 c = no_offsets _ _ _ _ _ (λ w. omega (arith, w.count, w.word, w.metadata, c.then-count-eq0.either))

pub returns-in_err-vector_va : goal.returns-in_err-vector_va
returns-in_err-vector_va c = c.from_residual.ensures ∙ no_offsets _ _ _ _ _ (λ w. omega (arith, w.below, c.in_err-vector_va.ensures))

pub returns-in_err-place : goal.returns-in_err-place
returns-in_err-place c =
    c.from_residual-in_err-place.ensures
    ∙ offsets_placed _ _ _ _ _ (record { count = omega arith; word = omega arith; metadata = omega arith; below = c.in_ok-vector_va.ensures.0 }) _ _ c.in_ok-vector_va.ensures.1 c.in_err-place.ensures

pub returns : goal.returns
returns c = offsets_placed _ _ _ _ _ (record { count = omega arith; word = omega arith; metadata = omega arith; below = c.in_ok-vector_va.ensures.0 }) _ _ c.in_ok-vector_va.ensures.1 c.in_ok-place.ensures
