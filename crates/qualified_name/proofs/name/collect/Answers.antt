use borrow.Author.Rules.{rules}
use native.Mathlib.Omega.{arith}
use mathlib.Core.Path.{refl}
use Rattle.util.proofs.AnswersLaws.{told, case}
use Rattle.parent.specs.Context.{header_of, name_read, Inside}
use Rattle.parent.proofs.ContextLaws.{unnamed, is_named, no_context, context_at_lem}
use Rattle.qualified_name.proofs.WalkLaws.{no_block, block_ends, block_full, block_deep, block_unnamed, block_named}
use Rattle.qualified_name.proofs.name.collect.Goals as goal

pub loop-count-init : goal.loop-count-init
loop-count-init c = (omega arith, no_block _ _ _ _ _ _ (omega arith))

pub returns-then-allowed-eq0 : goal.returns-then-allowed-eq0
returns-then-allowed-eq0 c =
    (refl, block_deep _ _ _ _ _ _ _ _ _ _ c.loop-count.invariant.1 _ (context_at_lem _ _ _ _ _ (told (header_of _) c.read_header.ensures c.in-Some.is) refl) c.if-allowed-eq0.true)

pub overflow_add-name : goal.overflow_add-name
overflow_add-name c =
    omega (arith, case (Inside _) c.read_context_name.ensures.inside c.in-Some-read_context_name.is, c.well_formed)

pub loop-count-preserved-in-Some-read_context_name : goal.loop-count-preserved-in-Some-read_context_name
loop-count-preserved-in-Some-read_context_name c = (
  search rules,
  block_named _ _ _ _ _ _ _ _ _ _ c.loop-count.invariant.1 _ _ (context_at_lem _ _ _ _ _ (told (header_of _) c.read_header.ensures c.in-Some.is)
      (is_named _ _ _ _ _ c.has_name.ensures c.if-has_name.true _ (told (name_read _) c.read_context_name.ensures.result_value c.in-Some-read_context_name.is))) _ c.saturating_add-room.ensures
      (case (Inside _) c.read_context_name.ensures.inside c.in-Some-read_context_name.is) (omega arith) (omega arith) (omega arith),
)

pub loop-count-preserved-in_default-read_context_name : goal.loop-count-preserved-in_default-read_context_name
loop-count-preserved-in_default-read_context_name c = (
  search rules,
  block_unnamed _ _ _ _ _ _ _ _ _ _ c.loop-count.invariant.1 _ (context_at_lem _ _ _ _ _ (told (header_of _) c.read_header.ensures c.in-Some.is)
      (is_named _ _ _ _ _ c.has_name.ensures c.if-has_name.true _ (told (name_read _) c.read_context_name.ensures.result_value c.in_default-read_context_name.is))) (omega arith),
)

pub loop-count-preserved : goal.loop-count-preserved
loop-count-preserved c = (
  search rules,
  block_unnamed _ _ _ _ _ _ _ _ _ _ c.loop-count.invariant.1 _ (context_at_lem _ _ _ _ _ (told (header_of _) c.read_header.ensures c.in-Some.is)
      (unnamed _ _ _ _ _ c.has_name.ensures c.if-has_name.false)) (omega arith),
)

pub returns-in_default : goal.returns-in_default
returns-in_default c = block_ends _ _ _ _ _ _ _ _ _ _ c.loop-count.invariant.1 (no_context _ _ _ (told (header_of _) c.read_header.ensures c.in_default.is))

pub returns : goal.returns
returns c = block_full _ _ _ _ _ _ _ _ _ _ c.loop-count.invariant.1 (omega arith)
