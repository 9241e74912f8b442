use native.Mathlib.Omega.{arith}
use mathlib.Core.Path.{sym, ◌∙◌}
use borrow.Author.Tests.{not-true, not-false}
use Rattle.classtrailers.specs.Blocks.{block}
use Rattle.classtrailers.proofs.CallsLaws.{record_says, reached_start, reached_next, kind_absent, kind_stops, kind_there_lem}
use Rattle.classtrailers.proofs.iter.block_of_kind.Goals as goal

pub returns-then-not-has_block : goal.returns-then-not-has_block
unfolding block
returns-then-not-has_block c = kind_absent _ _ _ _ _ (sym c.has_block.ensures ∙ not-true _ c.if-not-has_block.true-raw)

pub loop-row-init : goal.loop-row-init
loop-row-init c = reached_start _ _ _ _

pub loop-row-preserved : goal.loop-row-preserved
loop-row-preserved c = reached_next _ _ _ _ _ _ _ c.loop-row.invariant c.in_ok-address.ensures

pub returns-in_err-address : goal.returns-in_err-address
unfolding block
returns-in_err-address c =
    c.from_residual.ensures
    ∙ kind_stops _ _ _ _ _ _ (reached_next _ _ _ _ _ _ _ c.loop-row.invariant c.in_err-address.ensures) (omega (arith, c.number_of-row-end.ensures))

pub returns-in_err-found : goal.returns-in_err-found
unfolding block
returns-in_err-found c =
    c.from_residual-in_err-found.ensures
    ∙ kind_there_lem _ _ _ _ _ _ _ _ (sym c.has_block.ensures ∙ not-false _ c.if-not-has_block.false-raw) c.loop-row.invariant (omega (arith, c.number_of-row-end.ensures)) (record_says _ _ _ _ _ c.in_err-found.ensures)

pub returns : goal.returns
unfolding block
returns c = kind_there_lem _ _ _ _ _ _ _ _ (sym c.has_block.ensures ∙ not-false _ c.if-not-has_block.false-raw) c.loop-row.invariant (omega (arith, c.number_of-row-end.ensures)) (record_says _ _ _ _ _ c.in_ok-found.ensures)
