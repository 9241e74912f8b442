-- `list::print_listing` meets its contract: the numbers stand at the start of their list, and the steps give every line.
use Rattle.std.proofs.Common.{replicate, sym, ap, ◌∙◌}
use Rattle.bundle_parts.specs.Parts.{segment_numbers_most}
use Rattle.bundle_parts.proofs.PartsLaws.{start_fits, start_lent}
use Rattle.refusal.specs.Guarded.{fault}
use Rattle.bundle_lines.specs.Printed.{pending_of, numbers_for}
use Rattle.bundle_lines.proofs.PrintsLaws.{numbers_accepted, all_lines}
use Rattle.list.proofs.print_listing.Goals as goal

pub slice_bounds-numbers-end : goal.slice_bounds-numbers-end
slice_bounds-numbers-end c =
    let n = c.segments-count in
    start_fits (numbers_for c.args.bytes.now (pending_of c.start-first.result)) (replicate segment_numbers_most 0) n.new.out n.result n.ensures.value n.ensures.out_after

pub print_lines-requires : goal.print_lines-requires
print_lines-requires c =
    let n = c.segments-count in
    numbers_accepted c.args.bytes.now (pending_of c.start-first.result) c.start-first.ensures
    ∙ ap fault (sym (start_lent (numbers_for c.args.bytes.now (pending_of c.start-first.result)) (replicate segment_numbers_most 0) n.new.out n.result n.ensures.value n.ensures.out_after))

pub returns : goal.returns
returns c =
    let n = c.segments-count in
    all_lines c.args.bytes.now (pending_of c.start-first.result) _ _ c.start-first.ensures
    (start_lent (numbers_for c.args.bytes.now (pending_of c.start-first.result)) (replicate segment_numbers_most 0) n.new.out n.result n.ensures.value n.ensures.out_after)
    c.print_lines.ensures
