-- `list::print_lines` meets its contract. The invariant: the lines that are left are the others.
use Rattle.bundle_lines.specs.Printed.{pending_of}
use Rattle.bundle_lines.proofs.PrintsLaws.{Going}
use Rattle.list.proofs.print_lines.Given as goal

abbrev pub invariant-loop-lines : goal.invariant-loop-lines
invariant-loop-lines l = Going l.bytes l.segments (pending_of l.initial.left) l.lines (pending_of l.left)
