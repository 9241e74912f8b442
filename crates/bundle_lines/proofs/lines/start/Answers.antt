-- `bundle_lines::lines::start` meets its contract.
use Rattle.std.proofs.Common.{ap, ◌∙◌}
use Rattle.util.proofs.AnswersLaws.{told}
use Rattle.refusal.specs.Refusal.{outcome}
use Rattle.bundle_lines.specs.Printed.{start_of, rows}
use Rattle.bundle_lines.proofs.lines.start.Goals as goal

pub returns-in-Ok : goal.returns-in-Ok
returns-in-Ok c = ap (rows c.in-Ok.layout) c.new.ensures ∙ ap start_of (told outcome c.accept_bundle.ensures c.in-Ok.is)

pub returns-in-Err : goal.returns-in-Err
returns-in-Err c = ap start_of (told outcome c.accept_bundle.ensures c.in-Err.is)
