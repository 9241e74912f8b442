-- `parent::header::read_context` meets its contract.
use Rattle.std.proofs.Common.{ap, ◌∙◌}
use Rattle.util.proofs.AnswersLaws.{told}
use Rattle.parent.specs.Context.{header_of, context_of}
use Rattle.parent.proofs.ContextLaws.{unnamed, is_named, no_context, context_at_lem}
use Rattle.parent.proofs.header.read_context.Goals as goal

pub returns-then-has_name : goal.returns-then-has_name
returns-then-has_name c =
    context_at_lem _ _ _ _ _ (told (header_of _) c.read_header.ensures c.in_ok-header.was)
    (is_named _ _ _ _ _ c.has_name.ensures c.if-has_name.true _ c.read_context_name-name.ensures.result_value)

pub returns-else-has_name : goal.returns-else-has_name
returns-else-has_name c =
    context_at_lem _ _ _ _ _ (told (header_of _) c.read_header.ensures c.in_ok-header.was)
    (unnamed _ _ _ _ _ c.has_name.ensures c.if-has_name.false)

pub returns-in_err-header : goal.returns-in_err-header
returns-in_err-header c =
    ap (context_of c.args.rt.now.image.now) c.from_residual.ensures ∙ no_context _ _ _ (told (header_of _) c.read_header.ensures c.in_err-header.was)
