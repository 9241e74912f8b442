-- `typedescriptor::descriptor::decode_type_descriptor` meets its contract: each `return` is a case of `descriptor`.
use Rattle.std.proofs.Common.{ap, ◌∙◌, arith}
use Rattle.util.proofs.AnswersLaws.{known}
use Rattle.typedescriptor.specs.Row.{descriptor_of}
use Rattle.typedescriptor.proofs.RowLaws.{no_header, no_slot, no_name, row_at}
use Rattle.typedescriptor.proofs.descriptor.decode_type_descriptor.Goals as goal

pub returns-then-header-lt20 : goal.returns-then-header-lt20
returns-then-header-lt20 c = no_header _ _ _ _ c.read_bytes-header.ensures (omega arith)

pub returns-then-descriptor_va-gt18446744073709551607 : goal.returns-then-descriptor_va-gt18446744073709551607
returns-then-descriptor_va-gt18446744073709551607 c = no_slot _ _ _ _ c.read_bytes-header.ensures (omega arith) (omega arith)

pub returns : goal.returns
returns c =
    row_at _ _ _ _ c.read_bytes-header.ensures _ c.pointer_in-name_va.ensures c.in_ok-name.name _ _ (known c.read_cstr.ensures c.in_ok-name.was)
    c.u32_at.ensures c.address_in.ensures (omega arith) (omega arith)

pub returns-in_err-name : goal.returns-in_err-name
returns-in_err-name c =
    ap (descriptor_of c.args.rt.now.image.now) c.from_residual.ensures
    ∙ no_name _ _ _ _ c.read_bytes-header.ensures _ c.pointer_in-name_va.ensures (known c.read_cstr.ensures c.in_err-name.was) (omega arith) (omega arith)
