-- `field::iter::FieldIter::next` meets its contract: each `return` is a case of `fieldStep`.
use Rattle.std.specs.Prelude.{Some}
use Rattle.std.proofs.Common.{◌+◌, ◌%◌, ◌^◌, refl, ap, ◌∙◌, arith, rules}
use Rattle.vtable.proofs.EntriesLaws.{product}
use Rattle.field.proofs.FieldsLaws.{not_headed, is_headed, no_header, overruns, passes}
use Rattle.field.proofs.iter.FieldIter.next.Goals as goal
use Rattle.field.proofs.iter.FieldIter.next.Goals.{then-fields-lt-HEADER_SIZE-via-then-fields-lt-HEADER_SIZE, then-fields-lt-HEADER_SIZE-via-else-fields-lt-HEADER_SIZE+then-fields-at}

pub returns-then-fields-lt-HEADER_SIZE : goal.returns-then-fields-lt-HEADER_SIZE
returns-then-fields-lt-HEADER_SIZE c =
    no_header _ _ _ (elim c.then-fields-lt-HEADER_SIZE.branch [
      | then-fields-lt-HEADER_SIZE-via-then-fields-lt-HEADER_SIZE w ↦ omega arith
      | then-fields-lt-HEADER_SIZE-via-else-fields-lt-HEADER_SIZE+then-fields-at w ↦ omega arith
    ])

pub overflow_mul-records : goal.overflow_mul-records
overflow_mul-records c = record { fits = product (search rules) (search rules) }

pub returns-then-fields-at-2 : goal.returns-then-fields-at-2
returns-then-fields-at-2 c = overruns _ _ _ (omega arith) _ c.part-header.ensures _ _ c.u32_at.ensures c.u16_at.ensures (omega arith)

pub returns-then-address-gt18446744073709551611 : goal.returns-then-address-gt18446744073709551611
returns-then-address-gt18446744073709551611 c = passes _ _ _ (omega arith) _ c.part-header.ensures _ _ c.u32_at.ensures c.u16_at.ensures _ _ refl (not_headed ((c.args.section.vmaddr + c.args.self.at) % 2 ^ 64) _ (omega arith)) (omega arith)

pub returns : goal.returns
returns c = passes _ _ _ (omega arith) _ c.part-header.ensures _ _ c.u32_at.ensures c.u16_at.ensures _ _ refl (ap Some c.field_descriptor.ensures ∙ is_headed _ _ (omega arith)) (omega arith)
