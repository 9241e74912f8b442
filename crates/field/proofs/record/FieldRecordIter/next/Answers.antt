-- `field::record::FieldRecordIter::next` meets its contract: each `return` is a case of `recordStep`.
use Rattle.std.proofs.Common.{arith, rules}
use Rattle.vtable.proofs.EntriesLaws.{slots_below, no_entry, an_entry}
use Rattle.field.specs.Records.{record_layout}
use Rattle.field.proofs.RecordsLaws.{record_end, record_gives}
use Rattle.field.proofs.record.FieldRecordIter.next.Goals as goal

pub returns-then-self : goal.returns-then-self
returns-then-self c = record_end _ _ _ (omega arith)

pub returns-then-is_empty : goal.returns-then-is_empty
returns-then-is_empty c = record_gives _ _ _ _ (no_entry _ _ (record_layout _) _ _ (omega arith) _ c.entry_bytes-bytes.ensures (search rules)) (omega arith)

pub field_record-requires : goal.field_record-requires
field_record-requires c = slots_below _ _ (record_layout _) _ _ (omega arith) _ c.entry_bytes-bytes.ensures (λ z. search rules) _ c.entry_address-address.ensures

pub returns : goal.returns
returns c = record_gives _ _ _ _ (an_entry _ _ (record_layout _) _ _ (omega arith) _ c.entry_bytes-bytes.ensures (λ z. search rules) _ _ c.entry_address-address.ensures c.field_record.ensures) (omega arith)
