-- `qualified_name::name::qualified_name` meets its contract: the mapping around the first context is true.
use Rattle.segment.proofs.MappingLaws.{empty_mapped}
use Rattle.qualified_name.proofs.NameLaws.{name_near}
use Rattle.qualified_name.proofs.name.qualified_name.Goals as goal

pub returns : goal.returns
returns c =
    let q = c.qualified_name_near.ensures in
    (let all = name_near _ _ _ (c.around_parent.ensures (empty_mapped _)) _ _ _ _ _ q.result_value q.buffer_after in (record { result_value = all.0; buffer_after = all.1 }))
