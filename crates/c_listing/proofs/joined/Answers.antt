-- `c_listing::joined` meets its contract.
use Rattle.qualified_name.proofs.NameLaws.{name_near}
use Rattle.c_listing.proofs.joined.Goals as goal

pub returns : goal.returns
returns c =
    let q = c.qualified_name_near.ensures in
    let all = name_near _ _ _ (c.around_parent.ensures c.requires) _ _ _ _ _ q.result_value q.buffer_after in
    record { result_value = all.0; name_after = all.1 }
