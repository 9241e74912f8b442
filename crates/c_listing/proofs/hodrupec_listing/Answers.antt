-- `c_listing::hodrupec_listing` meets its contract.
use Rattle.util.proofs.AnswersLaws.{told}
use Rattle.refusal.specs.Guarded.{fault_of}
use Rattle.c_listing.specs.Listing.{listing_numbers, listing_bytes}
use Rattle.c_rows.proofs.NumbersLaws.{tells_accepted, tells_refused, writes_accepted, keeps_refused}
use Rattle.c_listing.proofs.hodrupec_listing.Goals as goal

pub returns-in-Err : goal.returns-in-Err
returns-in-Err c =
    let f = told fault_of c.find_fault.ensures c.in-Err.is in
    record { tells = tells_refused _ _ listing_numbers _ _ f c.from.ensures; buffer_after = keeps_refused _ _ listing_bytes _ f }

pub returns : goal.returns
returns c =
    let f = told fault_of c.find_fault.ensures c.in_default.is in
    record { tells = tells_accepted _ _ listing_numbers _ _ c.put_rows.ensures.value f; buffer_after = writes_accepted _ _ listing_bytes _ _ c.put_rows.ensures.buffer_after f }
