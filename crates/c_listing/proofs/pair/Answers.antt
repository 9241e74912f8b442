-- `c_listing::pair` meets its contract.
use Rattle.std.proofs.Common.{refl}
use Rattle.c_listing.specs.Listing.{two_numbers}
use Rattle.c_listing.proofs.pair.Goals as goal

pub returns : goal.returns
unfolding two_numbers
returns c = rw (c.copy_from_slice-2.ensures.after, c.to_le_bytes-2.ensures, c.copy_from_slice.ensures.after, c.to_le_bytes.ensures) refl
