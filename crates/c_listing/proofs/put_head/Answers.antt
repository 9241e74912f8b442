-- `c_listing::put_head` meets its contract: one pair after the other.
use Rattle.c_listing.proofs.ListingLaws.{head_put}
use Rattle.c_listing.proofs.put_head.Goals as goal

pub returns : goal.returns
returns c = head_put _ _ _ _ _ _ _ _ _ _ _ _ c.pair-first.ensures c.pair-second.ensures c.put-middle.ensures.value c.put-middle.ensures.buffer_after c.put.ensures.value c.put.ensures.buffer_after c.requires
