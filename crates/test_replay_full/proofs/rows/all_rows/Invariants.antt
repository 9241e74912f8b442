use Rattle.std.proofs.Common.{◌<◌}
use Rattle.test_replay_full.proofs.ShownLaws.{Showing, Whole}
use Rattle.test_replay_full.proofs.rows.all_rows.Given as goal

abbrev pub invariant-loop-rows : goal.invariant-loop-rows
invariant-loop-rows l =
    Showing l.rt.image.now l.rt.segments.now l.types.body.now l.types.vmaddr l.rows l.walk.slot × (0 < l.rows → Whole l.rt.image.now l.rt.segments.now l.types.body.now l.types.vmaddr)
