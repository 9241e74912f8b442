use Rattle.std.proofs.Common.{◌≡◌, ◌-◌}
use Rattle.test_replay_full.specs.Shown.{walk_end}
use Rattle.test_replay_full.proofs.fields.walk_fields.Given as goal

abbrev pub invariant-loop : goal.invariant-loop
invariant-loop l =
    walk_end l.fields.body.now l.fields.vmaddr 4096 l.initial.walk.at ≡ walk_end l.fields.body.now l.fields.vmaddr (4096 - l.counter) l.walk.at
