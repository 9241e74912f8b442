-- `bundle_rules::rules::broken_rule` meets its contract. The invariant: the walk from here on finds what the whole walk finds.
use Prim.Native.Nat.{◌-◌}
use lib.ListN.{length}
use Rattle.bundle_rules.proofs.RuleLaws.{RulesWalked}
use Rattle.bundle_rules.proofs.rules.broken_rule.Given as goal

abbrev pub invariant-loop-at : goal.invariant-loop-at
invariant-loop-at l = RulesWalked l.bytes l.image l.last l.at

abbrev pub decreases-loop-at : goal.decreases-loop-at
decreases-loop-at l = length l.bytes - l.at
