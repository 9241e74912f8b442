-- `qualified_name::name::put_hops` meets its contract. The invariant: what is put, and then the hops of the names before `k`, are the hops of all.
use Rattle.qualified_name.proofs.WalkLaws.{Putting}
use Rattle.qualified_name.proofs.name.put_hops.Given as goal

abbrev pub invariant-loop-k : goal.invariant-loop-k
invariant-loop-k l = Putting l.image l.names l.count l.initial.buffer l.at l.k l.end l.buffer
