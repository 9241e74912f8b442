-- `qualified_name::name::write_hops` meets its contract. It calls itself with fewer contexts allowed, so its measure is `left`.
use Rattle.qualified_name.proofs.name.+write_hops.Given as goal

abbrev pub decreases-write_hops : goal.decreases-write_hops
decreases-write_hops l = l.left
