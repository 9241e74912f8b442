-- What is written for the answer of a call of `certainty`.
use Rattle.std.specs.Prelude.{ℕ, ◌≡◌, List, Bool}
use Rattle.refusal.specs.Refusal.{Guarded, mapped}
use Rattle.c_rows.specs.Numbers.{Tells}
use Rattle.c_fields.specs.Certain.{certain_number}

pub tells_certain : (a g : Guarded Bool) (out out' : List ℕ) (r : ℕ) → a ≡ g → Tells (mapped certain_number a) out r out' → Tells (mapped certain_number g) out r out'
tells_certain a g out out' r e t = rw e at t
