-- What a flag's number says about the call's numbers.
use Rattle.std.specs.Prelude.{ℕ, ◌≡◌, [], ◌∷◌}
use Rattle.std.proofs.Common.{ap}
use Rattle.c_numbers.specs.Flags.{flag_number}
use Rattle.full_rows.specs.declared.rows.Given.{Given}
use Rattle.c_full_rows.specs.FullRows.{given_numbers}

pub flag_known : (g : Given) (n : ℕ) → n ≡ flag_number g.all → g.records ∷ (g.next ∷ (n ∷ [])) ≡ given_numbers g
flag_known g n e = ap (λ (k : ℕ). g.records ∷ (g.next ∷ (k ∷ []))) e
