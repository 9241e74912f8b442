-- `type_lines::lines::put_decimal` meets its contract. It calls itself for one digit fewer, so its measure is `left`.
use Rattle.type_lines.proofs.lines.+put_decimal.Given as goal

abbrev pub decreases-put_decimal : goal.decreases-put_decimal
decreases-put_decimal l = l.left
