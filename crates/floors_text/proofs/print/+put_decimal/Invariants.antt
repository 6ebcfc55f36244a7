-- `put_decimal` calls itself as the definition does. The measure is the number.
use Rattle.floors_text.proofs.print.+put_decimal.Given as goal

abbrev pub decreases-put_decimal : goal.decreases-put_decimal
decreases-put_decimal l = l.n
