-- `put_hex` calls itself as the definition does. The measure is the number of digits.
use Rattle.floors_text.proofs.print.+put_hex.Given as goal

abbrev pub decreases-put_hex : goal.decreases-put_hex
decreases-put_hex l = l.digits
