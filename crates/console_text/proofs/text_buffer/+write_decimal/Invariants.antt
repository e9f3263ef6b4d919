-- The number falls to its tenth.
use Rattle.console_text.proofs.text_buffer.+write_decimal.Given as goal

abbrev pub decreases-write_decimal : goal.decreases-write_decimal
decreases-write_decimal l = l.number
