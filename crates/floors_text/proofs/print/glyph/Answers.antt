-- `glyph`: the test is the definition's.
use borrow.Author.Tests.{lt-ltb, le-ltb}
use mathlib.Core.Path.{refl}
use Rattle.floors_text.proofs.print.glyph.Goals as goal

pub returns-then-digit-lt10 : goal.returns-then-digit-lt10
returns-then-digit-lt10 c = rw (lt-ltb _ _ c.if-digit-lt10.true) refl

pub returns-else-digit-lt10 : goal.returns-else-digit-lt10
returns-else-digit-lt10 c = rw (le-ltb _ _ c.if-digit-lt10.false) refl
