-- What a test on a callee's answer says of the test that the answer equals.
use mathlib.Core.Path.{◌≡◌, sym, ◌∙◌}
use mathlib.Core.Bool.{Bool, true, false}

pub held : {r t : Bool} → r ≡ t → r ≡ true → t ≡ true
held e h = sym e ∙ h

pub failed : {r t : Bool} → r ≡ t → r ≡ false → t ≡ false
failed e h = sym e ∙ h
