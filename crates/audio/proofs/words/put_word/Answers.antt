-- `put_word`: the eight bytes.
use mathlib.Core.Path.{ap, ◌∙◌}
use mathlib.Core.List.{List}
use Prim.Native.Nat.{ℕ}
use Rattle.audio.specs.Inner.{put}
use Rattle.audio.proofs.Numbers.{le_bytes}
use Rattle.audio.proofs.words.put_word.Goals as goal

pub returns : goal.returns
returns c =
    let a = c.args in
    c.put_bytes.ensures ∙ ap (λ (new : List ℕ). put a.bytes.now a.at new) (c.to_le_bytes.ensures ∙ le_bytes 8 a.w)
