-- proofs/main/Answers.antt
-- `main`: no answer of `floors` is above the output's 160,000 bytes.
use Rattle.std.proofs.Common.{◌≡◌, ◌≤◌, ℕ, List, length, sym, arith}
use Rattle.std.proofs.lemmas.List.{length-take-le}
use Rattle.floors_text.proofs.Whole.{answer_fits}
use Rattle.floors_text.specs.Text.{written_at, floors_of}
use Rattle.floors.proofs.main.Goals as goal

-- what was written lies within the output
within : (input output after : List ℕ) (r : ℕ) → length output ≡ 160000 → length after ≡ length output → written_at r after ≡ floors_of input output → r ≤ length after
within input output after r room kept e = let h = answer_fits input output after r e in omega arith

pub slice_bounds-output-end : goal.slice_bounds-output-end
slice_bounds-output-end c = within _ _ _ _ c.room-output.ensures c.floors-written.auto.output c.floors-written.ensures

pub slice_bounds-write_all-end : goal.slice_bounds-write_all-end
slice_bounds-write_all-end c =
    sym (length-take-le _ _ (within _ _ _ _ c.room-output.ensures c.floors-written.auto.output c.floors-written.ensures))
