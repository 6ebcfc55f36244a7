-- Module 5 of document 01, `memory.rs`: the byte count, and a cap.
use Rattle.std.specs.Prelude.{ℕ, ◌+◌, ◌-◌, ◌*◌, Bool, cond, ◌&&◌, [], ◌∷◌, Option, Some, None, Result, Ok, Err, nat_le}
use Rattle.arithmetic.specs.Number.{largest}
use Rattle.arithmetic.specs.Reply.{Reply, finished, refused, count}
use Rattle.settings.specs.Derived.{row_of}
use Rattle.settings.specs.declared.memory.OverCap.{OverCap}

-- 8 × (channels × look + 2 × (look + 1) + 2 × L + 60 × channels)
abbrev pub bytes_of : ℕ → ℕ → ℕ
bytes_of channels look = 8 * (channels * look + 2 * (look + 1) + 2 * row_of look + 60 * channels)

-- channels 1 to 8 and look 11 to 4,096
abbrev pub counted : ℕ → ℕ → Bool
counted channels look = nat_le 1 channels && nat_le channels 8 && nat_le 11 look && nat_le look 4096

-- the bytes needed; outside the range in which they are counted, the largest number
abbrev pub needed : ℕ → ℕ → ℕ
needed channels look = cond (counted channels look) (bytes_of channels look) largest

-- 7 of the bank's bytes, 15 of the stores': over the cap, with needed and cap. "No cap means no limit"
abbrev pub cap_judged : ℕ → Option ℕ → Result (Unit {0}) OverCap
cap_judged need None = Ok tt
cap_judged need (Some cap) = cond (nat_le need cap) (Ok tt) (Err (record { needed = need; cap = cap }))

abbrev pub cap_reply : ℕ → Result (Unit {0}) OverCap → Reply
cap_reply number (Ok u) = finished []
cap_reply number (Err over) = refused number (count over.needed ∷ count over.cap ∷ [])

-- what is left of a cap once so many bytes are taken, which fit it
abbrev pub left_of : ℕ → Option ℕ → Option ℕ
left_of bytes None = None
left_of bytes (Some cap) = Some (cap - bytes)
