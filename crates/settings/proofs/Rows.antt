-- Starred rows of document 01 that concern the settings, each computed. What setup replies to looks and caps: claims/proofs/Rows.antt.
use Rattle.std.proofs.Common.{◌≡◌, refl}
use lib.Ieee.{mul, of_int, of_bits}
use Rattle.arithmetic.specs.Number.{bits}
use Rattle.settings.specs.Derived.{look_of, row_of}
use Rattle.settings.specs.Memory.{needed}

-- 48,000, 1.5 ms, stereo: look 72, L 61, 4,256 bytes
pub default_look : look_of (bits 0x3ff8_0000_0000_0000) 48000 ≡ 72
unfolding mul of_int of_bits
default_look = refl

pub default_row : row_of 72 ≡ 61
default_row = refl

pub default_bytes : needed 2 72 ≡ 4256
default_bytes = refl

-- at 48,000: 0.22 ms gives look 11, 85.34 gives 4,096
pub shortest : look_of (bits 0x3fcc_28f5_c28f_5c29) 48000 ≡ 11
unfolding mul of_int of_bits
shortest = refl

pub longest : look_of (bits 0x4055_55c2_8f5c_28f6) 48000 ≡ 4096
unfolding mul of_int of_bits
longest = refl

-- 0.21 gives 10, 85.36 gives 4,097
pub too_short : look_of (bits 0x3fca_e147_ae14_7ae1) 48000 ≡ 10
unfolding mul of_int of_bits
too_short = refl

pub too_long : look_of (bits 0x4055_570a_3d70_a3d7) 48000 ≡ 4097
unfolding mul of_int of_bits
too_long = refl
