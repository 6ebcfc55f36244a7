-- The 48 taps of the detector as bits, read out of the running Rust: `oracle taps` prints them, a phase to a line. The newest sample meets a phase's first tap.
use Rattle.std.specs.Prelude.{List, [], ◌∷◌, Float}
use Rattle.arithmetic.specs.Number.{bits}

unfoldable pub phase0 : List Float
phase0 =
    bits 0x8000_0000_0000_0000 ∷ bits 0x3f5c_900f_f3dc_b722 ∷ bits 0xbf80_b67a_e0ab_7571 ∷ bits 0x3f96_688d_41ca_2583 ∷ bits 0xbfa9_91cb_4799_a8ba ∷ bits 0x3fc0_dac1_65a2_d3e0
    ∷ bits 0x3fef_22be_559a_ea40 ∷ bits 0xbfb9_4667_a825_2e68 ∷ bits 0x3fa4_d7cb_cd25_d0d5 ∷ bits 0xbf91_f3ca_a532_e2ac ∷ bits 0x3f78_97d3_1b2b_6846 ∷ bits 0xbf4e_e31b_ac34_ce0b ∷ []

unfoldable pub phase1 : List Float
phase1 =
    bits 0xbf2e_8ed6_4137_0b6c ∷ bits 0x3f7c_0307_5baa_bc6d ∷ bits 0xbf9a_98af_d035_becb ∷ bits 0x3fb0_b7c8_17ca_4fe4 ∷ bits 0xbfc3_0d48_830b_ab7b ∷ bits 0x3fdd_44a6_40fb_f4e3
    ∷ bits 0x3fe8_d530_d7f5_a136 ∷ bits 0xbfc7_d466_ce70_cb22 ∷ bits 0x3fb4_894e_e50b_287a ∷ bits 0xbfa1_20ca_587e_1c3b ∷ bits 0x3f84_f8ad_ada1_fae3 ∷ bits 0xbf4f_d62a_b99d_a6db ∷ []

unfoldable pub phase2 : List Float
phase2 =
    bits 0xbf4f_d62a_b99d_a6bf ∷ bits 0x3f84_f8ad_ada1_fada ∷ bits 0xbfa1_20ca_587e_1c3b ∷ bits 0x3fb4_894e_e50b_2879 ∷ bits 0xbfc7_d466_ce70_cb23 ∷ bits 0x3fe8_d530_d7f5_a136
    ∷ bits 0x3fdd_44a6_40fb_f4e3 ∷ bits 0xbfc3_0d48_830b_ab7c ∷ bits 0x3fb0_b7c8_17ca_4fe4 ∷ bits 0xbf9a_98af_d035_bed2 ∷ bits 0x3f7c_0307_5baa_bc65 ∷ bits 0xbf2e_8ed6_4137_0bd7 ∷ []

unfoldable pub phase3 : List Float
phase3 =
    bits 0xbf4e_e31b_ac34_cdff ∷ bits 0x3f78_97d3_1b2b_683d ∷ bits 0xbf91_f3ca_a532_e2ac ∷ bits 0x3fa4_d7cb_cd25_d0d4 ∷ bits 0xbfb9_4667_a825_2e67 ∷ bits 0x3fef_22be_559a_ea40
    ∷ bits 0x3fc0_dac1_65a2_d3e1 ∷ bits 0xbfa9_91cb_4799_a8bc ∷ bits 0x3f96_688d_41ca_2583 ∷ bits 0xbf80_b67a_e0ab_7576 ∷ bits 0x3f5c_900f_f3dc_b72f ∷ bits 0x8000_0000_0000_0000 ∷ []

-- factor 4, 12 taps
unfoldable pub taps : List (List Float)
taps = phase0 ∷ phase1 ∷ phase2 ∷ phase3 ∷ []
