-- The table of house weights as bits, read out of the running Rust: `oracle house` prints them, a stretch after the other, and the gate's comparison holds these lists to it. The rates, looks and places are House.antt's.
use Rattle.std.specs.Prelude.{ℕ, List, [], ◌∷◌, ◌++◌, map, Float}
use Rattle.arithmetic.specs.Number.{bits}

-- 44,100, look 66: 55
unfoldable pub at44100 : List ℕ
at44100 =
    0x3f1d_6f1d_7dab_c9b6 ∷ 0x3f3d_576c_f34c_5eb6 ∷ 0x3f50_6b0a_d819_28ed ∷ 0x3f5c_f943_142a_69ad ∷ 0x3f66_6c0c_1fc2_f59f ∷ 0x3f6f_ea39_56c0_9a16 ∷ 0x3f75_6c4c_cc94_0998 ∷ 0x3f7b_89fd_fa2d_e068
    ∷ 0x3f81_1d3f_d8fd_f086 ∷ 0x3f84_b424_6608_3023 ∷ 0x3f88_7e1e_67c3_9ed9 ∷ 0x3f8c_6efb_2cda_c790 ∷ 0x3f90_3d05_6a0f_0a55 ∷ 0x3f92_4924_9249_2491 ∷ 0x3f94_5543_ba83_3ece ∷ 0x3f96_5acb_8e24_e55b
    ∷ 0x3f98_5339_f0b0_79b6 ∷ 0x3f9a_3836_f18e_3111 ∷ 0x3f9c_03a9_3813_50df ∷ 0x3f9d_afc9_a606_d108 ∷ 0x3f9f_3735_f16d_46bd ∷ 0x3fa0_4a80_fcdd_1aef ∷ 0x3fa0_e263_d04c_f537 ∷ 0x3fa1_615a_79a7_d144
    ∷ 0x3fa1_c5cc_3b88_5b4a ∷ 0x3fa2_0e75_b862_8bd4 ∷ 0x3fa2_3a6d_038a_4ead ∷ 0x3fa2_4924_9249_2492 ∷ 0x3fa2_3a6d_038a_4ead ∷ 0x3fa2_0e75_b862_8bd4 ∷ 0x3fa1_c5cc_3b88_5b4a ∷ 0x3fa1_615a_79a7_d144
    ∷ 0x3fa0_e263_d04c_f537 ∷ 0x3fa0_4a80_fcdd_1aef ∷ 0x3f9f_3735_f16d_46be ∷ 0x3f9d_afc9_a606_d10a ∷ 0x3f9c_03a9_3813_50e1 ∷ 0x3f9a_3836_f18e_3112 ∷ 0x3f98_5339_f0b0_79b6 ∷ 0x3f96_5acb_8e24_e55c
    ∷ 0x3f94_5543_ba83_3ed0 ∷ 0x3f92_4924_9249_2493 ∷ 0x3f90_3d05_6a0f_0a55 ∷ 0x3f8c_6efb_2cda_c79c ∷ 0x3f88_7e1e_67c3_9ede ∷ 0x3f84_b424_6608_3025 ∷ 0x3f81_1d3f_d8fd_f089 ∷ 0x3f7b_89fd_fa2d_e06d
    ∷ 0x3f75_6c4c_cc94_099d ∷ 0x3f6f_ea39_56c0_9a1a ∷ 0x3f66_6c0c_1fc2_f5a8 ∷ 0x3f5c_f943_142a_699a ∷ 0x3f50_6b0a_d819_28f6 ∷ 0x3f3d_576c_f34c_5eda ∷ 0x3f1d_6f1d_7dab_c9b6 ∷ []

-- 48,000, look 72: 61
unfoldable pub at48000 : List ℕ
at48000 =
    0x3f15_b173_1cb5_2ce7 ∷ 0x3f35_a334_0395_394a ∷ 0x3f48_3cf6_eb36_ea94 ∷ 0x3f55_6a82_5fad_634a ∷ 0x3f60_9a3a_d1b2_cdde ∷ 0x3f67_aeae_b0a6_ca56 ∷ 0x3f6f_e003_a7fa_baa0 ∷ 0x3f74_8c5a_1c87_09fb
    ∷ 0x3f79_a043_8a22_79a4 ∷ 0x3f7f_1e67_5da5_cd2c ∷ 0x3f82_7c2b_e561_c8fe ∷ 0x3f85_8f5a_efa6_e51f ∷ 0x3f88_c0ac_f1f9_0981 ∷ 0x3f8c_07be_e62e_a335 ∷ 0x3f8f_5bf4_a3a5_c2bb ∷ 0x3f91_5a47_beb1_3fa9
    ∷ 0x3f93_0462_9d6c_cf6d ∷ 0x3f94_a7eb_9787_9c46 ∷ 0x3f96_4094_98b0_ae77 ∷ 0x3f97_ca2c_1dd3_3c87 ∷ 0x3f99_40a8_391a_adbd ∷ 0x3f9a_a031_2dfb_829c ∷ 0x3f9b_e52b_8962_5e87 ∷ 0x3f9d_0c41_9b84_c9b3
    ∷ 0x3f9e_126c_3a6f_47bd ∷ 0x3f9e_f4fa_b64d_c74b ∷ 0x3f9f_b199_ea89_4ad3 ∷ 0x3fa0_232d_2c95_34d9 ∷ 0x3fa0_58da_a03a_e611 ∷ 0x3fa0_7948_4eb3_b5ed ∷ 0x3fa0_8421_0842_1084 ∷ 0x3fa0_7948_4eb3_b5ed
    ∷ 0x3fa0_58da_a03a_e611 ∷ 0x3fa0_232d_2c95_34d9 ∷ 0x3f9f_b199_ea89_4ad4 ∷ 0x3f9e_f4fa_b64d_c74b ∷ 0x3f9e_126c_3a6f_47bd ∷ 0x3f9d_0c41_9b84_c9b4 ∷ 0x3f9b_e52b_8962_5e89 ∷ 0x3f9a_a031_2dfb_829d
    ∷ 0x3f99_40a8_391a_adbd ∷ 0x3f97_ca2c_1dd3_3c86 ∷ 0x3f96_4094_98b0_ae79 ∷ 0x3f94_a7eb_9787_9c4a ∷ 0x3f93_0462_9d6c_cf6f ∷ 0x3f91_5a47_beb1_3fad ∷ 0x3f8f_5bf4_a3a5_c2b9 ∷ 0x3f8c_07be_e62e_a335
    ∷ 0x3f88_c0ac_f1f9_0985 ∷ 0x3f85_8f5a_efa6_e51f ∷ 0x3f82_7c2b_e561_c904 ∷ 0x3f7f_1e67_5da5_cd2c ∷ 0x3f79_a043_8a22_79ad ∷ 0x3f74_8c5a_1c87_09fd ∷ 0x3f6f_e003_a7fa_ba9c ∷ 0x3f67_aeae_b0a6_ca56
    ∷ 0x3f60_9a3a_d1b2_cde7 ∷ 0x3f55_6a82_5fad_634a ∷ 0x3f48_3cf6_eb36_eaa4 ∷ 0x3f35_a334_0395_398c ∷ 0x3f15_b173_1cb5_2ce7 ∷ []

-- 96,000, look 144: 133
unfoldable pub at96000 : List ℕ
at96000 =
    0x3ee1_3393_d9b4_fa45 ∷ 0x3f01_3128_5445_ff0b ∷ 0x3f13_52c4_72ef_7dda ∷ 0x3f21_277c_f79c_60d6 ∷ 0x3f2a_c262_e8db_d7c3 ∷ 0x3f33_3a56_2946_defc ∷ 0x3f3a_1be2_185a_0dac ∷ 0x3f41_00fa_fa8d_ad0b
    ∷ 0x3f45_740f_eb25_3150 ∷ 0x3f4a_64ae_db26_5482 ∷ 0x3f4f_d010_2250_548a ∷ 0x3f52_d993_81b4_f80b ∷ 0x3f56_0551_b1ce_4282 ∷ 0x3f59_6979_d3dc_051f ∷ 0x3f5d_0423_5b29_a8f1 ∷ 0x3f60_69a3_8769_d02a
    ∷ 0x3f62_6a60_16fb_e360 ∷ 0x3f64_8326_d242_0b8d ∷ 0x3f66_b2c9_a7fa_f891 ∷ 0x3f68_f80d_a9a9_970d ∷ 0x3f6b_51ab_bcce_d99b ∷ 0x3f6d_be51_52fd_057a ∷ 0x3f70_1e50_942e_7630 ∷ 0x3f71_659a_041c_ee20
    ∷ 0x3f72_b44c_cb92_d565 ∷ 0x3f74_09ac_9121_8d6c ∷ 0x3f75_64f9_39a0_fae8 ∷ 0x3f76_c56f_544a_c6cb ∷ 0x3f78_2a48_88b5_fd5b ∷ 0x3f79_92bc_0675_2742 ∷ 0x3f7a_fdfe_f618_0c83 ∷ 0x3f7c_6b44_eb51_8950
    ∷ 0x3f7d_d9c0_5801_386a ∷ 0x3f7f_48a2_ffe0_3665 ∷ 0x3f80_5b8f_3647_f2bf ∷ 0x3f81_1232_30e4_b125 ∷ 0x3f81_c7d3_a8b6_23c6 ∷ 0x3f82_7c0d_6795_b8b9 ∷ 0x3f83_2e7a_01cb_5402 ∷ 0x3f83_deb5_0f20_39f2
    ∷ 0x3f84_8c5b_635f_f0b1 ∷ 0x3f85_370b_4627_4cb5 ∷ 0x3f85_de64_a9e2_4056 ∷ 0x3f86_8209_61d9_7c4e ∷ 0x3f87_219d_5731_7608 ∷ 0x3f87_bcc6_bcbd_0100 ∷ 0x3f88_532e_4186_51a4 ∷ 0x3f88_e47f_41f1_f941
    ∷ 0x3f89_7067_f760_3484 ∷ 0x3f89_f699_a631_be8f ∷ 0x3f8a_76c8_ca16_435c ∷ 0x3f8a_f0ad_408b_824b ∷ 0x3f8b_6402_7175_36c3 ∷ 0x3f8b_d087_75b6_ef16 ∷ 0x3f8c_35ff_3bba_1865 ∷ 0x3f8c_9430_a9cb_b21f
    ∷ 0x3f8c_eae6_be3e_521f ∷ 0x3f8d_39f0_ad3e_6452 ∷ 0x3f8d_8121_fc47_dc96 ∷ 0x3f8d_c052_9b2d_e6fa ∷ 0x3f8d_f75e_faa6_806f ∷ 0x3f8e_2628_204d_4808 ∷ 0x3f8e_4c93_b812_45e3 ∷ 0x3f8e_6a8c_230a_d86b
    ∷ 0x3f8e_8000_839c_7168 ∷ 0x3f8e_8ce4_c6fa_4a28 ∷ 0x3f8e_9131_abf0_b767 ∷ 0x3f8e_8ce4_c6fa_4a28 ∷ 0x3f8e_8000_839c_7168 ∷ 0x3f8e_6a8c_230a_d86b ∷ 0x3f8e_4c93_b812_45e4 ∷ 0x3f8e_2628_204d_4808
    ∷ 0x3f8d_f75e_faa6_8070 ∷ 0x3f8d_c052_9b2d_e6fa ∷ 0x3f8d_8121_fc47_dc97 ∷ 0x3f8d_39f0_ad3e_6453 ∷ 0x3f8c_eae6_be3e_5220 ∷ 0x3f8c_9430_a9cb_b21f ∷ 0x3f8c_35ff_3bba_1865 ∷ 0x3f8b_d087_75b6_ef17
    ∷ 0x3f8b_6402_7175_36c4 ∷ 0x3f8a_f0ad_408b_824b ∷ 0x3f8a_76c8_ca16_435c ∷ 0x3f89_f699_a631_be8e ∷ 0x3f89_7067_f760_3484 ∷ 0x3f88_e47f_41f1_f943 ∷ 0x3f88_532e_4186_51a4 ∷ 0x3f87_bcc6_bcbd_0103
    ∷ 0x3f87_219d_5731_7608 ∷ 0x3f86_8209_61d9_7c51 ∷ 0x3f85_de64_a9e2_4056 ∷ 0x3f85_370b_4627_4cb5 ∷ 0x3f84_8c5b_635f_f0b4 ∷ 0x3f83_deb5_0f20_39f2 ∷ 0x3f83_2e7a_01cb_5402 ∷ 0x3f82_7c0d_6795_b8bc
    ∷ 0x3f81_c7d3_a8b6_23c6 ∷ 0x3f81_1232_30e4_b126 ∷ 0x3f80_5b8f_3647_f2be ∷ 0x3f7f_48a2_ffe0_3665 ∷ 0x3f7d_d9c0_5801_386c ∷ 0x3f7c_6b44_eb51_8956 ∷ 0x3f7a_fdfe_f618_0c85 ∷ 0x3f79_92bc_0675_273f
    ∷ 0x3f78_2a48_88b5_fd59 ∷ 0x3f76_c56f_544a_c6cc ∷ 0x3f75_64f9_39a0_faee ∷ 0x3f74_09ac_9121_8d72 ∷ 0x3f72_b44c_cb92_d567 ∷ 0x3f71_659a_041c_ee1f ∷ 0x3f70_1e50_942e_7630 ∷ 0x3f6d_be51_52fd_0582
    ∷ 0x3f6b_51ab_bcce_d9a4 ∷ 0x3f68_f80d_a9a9_971b ∷ 0x3f66_b2c9_a7fa_f88d ∷ 0x3f64_8326_d242_0b8b ∷ 0x3f62_6a60_16fb_e361 ∷ 0x3f60_69a3_8769_d030 ∷ 0x3f5d_0423_5b29_a900 ∷ 0x3f59_6979_d3dc_0522
    ∷ 0x3f56_0551_b1ce_427a ∷ 0x3f52_d993_81b4_f80f ∷ 0x3f4f_d010_2250_5491 ∷ 0x3f4a_64ae_db26_5491 ∷ 0x3f45_740f_eb25_3167 ∷ 0x3f41_00fa_fa8d_ad13 ∷ 0x3f3a_1be2_185a_0d9d ∷ 0x3f33_3a56_2946_defc
    ∷ 0x3f2a_c262_e8db_d7c3 ∷ 0x3f21_277c_f79c_60f5 ∷ 0x3f13_52c4_72ef_7dda ∷ 0x3f01_3128_5445_ff0b ∷ 0x3ee1_3393_d9b4_fa45 ∷ []

-- 192,000, look 288: 277
unfoldable pub at192000 : List ℕ
at192000 =
    0x3eae_d3a1_50e3_917a ∷ 0x3ece_d29f_5422_ce41 ∷ 0x3ee1_5587_cacd_f7b3 ∷ 0x3eee_ce97_a497_6acd ∷ 0x3ef8_0f0a_2f0f_9ed5 ∷ 0x3f01_506e_9ee6_a4d3 ∷ 0x3f07_8db1_9560_0d91 ∷ 0x3f0e_be7d_1d44_7c11
    ∷ 0x3f13_70f0_4033_8c6b ∷ 0x3f17_fb65_a7cb_e4b4 ∷ 0x3f1c_fe06_c321_9420 ∷ 0x3f21_3c15_ec8c_f1e3 ∷ 0x3f24_348e_c7db_e1d4 ∷ 0x3f27_680a_820a_d249 ∷ 0x3f2a_d61d_f233_ad73 ∷ 0x3f2e_7e56_4600_52ea
    ∷ 0x3f31_301c_8857_2c0c ∷ 0x3f33_3da2_2d88_a74c ∷ 0x3f35_6777_5a48_bc90 ∷ 0x3f37_ad53_a292_5ab8 ∷ 0x3f3a_0eea_f01f_a10c ∷ 0x3f3c_8bed_8c5c_f308 ∷ 0x3f3f_2408_2ad5_6fb8 ∷ 0x3f40_eb71_fa0b_b804
    ∷ 0x3f42_5213_4887_cf99 ∷ 0x3f43_c5b9_1b6c_9897 ∷ 0x3f45_4632_d980_d5e6 ∷ 0x3f46_d34e_3c1f_53db ∷ 0x3f48_6cd7_55c9_efed ∷ 0x3f4a_1298_98f3_ebb9 ∷ 0x3f4b_c45a_df02_a7cf ∷ 0x3f4d_81e5_6f83_dbe5
    ∷ 0x3f4f_4afe_0798_5b1a ∷ 0x3f50_8fb4_70c9_35fd ∷ 0x3f51_7f74_5e63_5a94 ∷ 0x3f52_749f_72c7_5c85 ∷ 0x3f53_6f15_9ebd_ea38 ∷ 0x3f54_6eb6_21dc_d6c9 ∷ 0x3f55_735f_8ecf_7d72 ∷ 0x3f56_7cef_cfb5_c16c
    ∷ 0x3f57_8b44_2a99_180b ∷ 0x3f58_9e39_45f7_07c4 ∷ 0x3f59_b5ab_2d60_8435 ∷ 0x3f5a_d175_562d_8c5b ∷ 0x3f5b_f172_a444_6da6 ∷ 0x3f5d_157d_6ef4_0bd8 ∷ 0x3f5e_3d6f_85e0_8b67 ∷ 0x3f5f_6922_3601_b95e
    ∷ 0x3f60_4c37_2759_44d6 ∷ 0x3f60_e596_1368_8134 ∷ 0x3f61_8099_d0f6_f44b ∷ 0x3f62_1d2e_1ac5_c058 ∷ 0x3f62_bb3e_7735_59af ∷ 0x3f63_5ab6_3af2_f29c ∷ 0x3f63_fb80_8bac_66d2 ∷ 0x3f64_9d88_62ca_4c46
    ∷ 0x3f65_40b8_902f_ce0d ∷ 0x3f65_e4fb_bcff_f50c ∷ 0x3f66_8a3c_6e68_01fa ∷ 0x3f67_3065_086e_7b31 ∷ 0x3f67_d75f_d0c6_9029 ∷ 0x3f68_7f16_f1a7_742a ∷ 0x3f69_2774_7ca7_512a ∷ 0x3f69_d062_6d99_72f1
    ∷ 0x3f6a_79ca_ad6f_4ae5 ∷ 0x3f6b_2397_151b_ebde ∷ 0x3f6b_cdb1_7079_9d4a ∷ 0x3f6c_7803_8131_24f0 ∷ 0x3f6d_2277_01a2_65c0 ∷ 0x3f6d_ccf5_a7cd_f29b ∷ 0x3f6e_7769_283f_336b ∷ 0x3f6f_21bb_38f6_bb13
    ∷ 0x3f6f_cbd5_9454_6c7f ∷ 0x3f70_3ad0_fe00_86ba ∷ 0x3f70_8f85_1deb_72b5 ∷ 0x3f70_e3fc_1664_8399 ∷ 0x3f71_382a_dbe4_7219 ∷ 0x3f71_8c06_6c54_e41a ∷ 0x3f71_df83_d080_ee95 ∷ 0x3f72_3298_1d84_2b30
    ∷ 0x3f72_8538_7638_31a8 ∷ 0x3f72_d75a_0ca0_4527 ∷ 0x3f73_28f2_2353_060b ∷ 0x3f73_79f6_0ee1_f8c5 ∷ 0x3f73_ca5b_373e_b2e0 ∷ 0x3f74_1a17_191d_7f55 ∷ 0x3f74_691f_4755_4c02 ∷ 0x3f74_b769_6c3c_b207
    ∷ 0x3f75_04eb_4b03_eb93 ∷ 0x3f75_519a_c10b_89c3 ∷ 0x3f75_9d6d_c737_bdd7 ∷ 0x3f75_e85a_7340_0955 ∷ 0x3f76_3256_f8fb_2938 ∷ 0x3f76_7b59_aba7_10c5 ∷ 0x3f76_c358_ff2c_c917 ∷ 0x3f77_0a4b_8960_0b21
    ∷ 0x3f77_5028_033a_6a3c ∷ 0x3f77_94e5_4a11_e62b ∷ 0x3f77_d87a_60ca_bbd4 ∷ 0x3f78_1ade_7104_4cd1 ∷ 0x3f78_5c08_cc40_f67b ∷ 0x3f78_9bf0_ed08_b1a0 ∷ 0x3f78_da8e_7806_550c ∷ 0x3f79_17d9_3d1f_558a
    ∷ 0x3f79_53c9_3885_deb0 ∷ 0x3f79_8e56_93c5_20cb ∷ 0x3f79_c779_a6c7_b0b2 ∷ 0x3f79_ff2a_f8d7_d734 ∷ 0x3f7a_3563_4199_aeb6 ∷ 0x3f7a_6a1b_69fe_ee31 ∷ 0x3f7a_9d4c_8d34_41b4 ∷ 0x3f7a_ceef_f988_1171
    ∷ 0x3f7a_feff_314a_991b ∷ 0x3f7b_2d73_eba7_323b ∷ 0x3f7b_5a48_1576_b52e ∷ 0x3f7b_8575_d20a_d532 ∷ 0x3f7b_aef7_7bf2_5cfe ∷ 0x3f7b_d6c7_a5b6_321c ∷ 0x3f7b_fce1_1a8f_0683 ∷ 0x3f7c_213e_df13_a064
    ∷ 0x3f7c_43dc_31df_a1ba ∷ 0x3f7c_64b4_8c32_b96d ∷ 0x3f7c_83c3_a288_2998 ∷ 0x3f7c_a105_6526_8ec2 ∷ 0x3f7c_bc76_00a7_d59b ∷ 0x3f7c_d611_de79_4d20 ∷ 0x3f7c_edd5_a553_c49f ∷ 0x3f7d_03be_39ab_a5de
    ∷ 0x3f7d_17c8_be18_fc9b ∷ 0x3f7d_29f2_93b7_5dfd ∷ 0x3f7d_3a39_5a7d_a336 ∷ 0x3f7d_489a_f18d_6c13 ∷ 0x3f7d_5515_777a_5ee5 ∷ 0x3f7d_5fa7_4a89_1c90 ∷ 0x3f7d_684f_08e5_e079 ∷ 0x3f7d_6f0b_90d2_c532
    ∷ 0x3f7d_73dc_00cd_a7d4 ∷ 0x3f7d_76bf_b7ad_a512 ∷ 0x3f7d_77b6_54b8_2c2e ∷ 0x3f7d_76bf_b7ad_a512 ∷ 0x3f7d_73dc_00cd_a7d4 ∷ 0x3f7d_6f0b_90d2_c532 ∷ 0x3f7d_684f_08e5_e079 ∷ 0x3f7d_5fa7_4a89_1c90
    ∷ 0x3f7d_5515_777a_5ee5 ∷ 0x3f7d_489a_f18d_6c13 ∷ 0x3f7d_3a39_5a7d_a336 ∷ 0x3f7d_29f2_93b7_5dfd ∷ 0x3f7d_17c8_be18_fc9c ∷ 0x3f7d_03be_39ab_a5de ∷ 0x3f7c_edd5_a553_c4a0 ∷ 0x3f7c_d611_de79_4d20
    ∷ 0x3f7c_bc76_00a7_d59b ∷ 0x3f7c_a105_6526_8ec4 ∷ 0x3f7c_83c3_a288_2998 ∷ 0x3f7c_64b4_8c32_b96e ∷ 0x3f7c_43dc_31df_a1bb ∷ 0x3f7c_213e_df13_a065 ∷ 0x3f7b_fce1_1a8f_0683 ∷ 0x3f7b_d6c7_a5b6_321e
    ∷ 0x3f7b_aef7_7bf2_5cff ∷ 0x3f7b_8575_d20a_d533 ∷ 0x3f7b_5a48_1576_b52f ∷ 0x3f7b_2d73_eba7_323c ∷ 0x3f7a_feff_314a_991c ∷ 0x3f7a_ceef_f988_1171 ∷ 0x3f7a_9d4c_8d34_41b4 ∷ 0x3f7a_6a1b_69fe_ee31
    ∷ 0x3f7a_3563_4199_aeb7 ∷ 0x3f79_ff2a_f8d7_d735 ∷ 0x3f79_c779_a6c7_b0b2 ∷ 0x3f79_8e56_93c5_20cd ∷ 0x3f79_53c9_3885_deb0 ∷ 0x3f79_17d9_3d1f_558b ∷ 0x3f78_da8e_7806_550e ∷ 0x3f78_9bf0_ed08_b1a2
    ∷ 0x3f78_5c08_cc40_f67b ∷ 0x3f78_1ade_7104_4cd2 ∷ 0x3f77_d87a_60ca_bbd2 ∷ 0x3f77_94e5_4a11_e62c ∷ 0x3f77_5028_033a_6a3f ∷ 0x3f77_0a4b_8960_0b21 ∷ 0x3f76_c358_ff2c_c91a ∷ 0x3f76_7b59_aba7_10c5
    ∷ 0x3f76_3256_f8fb_293b ∷ 0x3f75_e85a_7340_0956 ∷ 0x3f75_9d6d_c737_bdd6 ∷ 0x3f75_519a_c10b_89c4 ∷ 0x3f75_04eb_4b03_eb93 ∷ 0x3f74_b769_6c3c_b209 ∷ 0x3f74_691f_4755_4c02 ∷ 0x3f74_1a17_191d_7f57
    ∷ 0x3f73_ca5b_373e_b2e3 ∷ 0x3f73_79f6_0ee1_f8c7 ∷ 0x3f73_28f2_2353_060d ∷ 0x3f72_d75a_0ca0_4529 ∷ 0x3f72_8538_7638_31ac ∷ 0x3f72_3298_1d84_2b2f ∷ 0x3f71_df83_d080_ee94 ∷ 0x3f71_8c06_6c54_e41b
    ∷ 0x3f71_382a_dbe4_7219 ∷ 0x3f70_e3fc_1664_839b ∷ 0x3f70_8f85_1deb_72b5 ∷ 0x3f70_3ad0_fe00_86bc ∷ 0x3f6f_cbd5_9454_6c7f ∷ 0x3f6f_21bb_38f6_bb16 ∷ 0x3f6e_7769_283f_3374 ∷ 0x3f6d_ccf5_a7cd_f297
    ∷ 0x3f6d_2277_01a2_65c1 ∷ 0x3f6c_7803_8131_24ec ∷ 0x3f6b_cdb1_7079_9d4a ∷ 0x3f6b_2397_151b_ebe2 ∷ 0x3f6a_79ca_ad6f_4ae7 ∷ 0x3f69_d062_6d99_72f5 ∷ 0x3f69_2774_7ca7_512a ∷ 0x3f68_7f16_f1a7_742f
    ∷ 0x3f67_d75f_d0c6_9029 ∷ 0x3f67_3065_086e_7b37 ∷ 0x3f66_8a3c_6e68_01fc ∷ 0x3f65_e4fb_bcff_f508 ∷ 0x3f65_40b8_902f_ce0f ∷ 0x3f64_9d88_62ca_4c44 ∷ 0x3f63_fb80_8bac_66d2 ∷ 0x3f63_5ab6_3af2_f2a1
    ∷ 0x3f62_bb3e_7735_59b2 ∷ 0x3f62_1d2e_1ac5_c05c ∷ 0x3f61_8099_d0f6_f44d ∷ 0x3f60_e596_1368_813a ∷ 0x3f60_4c37_2759_44d7 ∷ 0x3f5f_6922_3601_b95c ∷ 0x3f5e_3d6f_85e0_8b6b ∷ 0x3f5d_157d_6ef4_0bd4
    ∷ 0x3f5b_f172_a444_6da8 ∷ 0x3f5a_d175_562d_8c59 ∷ 0x3f59_b5ab_2d60_843a ∷ 0x3f58_9e39_45f7_07ce ∷ 0x3f57_8b44_2a99_1810 ∷ 0x3f56_7cef_cfb5_c176 ∷ 0x3f55_735f_8ecf_7d76 ∷ 0x3f54_6eb6_21dc_d6d4
    ∷ 0x3f53_6f15_9ebd_ea3b ∷ 0x3f52_749f_72c7_5c83 ∷ 0x3f51_7f74_5e63_5a98 ∷ 0x3f50_8fb4_70c9_35fb ∷ 0x3f4f_4afe_0798_5b21 ∷ 0x3f4d_81e5_6f83_dbe5 ∷ 0x3f4b_c45a_df02_a7da ∷ 0x3f4a_1298_98f3_ebcc
    ∷ 0x3f48_6cd7_55c9_eff4 ∷ 0x3f46_d34e_3c1f_53ed ∷ 0x3f45_4632_d980_d5df ∷ 0x3f43_c5b9_1b6c_9897 ∷ 0x3f42_5213_4887_cfa1 ∷ 0x3f40_eb71_fa0b_b804 ∷ 0x3f3f_2408_2ad5_6fce ∷ 0x3f3c_8bed_8c5c_f308
    ∷ 0x3f3a_0eea_f01f_a11b ∷ 0x3f37_ad53_a292_5ab8 ∷ 0x3f35_6777_5a48_bc9e ∷ 0x3f33_3da2_2d88_a769 ∷ 0x3f31_301c_8857_2c1a ∷ 0x3f2e_7e56_4600_52f9 ∷ 0x3f2a_d61d_f233_ad64 ∷ 0x3f27_680a_820a_d258
    ∷ 0x3f24_348e_c7db_e1c5 ∷ 0x3f21_3c15_ec8c_f1e3 ∷ 0x3f1c_fe06_c321_945b ∷ 0x3f17_fb65_a7cb_e4b4 ∷ 0x3f13_70f0_4033_8c89 ∷ 0x3f0e_be7d_1d44_7c11 ∷ 0x3f07_8db1_9560_0dcc ∷ 0x3f01_506e_9ee6_a4d3
    ∷ 0x3ef8_0f0a_2f0f_9ed5 ∷ 0x3eee_ce97_a497_6acd ∷ 0x3ee1_5587_cacd_f6c8 ∷ 0x3ece_d29f_5422_ce41 ∷ 0x3eae_d3a1_50e3_917a ∷ []

unfoldable pub house : List Float
house = map bits (at44100 ++ at48000 ++ at96000 ++ at192000)
