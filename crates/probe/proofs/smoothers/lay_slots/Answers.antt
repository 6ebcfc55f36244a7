-- `lay_slots`: the slots' words, one slot's behind another's.
use borrow.Rule.Slice.PartMut.{post_of}
use Rattle.std.proofs.Common.{◌≡◌, ℕ, ◌*◌, ◌≤◌, List, [], ◌∷◌, ◌++◌, map, length, refl, ap, ◌∙◌, arith, rules, length-append}
use Rattle.std.specs.List.{flat_map}
use Rattle.std.proofs.lemmas.List.Concat.{flat_map-cons}
use Rattle.std.proofs.lemmas.List.Edits.{sets, sets-eq}
use Rattle.bank.specs.Words.{smoother_out}
use Rattle.bank.specs.declared.smoother.Smoother.{Smoother}
use Rattle.probe.specs.Smoothers.{slots_out}
use Rattle.probe.proofs.Arrays.{map_mapped}
use Rattle.probe.proofs.smoothers.lay_slots.Goals as goal

flat : (ss : List Smoother) → flat_map (λ ws. ws) (map smoother_out ss) ≡ slots_out ss
unfolding slots_out
flat [] = refl
flat (s ∷ ss) = flat_map-cons (λ ws. ws) (smoother_out s) (map smoother_out ss) ∙ ap (λ ws. smoother_out s ++ ws) (flat ss)

long : (ss : List Smoother) → length (slots_out ss) ≡ 12 * length ss
unfolding slots_out
long [] = refl
long (s ∷ ss) = length-append (smoother_out s) (slots_out ss) ∙ omega (arith, long ss)

-- words over the first 96
laid : (ws new out : List ℕ) → length out ≡ 96 → 96 ≤ length ws → new ≡ out → new ++ post_of 0 96 ws ≡ sets ws 0 out
laid ws new out n l e = rw (sets-eq out ws 0 (omega arith), n, e) refl

pub returns : goal.returns
returns c =
    let ss = c.args.slots in
    let mapped : c.map.result ≡ map smoother_out ss = map_mapped _ smoother_out _ (λ s y q k. search rules) _ _ 8 (search rules) c.map.ensures.items in
    laid c.args.words.now _ (slots_out ss) (omega (arith, long ss)) (omega arith)
    (c.copy_from_slice.ensures.after ∙ c.as_flattened.ensures.value ∙ ap (flat_map (λ ws. ws)) mapped ∙ flat ss)
