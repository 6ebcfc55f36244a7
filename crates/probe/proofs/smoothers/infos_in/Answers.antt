-- `infos_in`: slot by slot.
use Rattle.std.proofs.Common.{ℕ, ◌*◌, rules}
use Rattle.bank.specs.Smoother.{info_of}
use Rattle.bank.specs.Words.{smoother_in}
use Rattle.probe.proofs.Arrays.{from_fn_built}
use Rattle.probe.proofs.smoothers.infos_in.Goals as goal

pub returns : goal.returns
returns c = from_fn_built _ (λ (i : ℕ). info_of (smoother_in c.args.words.now (12 * i))) _ (λ i y q k. search rules) _ 8 c.from_fn.ensures.items
