-- `channel_outputs`: the exchange, and then the products.
use lib.ListN.{length}
use Rattle.frame.specs.Rules.{leaves_by}
use Rattle.frame.specs.Passes.{exchanged_at}
use Rattle.frame.proofs.Stretch.{outputs_found}
use Rattle.frame.proofs.outputs.channel_outputs.Goals as goal

pub returns : goal.returns
returns c =
    let a = c.args in record {
      given_out = outputs_found (leaves_by a.format) (length a.line.now) a.pos a.gains.now a.line.now a.samples.now (exchanged_at c.exchange-next.new.samples c.exchange-next.new.line) c.products.new.samples c.requires.gains_len
          c.exchange-next.ensures.exchanged c.products.ensures;
      value = c.exchange-next.ensures.value;
    }
