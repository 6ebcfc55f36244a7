-- `stores_fit`: the stores' lengths, judged.
use Rattle.limiter.proofs.Frames.{bounds_of}
use Rattle.limiter.proofs.state.Limiter.stores_fit.Goals as goal

pub lengths_fit-requires : goal.lengths_fit-requires
lengths_fit-requires c =
    let b = bounds_of c.args.self c.requires in
    record {
      channels_bound = b.most;
      look_bound = b.look_most;
    }
