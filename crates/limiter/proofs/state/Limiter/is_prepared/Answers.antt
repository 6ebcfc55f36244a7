-- `is_prepared`: the settings first, then what they derive.
use Rattle.settings.proofs.Taken.{taken}
use Rattle.limiter.specs.State.{spec_of}
use Rattle.limiter.proofs.Ready.{refused_settings, passed_settings, accepted_settings}
use Rattle.limiter.proofs.state.Limiter.is_prepared.Goals as goal

pub returns-then-not-is_accepted : goal.returns-then-not-is_accepted
returns-then-not-is_accepted c =
    refused_settings c.args.self c.spec.result c.spec.ensures c.is_accepted.result c.is_accepted.ensures c.if-not-is_accepted.true

pub release_coeff-coeff-requires-clause-release_taken : goal.release_coeff-coeff-requires-clause-release_taken
release_coeff-coeff-requires-clause-release_taken c =
    let l = c.args.self in
    (taken l.settings (spec_of l) (passed_settings l c.spec.result c.spec.ensures c.is_accepted.result c.is_accepted.ensures c.if-not-is_accepted.false)).release_is

pub returns : goal.returns
returns c =
    accepted_settings c.args.self c.spec.result c.spec.ensures c.is_accepted.result c.is_accepted.ensures c.if-not-is_accepted.false
    c.look-look.result c.release_coeff-coeff.result c.same_value.result c.look-look.ensures c.release_coeff-coeff.ensures c.same_value.ensures
