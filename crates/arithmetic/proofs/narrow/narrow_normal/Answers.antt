-- `narrow_normal`: 29 digits rounded off.
use Rattle.arithmetic.proofs.Ways32.{normal_known, normal_room, normal_fits, normal_number, narrow_normal_lem}
use Rattle.arithmetic.proofs.narrow.narrow_normal.Goals as goal

pub float_to_bits-x : goal.float_to_bits-x
float_to_bits-x c = normal_known c.args.x c.requires

pub closest_to-requires : goal.closest_to-requires
closest_to-requires c =
    let room = normal_room c.args.x c.well_formed.0.1 c.requires in
    record { unit_some = room.0; unit_even = room.1.0; room = room.1.1 }

pub overflow_mul-result : goal.overflow_mul-result
overflow_mul-result c = let s = c in record { fits = normal_fits s.args.x s.well_formed.0.1 s.requires c.closest_to.result c.closest_to.ensures }

pub float_from_bits-result : goal.float_from_bits-result
float_from_bits-result c = let s = c in normal_number s.args.x s.well_formed.0.1 s.requires c.closest_to.result c.closest_to.ensures

pub returns : goal.returns
returns c = let s = c in narrow_normal_lem s.args.x s.well_formed.0.1 s.requires c.closest_to.result c.closest_to.ensures
