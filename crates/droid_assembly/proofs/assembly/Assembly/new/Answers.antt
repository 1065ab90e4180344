use Rattle.std.proofs.Common.{◌≡◌, min, arith, refl, vec_capacity}
use Rattle.droid_assembly.proofs.Fresh.{fresh-sound, fresh-stands}
use Rattle.droid_assembly.proofs.assembly.Assembly.new.Goals as goal
use Rattle.droid_assembly.proofs.assembly.Assembly.new.Goals.{In_ok-empty_places}

-- a window is as wide as the file, or as the scan limit
width_is : (c : In_ok-empty_places) → c.in_ok-with_room.field-0.width ≡ min c.args.size c.args.scan_limit
width_is c = omega (arith, c.in_ok-with_room.ensures.width)

-- and so much is reserved for it
first_is : (c : In_ok-empty_places) → vec_capacity c.in_ok-with_room.field-0.first ≡ min c.args.size c.args.scan_limit
first_is c = omega (arith, c.in_ok-with_room.ensures.first_reserved)

last_is : (c : In_ok-empty_places) → c.in_ok-with_room.field-0.last.capacity ≡ min c.args.size c.args.scan_limit
last_is c = omega (arith, c.in_ok-with_room.ensures.last_reserved)

pub invariant_of-result : goal.invariant_of-result
invariant_of-result c =
    fresh-sound c.args.size c.args.piece_size c.args.scan_limit c.in_ok-with_room.field-0 _ _ c.requires c.in_ok-with_room.ensures.sound c.in_ok-empty_places.ensures.empty (width_is c) c.in_ok-with_room.ensures.knows

pub returns-clause-stands : goal.returns-clause-stands
returns-clause-stands c =
    fresh-stands c.args.size c.args.piece_size c.args.scan_limit c.in_ok-with_room.field-0 _ _ c.in_ok-empty_places.ensures.empty (width_is c) c.in_ok-with_room.ensures.knows

pub returns-clause-reserved : goal.returns-clause-reserved
returns-clause-reserved c = rw (first_is c, last_is c, c.in_ok-empty_places.ensures.reserved) refl
