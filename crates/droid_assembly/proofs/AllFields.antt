-- An assembly has exactly these fields: with one more, these records would lack it.
use Rattle.std.proofs.Common.{◌≡◌, refl}
use Rattle.droid_assembly.specs.declared.assembly.Assembly.TheInside.{Inside}
use Rattle.droid_assembly.specs.declared.front.Front.{Front}

pub of_assembly : (fields : Inside) → fields ≡ record {
  size = fields.size;
  piece_size = fields.piece_size;
  scan_limit = fields.scan_limit;
  held = fields.held;
  missing = fields.missing;
  settled_bytes = fields.settled_bytes;
  front = fields.front;
  hashed = fields.hashed;
  waiting = fields.waiting;
  pending = fields.pending;
}
of_assembly fields = refl

pub of_front : (front : Front) → front ≡ record { first = front.first; last = front.last; hash = front.hash; width = front.width }
of_front front = refl
