-- The state of an assembly, as contracts see it, from its fields.
use Rattle.std.specs.Prelude.{vec_capacity}
use Rattle.droid_assembly.specs.State.{State}
use Rattle.droid_assembly.specs.declared.assembly.Assembly.TheInside.{Inside}

-- all of the fields; where in its memory the buffer of the last bytes begins is not among them
abbrev pub state_of : Inside → State
state_of fields = record {
  size = fields.size;
  piece_size = fields.piece_size;
  scan_limit = fields.scan_limit;
  held_count = fields.held;
  first_missing = fields.missing;
  settled_bytes = fields.settled_bytes;
  first = fields.front.first.items;
  last = fields.front.last.items;
  running = fields.front.hash;
  hashed = fields.hashed;
  waiting = fields.waiting.items;
  pending = fields.pending;
  reserved = record {
    first = vec_capacity fields.front.first;
    last = fields.front.last.capacity;
    waiting = vec_capacity fields.waiting;
  };
}
