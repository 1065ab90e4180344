-- What a read and a write of the one connection do.
use Rattle.std.proofs.Common.{◌≡◌, ℕ, List, [], Option, subst, sym, inl}
use Rattle.std.proofs.KnownBytes.{Appends-nil, Consumes-nil}
use Rattle.std.specs.Io.KnownBytes.{Appends, Consumes}
use Rattle.droid_frame.specs.Seen.{Counts}
use Rattle.droid_frame.specs.declared.io.stream_record.Seen.{Seen}
use Rattle.droid_turns.specs.Events.{read_event, write_event}
use Rattle.droid_turns.specs.declared.connections.Came.{Came}
use Rattle.droid_turns.specs.declared.connections.Came.TheVariants as came_as
use Rattle.droid_turns.specs.declared.connections.Took.{Took}
use Rattle.droid_turns.specs.declared.connections.Took.TheVariants as took_as
use Rattle.droid_turns.specs.Pipes.{CameSo, PipeDoes, ReadsAs, TookSo, WritesAs}
use Rattle.droid_turns.specs.declared.pipe.Pipe.{Pipe}

module _ {R W : Type 0} (remaining : R → Option (List ℕ)) (contents : W → Option (List ℕ)) (was_read : R → Seen) (was_written : W → Seen) (room : W → Option ℕ) where
  wrote_none : (old new : W) → new ≡ old → Appends (contents old) (contents new) []
  wrote_none old new same = subst (λ (w : W). Appends (contents old) (contents w) []) (sym same) (Appends-nil (contents old))

  read_none : (old new : R) → new ≡ old → Consumes (remaining old) (remaining new) []
  read_none old new same = subst (λ (r : R). Consumes (remaining old) (remaining r) []) (sym same) (Consumes-nil (remaining old))

  still_written : (old new : W) → new ≡ old → (start : ℕ) → Counts start (was_written old) 0 → (count : ℕ) × Counts start (was_written new) count
  still_written old new same start counts = (0, subst (λ (w : W). Counts start (was_written w) 0) (sym same) counts)

  still_read : (old new : R) → new ≡ old → (start : ℕ) → Counts start (was_read old) 0 → (count : ℕ) × Counts start (was_read new) count
  still_read old new same start counts = (0, subst (λ (r : R). Counts start (was_read r) 0) (sym same) counts)

  pub read_does : (old new : Pipe R W) (id : ℕ) (buffer : List ℕ) (came : Came) → id ≡ 0 → new.writer ≡ old.writer → new.departure ≡ old.departure → CameSo (remaining old.reader) (remaining new.reader) buffer came
      → ((start : ℕ) → Counts start (was_read old.reader) 0 → ReadsAs start (was_read new.reader) came) → PipeDoes remaining contents was_read was_written room old (read_event id buffer came) new
  read_does old new id buffer (came_as.Bytes count) zero same left so reported = record {
    read = so;
    written = wrote_none old.writer new.writer same;
    one = inl zero;
    ends = tt;
    left = left;
    reader = reported;
    writer = still_written old.writer new.writer same;
  }
  read_does old new id buffer came_as.Nothing zero same left so reported = record {
    read = so;
    written = wrote_none old.writer new.writer same;
    one = inl zero;
    ends = tt;
    left = left;
    reader = reported;
    writer = still_written old.writer new.writer same;
  }
  read_does old new id buffer came_as.End zero same left so reported = record {
    read = so.0;
    written = wrote_none old.writer new.writer same;
    one = tt;
    ends = so.1;
    left = left;
    reader = reported;
    writer = still_written old.writer new.writer same;
  }
  read_does old new id buffer came_as.Broken zero same left so reported = record {
    read = so;
    written = wrote_none old.writer new.writer same;
    one = tt;
    ends = tt;
    left = left;
    reader = reported;
    writer = still_written old.writer new.writer same;
  }

  pub write_does : (old new : Pipe R W) (id : ℕ) (bytes : List ℕ) (took : Took) → id ≡ 0 → new.reader ≡ old.reader → new.departure ≡ old.departure → TookSo (contents old.writer) (contents new.writer) bytes took
      → ((start : ℕ) → Counts start (was_written old.writer) 0 → WritesAs start (was_written new.writer) (room new.writer) took) → PipeDoes remaining contents was_read was_written room old (write_event id bytes took) new
  write_does old new id bytes (took_as.Bytes count) zero same left so reported = record {
    read = read_none old.reader new.reader same;
    written = so;
    one = inl zero;
    ends = tt;
    left = left;
    reader = still_read old.reader new.reader same;
    writer = reported;
  }
  write_does old new id bytes took_as.Nothing zero same left so reported = record {
    read = read_none old.reader new.reader same;
    written = so;
    one = inl zero;
    ends = tt;
    left = left;
    reader = still_read old.reader new.reader same;
    writer = reported;
  }
  write_does old new id bytes took_as.Broken zero same left so reported = record {
    read = read_none old.reader new.reader same;
    written = so;
    one = tt;
    ends = tt;
    left = left;
    reader = still_read old.reader new.reader same;
    writer = reported;
  }
