use Rattle.std.proofs.Common.{◌≡◌, ℕ, List, take}
use Rattle.std.specs.Io.KnownBytes.{Consumes, prepend_known}
use Rattle.droid_cmd_identify.specs.NameLists.{HasNoEnd}
use Rattle.droid_cmd_identify.proofs.name_reader.NameReader.next_name.Given as goal

-- the bytes of the name so far went over, and none ends it
abbrev pub invariant-loop : goal.invariant-loop
invariant-loop g l = record {
  front : List ℕ;
  came : Consumes (prepend_known l.fn.self.bytes (g.L.Read.remaining l.fn.reader)) (prepend_known l.self.bytes (g.L.Read.remaining l.reader)) front;
  plain : HasNoEnd l.fn.self.end front;
  kept : l.name.items ≡ take 4096 front;
  same : l.self.end ≡ l.fn.self.end;
}
