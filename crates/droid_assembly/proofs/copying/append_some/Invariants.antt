-- the first bytes are appended, and the memory is the same
use Rattle.std.proofs.Common.{◌≡◌, ◌+◌, ◌++◌, take, vec_len, vec_capacity}
use Rattle.droid_assembly.proofs.copying.append_some.Given as goal

abbrev pub invariant-loop-byte : goal.invariant-loop-byte
invariant-loop-byte l = record {
  items : l.filled.items ≡ l.fn.window.items ++ take l.byte-index l.bytes;
  filled : vec_len l.filled ≡ vec_len l.fn.window + l.byte-index;
  reserved : vec_capacity l.filled ≡ vec_capacity l.fn.window;
}
