-- For inner clauses and proofs: the fields at the front of a record.
use Rattle.std.specs.Prelude.{◌≡◌, ◌≤◌, ℕ, List, length, slice_index}
use Rattle.droid_compaction.specs.Fields.{file_in, stamp_in}
use Rattle.droid_compaction.specs.declared.skim.Front.{Front}

-- the front is that of a record with this request, in front of whose length this many bytes stand
pub record IsFrontOf (ahead : ℕ) (request : List ℕ) (front : Front) : Type 0 where
  pub ahead_is : front.ahead ≡ ahead
  pub request_is : front.request ≡ length request
  pub kind_is : front.kind ≡ slice_index request 1
  pub stamp_is : front.stamp ≡ stamp_in request
  pub file_is : 26 ≤ length request → front.file ≡ file_in request
