-- Which requests are judged by their version: a new file and a finish, and no other.
use Rattle.std.proofs.Common.{◌≡◌, ◌≢◌, ℕ, refl}
use Rattle.droid_frame.specs.Bodies.{request_kind}
use Rattle.droid_frame.specs.declared.request.Request.{Request}
use Rattle.droid_frame.specs.declared.request.Request.TheVariants.{CreateProfile, AddFolder, AddFile, Piece, Finish, Abandon, Status, Export}
use Rattle.droid_core_spec.specs.Judging.{judge}
use Rattle.droid_core_spec.specs.Setting.{Setting}
use Rattle.droid_core_spec.specs.World.{World}

pub same_in_each : (setting : Setting) (world : World) (one other : ℕ) (request : Request) → request_kind request ≢ 3 → request_kind request ≢ 5
    → judge setting world one request ≡ judge setting world other request
unfolding judge
same_in_each setting world one other (CreateProfile scan_limit match_all hash) no_file no_finish = refl
same_in_each setting world one other (AddFolder number parent modified name) no_file no_finish = refl
same_in_each setting world one other (AddFile number parent modified size piece_size name) no_file no_finish = absurd (no_file refl)
same_in_each setting world one other (Piece number file index bytes) no_file no_finish = refl
same_in_each setting world one other (Finish number file) no_file no_finish = absurd (no_finish refl)
same_in_each setting world one other (Abandon number file) no_file no_finish = refl
same_in_each setting world one other (Status number file) no_file no_finish = refl
same_in_each setting world one other (Export number from max filter) no_file no_finish = refl
