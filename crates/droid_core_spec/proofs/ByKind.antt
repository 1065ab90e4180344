-- Judging a request is what its kind's own definition says.
use Rattle.std.proofs.Common.{◌≡◌, ℕ, ℤ, Bool, List, refl}
use Rattle.droid_frame.specs.declared.filter.Filter.{Filter}
use Rattle.droid_frame.specs.declared.hash_kind.HashKind.{HashKind}
use Rattle.droid_frame.specs.declared.request.Request.TheVariants.{CreateProfile, AddFolder, AddFile, Piece, Finish, Abandon, Status, Export}
use Rattle.droid_core_spec.specs.Judging.{judge, judge_create, judge_folder, judge_file, judge_piece, judge_finish, judge_abandon, judge_status, judge_export}
use Rattle.droid_core_spec.specs.Setting.{Setting}
use Rattle.droid_core_spec.specs.World.{World}

module _ (setting : Setting) (world : World) (version : ℕ) where
  pub is_create : (scan_limit : ℕ) (match_all : Bool) (hash : HashKind) → judge setting world version (CreateProfile scan_limit match_all hash) ≡ judge_create setting world scan_limit match_all hash
  unfolding judge
  is_create scan_limit match_all hash = refl

  pub is_folder : (number parent : ℕ) (modified : ℤ) (name : List ℕ) → judge setting world version (AddFolder number parent modified name) ≡ judge_folder setting world number parent modified name
  unfolding judge
  is_folder number parent modified name = refl

  pub is_file : (number parent : ℕ) (modified : ℤ) (size piece_size : ℕ) (name : List ℕ)
      → judge setting world version (AddFile number parent modified size piece_size name) ≡ judge_file setting world version number parent modified size piece_size name
  unfolding judge
  is_file number parent modified size piece_size name = refl

  pub is_piece : (number file index : ℕ) (bytes : List ℕ) → judge setting world version (Piece number file index bytes) ≡ judge_piece world number file index bytes
  unfolding judge
  is_piece number file index bytes = refl

  pub is_finish : (number file : ℕ) → judge setting world version (Finish number file) ≡ judge_finish setting world version number file
  unfolding judge
  is_finish number file = refl

  pub is_abandon : (number file : ℕ) → judge setting world version (Abandon number file) ≡ judge_abandon world number file
  unfolding judge
  is_abandon number file = refl

  pub is_status : (number file : ℕ) → judge setting world version (Status number file) ≡ judge_status world number file
  unfolding judge
  is_status number file = refl

  pub is_export : (number from max : ℕ) (filter : Filter) → judge setting world version (Export number from max filter) ≡ judge_export setting world number from max filter
  unfolding judge
  is_export number from max filter = refl
