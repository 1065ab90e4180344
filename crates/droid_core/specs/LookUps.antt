-- What the look-up of a profile returns, and what it finds of a world.
use Rattle.std.specs.Prelude.{◌≡◌, ℕ, Option, Some, None, MatchBool, ⊤, Result, Ok, Err}
use Rattle.droid_frame.specs.declared.refusal.Refusal.{Refusal}
use Rattle.droid_frame.specs.declared.refusal.Refusal.TheVariants.{Memory, NoSuchProfile}
use Rattle.droid_core_spec.specs.MemoryFaults.{is_out_of_memory_of}
use Rattle.droid_core_spec.specs.World.{Profile, World, numbered}
use Rattle.droid_core.specs.Rows.{profile_row}
use Rattle.droid_store.specs.declared.fault.StoreFault.{StoreFault}
use Rattle.droid_store.specs.declared.rows.ProfileRow.{ProfileRow}

-- from what the store returned: the row, or that there is no such profile, or that memory ran out
abbrev pub profile_in : Result (Option ProfileRow) StoreFault → Result ProfileRow Refusal
profile_in (Ok (Some row)) = Ok row
profile_in (Ok None) = Err NoSuchProfile
profile_in (Err fault) = Err Memory

-- the world has the profile, and this is its row
pub record HasProfile (world : World) (which : ℕ) (row : ProfileRow) : Type 0 where
  pub profile : Profile
  pub there : numbered world.profiles which ≡ Some profile
  pub row_is : row ≡ profile_row profile

-- the profile's row; or the profile is missing, or memory ran out
abbrev pub FindsProfile : World → ℕ → Result ProfileRow Refusal → Type 0
FindsProfile world profile (Ok row) = HasProfile world profile row
FindsProfile world profile (Err refusal) =
    MatchBool (is_out_of_memory_of refusal) ⊤ ((refusal ≡ NoSuchProfile) × (numbered world.profiles profile ≡ None))
