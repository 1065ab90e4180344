-- Which priorities the registry has.
use Rattle.std.specs.Prelude.{◌≡◌, ℕ, ◌<◌, ◌≤◌, true, false, List, [], ◌∷◌, length, map, Some, slice_get}
use Rattle.std.specs.Str.{bytes_eq}
use Rattle.droid_signature.specs.RegistryTables.{PriorityRow}
use Rattle.droid_signature.specs.Formats.{Placed, puid_in}
use Rattle.droid_signature.specs.Holders.{holder}
use Rattle.droid_signature.specs.Sifting.{IsLeft, by_place}
use Rattle.droid_signature.specs.declared.ids.Holder.{Holder}
use Rattle.droid_signature.specs.declared.ids.Holder.TheVariants.{Nobody, Only, Several}
use Rattle.droid_signature.specs.declared.left_out.Item.TheVariants as items
use Rattle.droid_signature.specs.declared.left_out.LeftOut.{LeftOut}
use Rattle.droid_signature.specs.declared.left_out.Why.{Why}
use Rattle.droid_signature.specs.declared.left_out.Why.TheVariants as why

-- a priority: the place in the registry of the format that has it, the format, and the ID of the other
pub record Priority : Type 0 where
  pub place : ℕ
  pub of : Placed
  pub id : ℕ

-- the priorities of the format at a place of the registry
abbrev pub priorities_of : ℕ → Placed → List ℕ → List Priority
priorities_of place of ids = by_place (λ at id. record { place = place; of = of; id = id } ∷ []) 0 ids

-- the priorities of all formats of the registry
abbrev pub all_priorities : List Placed → List Priority
all_priorities kept = by_place (λ place it. priorities_of place it it.format.priorities) 0 kept

-- the IDs of formats
abbrev pub ids_of : List Placed → List ℕ
ids_of kept = map (λ it. it.format.id) kept

-- the only one of these formats with an ID
pub record IsOther (kept : List Placed) (id place : ℕ) (other : Placed) : Type 0 where
  pub held : holder id (ids_of kept) ≡ Only place
  pub there : slice_get kept place ≡ Some other

-- a registry that has these priorities takes it
pub record TakesPriority (kept : List Placed) (before : List PriorityRow) (it : Priority) (row : PriorityRow)
    : Type 0 where
  pub over : ℕ
  pub other : Placed
  pub is : IsOther kept it.id over other
  pub same : row ≡ record { place = it.place; puid = puid_in it.of.format; over = over; other = puid_in other.format }
  pub differ : bytes_eq (puid_in it.of.format) (puid_in other.format) ≡ false
  pub room : length before < 16384

-- why there is no one format with an ID, by what has it
abbrev pub IsReasonOfHolder : Holder → Why → Type 0
IsReasonOfHolder held why.NoSuchFormat = held ≡ Nobody
IsReasonOfHolder held why.SeveralFormats = held ≡ Several
IsReasonOfHolder held other = ⊥

-- why a registry that has these priorities does not take a priority of a format over the one with an ID
abbrev pub IsReasonOfPriority : List Placed → List PriorityRow → Placed → ℕ → Why → Type 0
IsReasonOfPriority kept before of id why.NoSuchFormat = holder id (ids_of kept) ≡ Nobody
IsReasonOfPriority kept before of id why.SeveralFormats = holder id (ids_of kept) ≡ Several
IsReasonOfPriority kept before of id why.OverItself =
    (place : ℕ) × (other : Placed) × IsOther kept id place other
    × (bytes_eq (puid_in of.format) (puid_in other.format) ≡ true)
IsReasonOfPriority kept before of id why.Full = 16384 ≤ length before
IsReasonOfPriority kept before of id other = ⊥

-- a priority is left out of a registry that has these
abbrev pub LeavesPriority : List Placed → List PriorityRow → Priority → LeftOut → Type 0
LeavesPriority kept before it left =
    IsLeft it.of.place (items.Priority it.id) (IsReasonOfPriority kept before it.of it.id) left
