-- What has an ID, in a list of IDs by place.
use Rattle.std.specs.Prelude.{ℕ, suc, ◌==◌, List, [], ◌∷◌, if◌then◌else◌}
use Rattle.droid_signature.specs.declared.ids.Holder.{Holder}
use Rattle.droid_signature.specs.declared.ids.Holder.TheVariants.{Nobody, Only, Several}

-- the places of those that have an ID, in a list the first of which has this place
abbrev pub holding : ℕ → ℕ → List ℕ → List ℕ
holding id place [] = []
holding id place (x ∷ ids) = if x == id then place ∷ holding id (suc place) ids else holding id (suc place) ids

-- what has an ID, by the places of those that have it
abbrev pub holder_of : List ℕ → Holder
holder_of [] = Nobody
holder_of (place ∷ []) = Only place
holder_of (place ∷ next ∷ places) = Several

-- what has an ID, where these are the IDs by place
abbrev pub holder : ℕ → List ℕ → Holder
holder id ids = holder_of (holding id 0 ids)

-- one more has it
abbrev pub one_more : Holder → ℕ → Holder
one_more Nobody place = Only place
one_more (Only other) place = Several
one_more Several place = Several
