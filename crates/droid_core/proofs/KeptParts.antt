-- What a kept text shows, and when the text of an export is kept.
use Rattle.std.proofs.Common.{◌≡◌, inl, inr, ◌^◌, ◌-◌, ℕ, true, false, nat_lt, nat_le, List, length, Option, Some, None, sym, ap, subst, ◌∙◌}
use Rattle.std.proofs.lemmas.Bool.{cases_Bool, and_parts, leb-true}
use Rattle.droid_frame.specs.declared.filter.Filter.{Filter}
use Rattle.droid_core_spec.specs.Records.{records}
use Rattle.droid_core_spec.specs.Setting.{Setting}
use Rattle.droid_core_spec.specs.World.{Profile, World, numbered}
use Rattle.droid_core.specs.KeptTexts.{IsTextIn, IsLastText, IsFor, bytes_in, leaves_more}
use Rattle.droid_core.specs.declared.queries.kept_text.KeptText.{KeptText}

-- the last text, where it is of the profile and by the filter that are asked for, is their export
pub last_shown : (setting : Setting) (world : World) (last : Option KeptText) (number : ℕ) (filter : Filter) (profile : Profile) → IsLastText setting world last → IsFor number filter last
    → numbered world.profiles number ≡ Some profile → bytes_in last ≡ setting.export_text (records setting profile) filter profile.hash
last_shown setting world None number filter profile is its there = absurd its
last_shown setting world (Some kept) number filter profile is its there =
    let same : Some is.profile ≡ Some profile = sym is.there ∙ (ap (numbered world.profiles) its.0 ∙ there) in
    let its_profile : is.profile ≡ profile = cc in
    is.text ∙ (ap (λ (p : Profile). setting.export_text (records setting p) kept.filter p.hash) its_profile ∙ ap (λ (f : Filter). setting.export_text (records setting profile) f profile.hash) its.1)

-- a text that is kept, or not, by what is left of it
pub kept_or_none : (setting : Setting) (world : World) (last : Option KeptText) (number from max : ℕ) (filter : Filter) (bytes : List ℕ) (profile : Profile) → numbered world.profiles number ≡ Some profile
    → bytes ≡ setting.export_text (records setting profile) filter profile.hash → (leaves_more (length bytes) from max ≡ true → last ≡ Some (record { profile = number; filter = filter; text = bytes }))
    → (leaves_more (length bytes) from max ≡ false → last ≡ None) → IsLastText setting world last
kept_or_none setting world last number from max filter bytes profile there shown kept only = elim (cases_Bool (leaves_more (length bytes) from max)) [
  | inl more ↦
      let parts = and_parts (nat_lt max (length bytes - from)) (nat_le (length bytes) (2 ^ 28)) more in
      let its : IsTextIn setting world (record { profile = number; filter = filter; text = bytes }) = record { profile = profile; there = there; text = shown; size = leb-true (length bytes) (2 ^ 28) parts.1 } in
      subst (IsLastText setting world) (sym (kept more)) its
  | inr none ↦ subst (IsLastText setting world) (sym (only none)) tt
]
