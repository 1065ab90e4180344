-- Identifiers without a space (this project's own). A journal that was made small has them in a reply alone, and the
-- store keeps them in one text with spaces between them.
use Rattle.std.specs.Prelude.{ℕ, Bool, List}
use Rattle.std.specs.List.{AllByRecursion}
use Rattle.droid_core_spec.specs.Setting.{Setting}
use Rattle.droid_store.specs.Changes.{IsWord}

-- no identifier that the setting finds is empty or has a space
abbrev pub FindsWords : Setting → Type 0
FindsWords setting =
    (name bytes : List ℕ) (scan_limit : ℕ) (match_all : Bool)
    → AllByRecursion IsWord (setting.identify name bytes scan_limit match_all).puids
