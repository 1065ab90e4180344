use Rattle.std.proofs.Common.{◌≡◌, ◌↔◌, ℕ, List, Option, None, IfSome, rules, tests}
use Rattle.std.specs.List.{slice_get}
use Rattle.std.proofs.lemmas.Iterator.{YieldsList-from_slice}
use Rattle.std.proofs.lemmas.Iterator.Search.{position_from_yields_List}
use Rattle.droid_core.specs.Files.{OpenFile, is_of, open_at}
use Rattle.droid_core.proofs.FilesLookedUp.{by_place}
use Rattle.droid_core.proofs.unfinished.files.UnfinishedFiles.place_of.Goals as goal

-- what the search gives is the place of the file
abbrev Finds : (profile number : ℕ) (files : List OpenFile) → Option ℕ → Type 0
Finds profile number files result =
    ((result ≡ None) ↔ (open_at profile number files ≡ None)) × IfSome result (λ place. slice_get files place ≡ open_at profile number files)

finds : (c : goal.After-position) → Finds c.args.profile c.args.file c.self.inside.files.items c.position.result
finds c =
    let test = is_of c.args.profile c.args.file in
    by_place test c.self.inside.files.items c.position.result (position_from_yields_List test _ _ c.position.result c.position.ensures.ran (YieldsList-from_slice c.self.inside.files.items cc) (λ x b q k. search (rules, tests)))

pub returns-clause-none : goal.returns-clause-none
returns-clause-none c = rw (← c.self.view_is) (finds c).0

pub returns-clause-place : goal.returns-clause-place
returns-clause-place c = rw (← c.self.view_is) (finds c).1
