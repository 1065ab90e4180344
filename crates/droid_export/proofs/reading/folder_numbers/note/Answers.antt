use Rattle.std.proofs.Common.{Bor, ℕ, List, Some, sym, ap}
use Rattle.std.specs.Option.{option_map}
use Rattle.std.proofs.lemmas.Map.Text.{btree_map_updates_str}
use Rattle.droid_export.specs.FolderMaps.{number_at, path_at}
use Rattle.droid_export.specs.declared.reading.folder_numbers.Folders.{Folders}
use Rattle.droid_export.proofs.Sayings.{noted_known, noted_new, number_alone, path_updated}
use Rattle.droid_export.proofs.reading.folder_numbers.note.Goals as goal

pub returns-in-Some : goal.returns-in-Some
returns-in-Some c = λ said holds.
    noted_known c.args.folders.now said c.args.number c.args.path.now c.in-Some.known.now.now c.eq.result
    (sym (ap (option_map (λ (path : Bor (List ℕ)). path.now)) c.in-Some.ensures.value)) c.eq.ensures holds

pub returns-in-Some-get : goal.returns-in-Some-get
returns-in-Some-get c = λ said holds.
    number_alone (path_at c.args.folders.now) (number_at c.args.folders.now) said c.args.number c.in-Some-get.field-0.now c.args.path.now
    (sym (ap (option_map (λ (path : Bor (List ℕ)). path.now)) c.in-None.ensures.value)) (sym c.in-Some-get.ensures.value) holds

pub returns-in_ok-insert-in-None-get-2 : goal.returns-in_ok-insert-in-None-get-2
returns-in_ok-insert-in-None-get-2 c = λ said holds.
    let after : Folders = record { numbers = c.insert.new.self; paths = c.insert-in-None-get.new.self } in
    noted_new (path_at c.args.folders.now) (path_at after) (number_at c.args.folders.now) (number_at after) said c.args.number c.args.path.now
    (sym (ap (option_map (λ (path : Bor (List ℕ)). path.now)) c.in-None.ensures.value)) (sym c.in-None-get.ensures.value)
    (path_updated c.args.folders.now.numbers c.insert.new.self c.args.number c.args.path c.in_ok-insert-in-None-get.ensures.updates)
    (btree_map_updates_str c.args.path.now c.args.folders.now.paths c.insert-in-None-get.new.self (Some c.args.number) c.in_ok-insert-in-None-get-2.ensures.updates) holds
