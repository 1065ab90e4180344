-- What the rows have to be for a finding to be taken (this project's own).
use Rattle.std.specs.Prelude.{ℕ}
use Rattle.std.specs.List.{AllByRecursion}
use Rattle.droid_core_spec.specs.Files.{Finding}
use Rattle.droid_core.specs.Rows.{IsShort}
use Rattle.droid_store.specs.Changes.{IsOfKind, IsOpen, IsWord}
use Rattle.droid_store.specs.Rows.{Rows}

-- the rows can take this finding of the file
pub record MayTake (profile file : ℕ) (finding : Finding) (rows : Rows) : Type 0 where
  pub unfinished : IsOpen profile file rows
  pub kind : IsOfKind profile finding.digest rows
  pub words : AllByRecursion IsWord finding.puids
  pub short : AllByRecursion IsShort rows.nodes
