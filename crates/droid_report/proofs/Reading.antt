-- A profile, record by record.
use Rattle.std.proofs.Common.{Bor, ◌≡◌, ◌∙◌, ℕ, true, false, List, [], ◌∷◌, Some, Result, Ok, Err, ap, subst}
use Rattle.csv.specs.Reading.{AreRecords, ReadRecord, default_config, source_of}
use Rattle.csv.specs.declared.parser.State.{State}
use Rattle.csv.specs.declared.reader.Reader.{Reader}
use Rattle.csv.proofs.ReadFacts.{rows-end}
use Rattle.droid_export.proofs.RecordReading.{IsNext, more_by, none_by, rest_of}
use Rattle.droid_report.specs.Rows.{Draft, Profile, after, finished, profile_from, taken}
use Rattle.droid_export.specs.declared.reading.fault.ListFault.{ListFault}

-- what is left comes to what all records come to
abbrev pub Left : State → List ℕ → Draft → Result Profile ListFault → Type 0
Left state bytes draft whole = (rest : List (List (List ℕ))) × AreRecords default_config state bytes rest × (whole ≡ profile_from draft rest)

pub left_more : (a b : Reader (Bor (List ℕ))) (y : List ℕ) (fields : List (List ℕ)) (n : IsNext a b y fields) (draft next : Draft) (whole : Result Profile ListFault)
    → taken draft fields ≡ Ok next → Left a.state y draft whole → Left b.state n.rest next whole
left_more a b y fields n draft next whole step left =
    let more = more_by default_config a.state y left.0 n.read n.is left.1 in
    let here : taken draft n.read.0 ≡ Ok next = subst (λ (f : List (List ℕ)). taken draft f ≡ Ok next) n.fields step in (
      more.0,
      subst (λ (s : State). AreRecords default_config s n.rest more.0) n.state (subst (λ (r : List ℕ). AreRecords default_config n.read.1 r more.0) n.left more.2),
      left.2 ∙ (ap (profile_from draft) more.1 ∙ ap (λ (r : Result Draft ListFault). after r (λ one. profile_from one more.0)) here),
    )

pub left_fault : (a b : Reader (Bor (List ℕ))) (y : List ℕ) (fields : List (List ℕ)) (n : IsNext a b y fields) (draft : Draft) (fault : ListFault) (whole : Result Profile ListFault)
    → taken draft fields ≡ Err fault → Left a.state y draft whole → whole ≡ Err fault
left_fault a b y fields n draft fault whole step left =
    let more = more_by default_config a.state y left.0 n.read n.is left.1 in
    let here : taken draft n.read.0 ≡ Err fault = subst (λ (f : List (List ℕ)). taken draft f ≡ Err fault) n.fields step in
    left.2 ∙ (ap (profile_from draft) more.1 ∙ ap (λ (r : Result Draft ListFault). after r (λ one. profile_from one more.0)) here)

pub left_end : (a b : Reader (Bor (List ℕ))) (y : List ℕ) (fields : List (List ℕ)) (draft : Draft) (whole : Result Profile ListFault)
    → a.config ≡ default_config → source_of rest_of a ≡ Some y → ReadRecord rest_of a b false fields → Left a.state y draft whole → whole ≡ finished draft.header draft.lines
left_end a b y fields draft whole config source reads left =
    let none = none_by default_config a.state y left.0 (rows-end rest_of a b fields default_config y config source reads) left.1 in
    left.2 ∙ ap (profile_from draft) none
