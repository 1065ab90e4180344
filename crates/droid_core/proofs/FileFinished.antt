-- What comes of finishing a file that was found.
use Rattle.std.proofs.Common.{◌≡◌, ℕ, List, true, false, Option, Some, None, refl, sym, ap, subst, ◌∙◌}
use Rattle.std.specs.Prelude.{ℤ, Bool, MatchBool, ⊤}
use Rattle.droid_assembly.specs.Pieces.{Piece}
use Rattle.droid_assembly.specs.State.{StandsFor, IsUnchanged}
use Rattle.droid_frame.specs.declared.hash_value.HashValue.{HashValue}
use Rattle.droid_frame.specs.declared.refusal.Refusal.{Refusal}
use Rattle.droid_frame.specs.declared.refusal.Refusal.TheVariants.{BadOption}
use Rattle.droid_frame.specs.declared.reply.Reply.{Reply}
use Rattle.droid_frame.specs.declared.reply.Reply.TheVariants as replies
use Rattle.droid_frame.specs.Hashes.{hash_value_kind}
use Rattle.droid_core_spec.specs.Conditions.{is_carried}
use Rattle.droid_core_spec.specs.Files.{Finding, as_finished, bytes_of, digest_of, found_as, identified, finding_of, finished_reply}
use Rattle.droid_core.specs.Identified.{as_identification, found_in}
use Rattle.droid_core_spec.specs.Judging.{Verdict, Accepted, Refuses, unless_refused, refusal_of, finish_checks, judge_finish, world_set, node_set}
use Rattle.droid_core_spec.specs.Setting.{Setting}
use Rattle.droid_core_spec.specs.MemoryFaults.{is_out_of_memory, is_out_of_memory_of}
use Rattle.droid_core_spec.specs.World.{Content, File, Profile, World}
use Rattle.droid_pronom.specs.Found.{Hits, IsFound}
use Rattle.droid_pronom.specs.declared.identification.Found.{Found}
use Rattle.droid_pronom.proofs.FoundOnce.{found_once}
use Rattle.droid_core.specs.Rows.{with_finding, KeepsWorld}
use Rattle.droid_core.proofs.Finished.{file_finished}
use Rattle.droid_core.proofs.Soundness.{sound_file_set}
use Rattle.droid_store.specs.Changes.{with_reply}
use Rattle.droid_store.specs.declared.rows.ProfileRow.{ProfileRow}
use Rattle.droid_store.specs.Rows.{Rows}
use Rattle.droid_core.specs.Files.{OpenFiles, IsAt, At, Turns, IsAlikeBut, open_at}
use Rattle.droid_core.specs.Identifying.{IsFindingOf}
use Rattle.droid_core.specs.declared.unfinished.finding.Finding as files
use Rattle.droid_core.specs.Assemblies.{IsOpenFor}
use Rattle.droid_core.specs.Changes.{Stays, Comes, stamped}
use Rattle.droid_core.specs.declared.holdings.Holdings.{Holdings}
use Rattle.droid_core.specs.declared.file_rows.UnfinishedRow.{UnfinishedRow}
use Rattle.droid_core.specs.declared.stamps.Stamp.{Stamp}
use Rattle.droid_core.specs.FileLookUps.{HasFile, HasUnfinished, for_file}
use Rattle.droid_core.specs.Findings.{IsJudged, IsKept, finding_in}
use Rattle.droid_core.specs.HoldingsStanding.{IsIn}
use Rattle.droid_core.proofs.Assembled.{IsWithout, assemblies_finished}
use Rattle.droid_core.proofs.FinishJudged.{hash_unreported}
use Rattle.droid_core.proofs.Hashes.{kind_of_hash}
use Rattle.droid_core.proofs.FileVerdicts.{judged_there}
use Rattle.droid_core.proofs.Staying.{comes_refused, if_refused}
use Rattle.droid_core.proofs.UnchangedFiles.{assemblies_unchanged, place_still}

-- what comes of finishing this file
abbrev pub finish_there : Setting → World → ℕ → ℕ → ℕ → Profile → ℕ → ℤ → List ℕ → Content → Verdict
finish_there setting world version number id profile parent modified name content =
    unless_refused (refusal_of (finish_checks version profile.hash content))
    (Accepted (finished_reply (finding_of setting profile name content)) (world_set world number (node_set profile id (File parent modified name (as_finished content)))))

pub finish_for_file : (setting : Setting) (world : World) (version number id : ℕ) → judge_finish setting world version number id ≡ for_file world number id (finish_there setting world version number id)
unfolding judge_finish
finish_for_file setting world version number id = refl

-- ---- where a file was only looked at

pub only_looked : (setting : Setting) (world : World) (old : Holdings) (place : ℕ) (store : Rows) (files : OpenFiles) → store ≡ old.store → IsAlikeBut place old.files files → Turns old.files files place IsUnchanged → IsIn setting world old
    → Stays setting world old (record old { store = store; files = files })
only_looked setting world old place store files same alike unchanged is_in = rw same (record {
  world_is = record {
    is_setting = record { limits = is_in.is_setting.limits; allowed = is_in.is_setting.allowed; registry = is_in.is_setting.registry };
    rows = is_in.rows;
    sound = is_in.sound;
    files = assemblies_unchanged world old.files files place is_in.files alike unchanged;
    room = alike.limit ∙ is_in.room;
  };
  replies = refl;
})

unwanted : (out_of_memory : Bool) (P Q : Type 0) → out_of_memory ≡ false → Q → MatchBool out_of_memory P Q
unwanted true P Q is it = absurd cc
unwanted false P Q is it = it

-- ---- what is found

-- what the registry finds is what the setting does
found_is : (setting : Setting) (world : World) (old : Holdings) (name bytes : List ℕ) (scan_limit : ℕ) (match_all : Bool) (found : Found) → IsIn setting world old → IsFound old.registry name bytes scan_limit match_all found
    → found ≡ found_in (setting.identify name bytes scan_limit match_all)
found_is setting world old name bytes scan_limit match_all found is_in is =
    found_once (Hits bytes scan_limit) old.registry name match_all found (found_in (setting.identify name bytes scan_limit match_all)) is (is_in.is_setting.registry.identifies name bytes scan_limit match_all)

module _ (setting : Setting) (world : World) (version number id : ℕ) (old : Holdings) (found : UnfinishedRow) (is : HasUnfinished world old.files number id found) where
  abbrev has : HasFile world number id found.row
  has = is.file

  -- where nothing refuses it
  abbrev finding : Finding
  finding = finding_of setting has.profile has.name has.content

  abbrev after : World
  after = world_set world number (node_set has.profile id (File has.parent has.modified has.name (as_finished has.content)))

  -- the first refusal decides
  judged_first : (first : Option Refusal) → refusal_of (finish_checks version has.profile.hash has.content) ≡ first → judge_finish setting world version number id ≡ unless_refused first (Accepted (finished_reply finding) after)
  judged_first first is_first =
      finish_for_file setting world version number id
      ∙ judged_there world number id found.row has (finish_there setting world version number id)
      ∙ ap (λ it. unless_refused it (Accepted (finished_reply finding) after)) is_first

  carried_there : (b : Bool) → is_carried version found.row.profile.hash ≡ b → is_carried version has.profile.hash ≡ b
  carried_there b row = ap (λ (p : ProfileRow). is_carried version p.hash) (sym has.profile_is) ∙ row

  -- of a hash that no reply of its version can carry
  pub refused_unreported : is_carried version found.row.profile.hash ≡ false → judge_finish setting world version number id ≡ Refuses BadOption
  refused_unreported unreported = judged_first (Some BadOption) (hash_unreported version has.profile.hash has.content is.unfinished (carried_there false unreported))

  its : IsOpenFor has.profile has.content (open_at number id old.files.files)
  its = is.its

  here : IsAt old.files.files found.place its.file
  here = is.place ∙ its.there

  first_is : (P : Option Refusal → Type 0) → is_carried version found.row.profile.hash ≡ true → At old.files found.place (IsJudged P) → P (refusal_of (finish_checks version has.profile.hash has.content))
  first_is P reported said = said its.file here version has.profile has.content its.assembled is.unfinished (carried_there true reported)

  -- it is not identified
  pub comes_unfinished : (stamp : Stamp) (new : Holdings) (refusal : Refusal) → is_carried version found.row.profile.hash ≡ true
      → At old.files found.place (IsJudged (λ first. MatchBool (is_out_of_memory_of refusal) ⊤ (first ≡ Some refusal))) → Stays setting world old new
      → Comes setting world old new stamp (judge_finish setting world version number id) (replies.Refused refusal)
  comes_unfinished stamp new refusal reported said stays =
      comes_refused setting world old new stamp _ refusal (if_refused (is_out_of_memory_of refusal) (judged_first (Some refusal)) (first_is (λ first. MatchBool (is_out_of_memory_of refusal) ⊤ (first ≡ Some refusal)) reported said)) stays

  -- what was seen of the file at the place
  module _ (seen : files.Finding) (said : At old.files found.place (λ file. (pieces : List Piece) → StandsFor file pieces → IsFindingOf old.registry found.row.node.item.name found.row.profile.match_all file pieces seen)) where
    made : IsFindingOf old.registry found.row.node.item.name found.row.profile.match_all its.file.assembly has.content.pieces seen
    made = said its.file here has.content.pieces its.assembled.pieces

    digest_is : seen.sealed.hash ≡ digest_of has.profile.hash has.content
    digest_is = rw (its.assembled.hash, its.assembled.size, its.assembled.piece_size) at made.hash

    -- its hash is of the kind that the profile's row names
    pub kind_is : hash_value_kind seen.sealed.hash ≡ found.row.profile.hash
    kind_is = ap hash_value_kind digest_is ∙ kind_of_hash has.profile.hash (bytes_of has.content) ∙ ap (λ (p : ProfileRow). p.hash) (sym has.profile_is)

    -- what is found is the setting's
    finds : IsIn setting world old → seen.found ≡ found_in (identified setting has.profile has.name has.content)
    finds is_in =
        let reported : IsFound old.registry found.row.node.item.name (bytes_of has.content) has.profile.scan_limit found.row.profile.match_all seen.found =
        rw (its.assembled.size, its.assembled.piece_size, its.assembled.scan_limit) at made.found in
        let named = subst (λ (name : List ℕ). IsFound old.registry name (bytes_of has.content) has.profile.scan_limit found.row.profile.match_all seen.found) has.name_is reported in
        let of_profile = subst (λ (p : ProfileRow). IsFound old.registry has.name (bytes_of has.content) has.profile.scan_limit p.match_all seen.found) has.profile_is named in
        found_is setting world old has.name (bytes_of has.content) has.profile.scan_limit has.profile.match_all seen.found is_in of_profile

    seen_is : IsIn setting world old → finding_in seen ≡ finding
    seen_is is_in =
        ap (λ (it : Found). found_as (as_identification it) seen.sealed.hash) (finds is_in)
        ∙ ap (λ (d : HashValue). found_as (identified setting has.profile has.name has.content) d) digest_is

    abbrev finished_rows : Stamp → Rows
    finished_rows stamp = with_reply (stamped stamp (finished_reply finding)) (with_finding number id finding old.store)

    pub finished : (stamp : Stamp) (reply : Reply) (store : Rows) (mid new : OpenFiles) → IsIn setting world old → is_carried version found.row.profile.hash ≡ true
        → At old.files found.place (IsJudged (λ first. first ≡ None)) → IsKept stamp number id seen old.store store reply
        → IsAlikeBut found.place old.files mid → Turns old.files mid found.place IsUnchanged → IsWithout found.place mid new
        → Comes setting world old (record old { store = store; files = new }) stamp (judge_finish setting world version number id) reply
    finished stamp reply store mid new is_in reported allowed kept alike unchanged removed =
        let replied : reply ≡ finished_reply finding = kept.replied ∙ ap (λ (it : Finding). finished_reply it) (seen_is is_in) in
        let stored : store ≡ finished_rows stamp =
        kept.rows
        ∙ ap (λ (it : Reply). with_reply (stamped stamp it) (with_finding number id (finding_in seen) old.store)) replied
        ∙ ap (λ (it : Finding). with_reply (stamped stamp (finished_reply finding)) (with_finding number id it old.store)) (seen_is is_in) in
        let rows = file_finished setting world old.store (stamped stamp (finished_reply finding)) number has.profile id has.parent has.modified has.name has.content is_in.rows has.there has.at is.unfinished in
        let looked = assemblies_unchanged world old.files mid found.place is_in.files alike unchanged in
        let still = place_still world old.files mid found.place is_in.files alike unchanged number id is.place in
        unwanted (is_out_of_memory reply) _ _ (ap is_out_of_memory kept.replied) (rw (judged_first None (first_is (λ first. first ≡ None) reported allowed)) (
          replied,
          record {
            world_is = record {
              is_setting = record { limits = is_in.is_setting.limits; allowed = is_in.is_setting.allowed; registry = is_in.is_setting.registry };
              rows = subst (KeepsWorld setting after) (sym stored) rows;
              sound = sound_file_set world number has.profile id has.parent has.modified has.name has.content is_in.sound has.there has.at (as_finished has.content) refl refl;
              files = assemblies_finished world number has.profile id has.parent has.modified has.name has.content mid new found.place looked has.there has.at is.unfinished still removed;
              room = removed.limit ∙ alike.limit ∙ is_in.room;
            };
            replies = ap (λ (rows : Rows). rows.replies) stored;
          },
        ))
