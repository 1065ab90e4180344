-- What comes of a piece of a file that was found.
use Rattle.std.proofs.Common.{◌≡◌, ℕ, ◌+◌, ◌++◌, ◌∷◌, [], List, length, false, Some, None, Option, refl, sym, ap, subst, ◌∙◌}
use Rattle.std.specs.Prelude.{ℤ}
use Rattle.droid_assembly.specs.Pieces as pieces
use Rattle.droid_assembly.specs.State.{StandsFor, IsOfSameFile, with_pending}
use Rattle.droid_frame.specs.declared.refusal.Refusal.{Refusal}
use Rattle.droid_frame.specs.declared.refusal.Refusal.TheVariants.{Memory}
use Rattle.droid_frame.specs.declared.reply.Reply.TheVariants as replies
use Rattle.droid_core_spec.specs.Files.{with_piece}
use Rattle.droid_core_spec.specs.Histories.{verdict_reply}
use Rattle.droid_core_spec.specs.Judging.{Verdict, Accepted, unless_refused, refusal_of, piece_checks, judge_piece, world_set, node_set}
use Rattle.droid_core_spec.specs.Setting.{Setting}
use Rattle.droid_core_spec.specs.World.{Content, File, Profile, World}
use Rattle.droid_core.specs.Rows.{KeepsWorld}
use Rattle.droid_core.proofs.Soundness.{sound_file_set}
use Rattle.droid_core.proofs.Taken.{piece_taken}
use Rattle.droid_store.specs.Changes.{with_reply}
use Rattle.droid_store.specs.Rows.{Rows}
use Rattle.droid_core.specs.Files.{OpenFiles, IsAt, At, Turns, IsAlikeBut}
use Rattle.droid_core.specs.Assemblies.{IsAssemblyOf}
use Rattle.droid_core.specs.Changes.{Stays, Leaves, Comes, stamped}
use Rattle.droid_core.specs.declared.holdings.Holdings.{Holdings}
use Rattle.droid_core.specs.declared.file_rows.UnfinishedRow.{UnfinishedRow}
use Rattle.droid_core.specs.declared.stamps.Stamp.{Stamp}
use Rattle.droid_core.specs.FileLookUps.{HasFile, HasUnfinished, for_file}
use Rattle.droid_core.specs.HoldingsStanding.{IsIn}
use Rattle.droid_core.proofs.FileVerdicts.{judged_there}
use Rattle.droid_core.proofs.PieceAssemblies.{assemblies_grown, assemblies_as_before}

-- what comes of a piece of this file
abbrev pub piece_there : World → ℕ → ℕ → ℕ → List ℕ → Profile → ℕ → ℤ → List ℕ → Content → Verdict
piece_there world number id index bytes profile parent modified name content =
    unless_refused (refusal_of (piece_checks content index bytes))
    (Accepted (replies.Taken (length content.pieces + 1)) (world_set world number (node_set profile id (File parent modified name (with_piece content index bytes)))))

pub piece_for_file : (world : World) (number id index : ℕ) (bytes : List ℕ) → judge_piece world number id index bytes ≡ for_file world number id (piece_there world number id index bytes)
unfolding judge_piece
piece_for_file world number id index bytes = refl

-- where the rows and the files are as before, the service is
pub stays_as : (setting : Setting) (world : World) (old : Holdings) (store : Rows) (files : OpenFiles) → store ≡ old.store → files ≡ old.files → IsIn setting world old
    → Stays setting world old (record old { store = store; files = files })
stays_as setting world old store files same_store same_files is_in = rw (same_store, same_files) (record { world_is = is_in; replies = refl })

-- memory ran out, and nothing changed
pub comes_out_of_memory : (setting : Setting) (world : World) (old new : Holdings) (stamp : Stamp) (verdict : Verdict) (refusal : Refusal) → refusal ≡ Memory → Stays setting world old new
    → Comes setting world old new stamp verdict (replies.Refused refusal)
comes_out_of_memory setting world old new stamp verdict refusal memory stays = rw memory stays

pub same_files : (old new : OpenFiles) → new.limit ≡ old.limit → new.files ≡ old.files → new ≡ old
same_files old new limit files =
    ap (λ n. let all : OpenFiles = record { limit = n; files = new.files } in all) limit
    ∙ ap (λ them. let all : OpenFiles = record { limit = old.limit; files = them } in all) files

module _ (setting : Setting) (world : World) (number id : ℕ) (old : Holdings) (found : UnfinishedRow) (is : HasUnfinished world old.files number id found) (index : ℕ) (bytes : List ℕ) where
  abbrev has : HasFile world number id found.row
  has = is.file

  -- where nothing refuses it
  abbrev after : World
  after = world_set world number (node_set has.profile id (File has.parent has.modified has.name (with_piece has.content index bytes)))

  abbrev IsFirst : Option Refusal → Type 0
  IsFirst first = first ≡ refusal_of (piece_checks has.content index bytes)

  pub judged_first : (first : Option Refusal) → IsFirst first → judge_piece world number id index bytes ≡ unless_refused first (Accepted (replies.Taken (length has.content.pieces + 1)) after)
  judged_first first is_first =
      piece_for_file world number id index bytes
      ∙ judged_there world number id found.row has (piece_there world number id index bytes)
      ∙ ap (λ it. unless_refused it (Accepted (replies.Taken (length has.content.pieces + 1)) after)) (sym is_first)

  here : IsAt old.files.files found.place is.its.file
  here = is.place ∙ is.its.there

  pub judged_by_put : (put : Option Refusal) → At old.files found.place (λ assembly. (profile : Profile) (content : Content) → IsAssemblyOf profile content assembly → content.finished ≡ false → put ≡ refusal_of (piece_checks content index bytes))
      → IsFirst put
  judged_by_put put said = said is.its.file here has.profile has.content is.its.assembled is.unfinished

  pub held_is : (held : ℕ) → At old.files found.place (λ assembly. (taken : List pieces.Piece) → StandsFor assembly taken → held ≡ length taken) → held + 1 ≡ length has.content.pieces + 1
  held_is held said = ap (λ n. n + 1) (said is.its.file here has.content.pieces is.its.assembled.pieces)

  module _ (store : Rows) (mid new : OpenFiles) (first : IsAlikeBut found.place old.files mid) (second : IsAlikeBut found.place mid new)
      (put : Turns old.files mid found.place (λ before after. after ≡ with_pending before (Some (index, bytes)))) (is_in : IsIn setting world old) where
    -- the reply was not kept
    pub not_kept : store ≡ old.store → Turns mid new found.place (λ before after. after ≡ with_pending before None) → Stays setting world old (record old { store = store; files = new })
    not_kept same back =
        let files = assemblies_as_before world old.files mid new found.place first second index bytes put is_in.files number has.profile id has.parent has.modified has.name has.content has.there has.at is.unfinished is.place back in
        stays_as setting world old store new same (same_files old.files new (second.limit ∙ first.limit) files) is_in

    pub taken : (stamp : Stamp) (held : ℕ) → held ≡ length has.content.pieces + 1 → store ≡ with_reply (stamped stamp (replies.Taken held)) old.store → IsFirst None
        → Turns old.files mid found.place (λ before after. (all : List pieces.Piece) → StandsFor before all → StandsFor after all)
        → Turns mid new found.place (λ before after. (all : List pieces.Piece) (piece : pieces.Piece) → StandsFor before all → before.pending ≡ Some piece → StandsFor after (all ++ piece ∷ []))
        → Turns mid new found.place IsOfSameFile → Turns mid new found.place (λ before after. after.pending ≡ None)
        → (replies.Taken held ≡ verdict_reply (judge_piece world number id index bytes)) × Leaves setting world old (record old { store = store; files = new }) stamp (judge_piece world number id index bytes)
    taken stamp held counted stored allowed stood settled same_file none_pending =
        let entry = stamped stamp (replies.Taken (length has.content.pieces + 1)) in
        let kept : store ≡ with_reply entry old.store = stored ∙ ap (λ n. with_reply (stamped stamp (replies.Taken n)) old.store) counted in
        let rows = piece_taken setting world old.store entry number has.profile id has.parent has.modified has.name has.content index bytes is_in.rows has.there has.at is.unfinished in
        rw (judged_first None allowed) (
          ap replies.Taken counted,
          record {
            world_is = record {
              is_setting = record { limits = is_in.is_setting.limits; allowed = is_in.is_setting.allowed; registry = is_in.is_setting.registry };
              rows = subst (KeepsWorld setting after) (sym kept) rows;
              sound = sound_file_set world number has.profile id has.parent has.modified has.name has.content is_in.sound has.there has.at (with_piece has.content index bytes) refl refl;
              files = assemblies_grown world old.files mid new found.place first second index bytes put is_in.files number has.profile id has.parent has.modified has.name has.content has.there has.at is.unfinished is.place stood settled same_file none_pending;
              room = second.limit ∙ first.limit ∙ is_in.room;
            };
            replies = ap (λ (rows : Rows). rows.replies) kept;
          },
        )
