-- What judging a request comes to by its kind: a command is accepted, a query answered, or it is refused by a refusal of judging.
use Rattle.std.proofs.Common.{◌≡◌, ℕ, ℤ, ◌+◌, Bool, true, false, cond, List, [], ◌∷◌, ◌++◌, length, take, drop, Option, Some, None, refl, ap}
use Rattle.droid_frame.specs.declared.filter.Filter.{Filter}
use Rattle.droid_frame.specs.declared.refusal.Refusal.{Refusal}
use Rattle.droid_frame.specs.declared.reply.Reply.{Reply}
use Rattle.droid_frame.specs.declared.reply.Reply.TheVariants as replies
use Rattle.droid_frame.specs.declared.request.Request.{Request}
use Rattle.droid_frame.specs.declared.request.Request.TheVariants.{CreateProfile, AddFolder, AddFile, Piece, Finish, Abandon, Status, Export}
use Rattle.droid_core_spec.specs.Exported.{part_of}
use Rattle.droid_core_spec.specs.Files.{count_of, missing_of, with_piece, as_finished, finding_of, finished_reply, progress_of}
use Rattle.droid_core_spec.specs.Judging.{Verdict, Accepted, Answered, Check, refusal_of, unless_refused, in_profile, in_file, world_set, with_node, node_set, create_checks, folder_checks, file_checks, piece_checks, finish_checks, abandon_checks, export_checks, judge, judge_create, judge_folder, judge_file, judge_piece, judge_finish, judge_abandon, judge_status, judge_export}
use Rattle.droid_core_spec.specs.Records.{records}
use Rattle.droid_core_spec.specs.Setting.{Setting}
use Rattle.droid_core_spec.specs.Verdicts.{is_of_judging, MayCome}
use Rattle.droid_frame.specs.Replies.{is_refused}
use Rattle.droid_core_spec.specs.World.{Content, Node, Folder, File, Abandoned, Profile, World, numbered, node_at, world_with}

abbrev AreOfJudging : List Check → Type 0
AreOfJudging [] = Unit {0}
AreOfJudging (check ∷ checks) = (is_of_judging check.1 ≡ true) × AreOfJudging checks

-- of two replies that are no refusals either is none
reported : (first : Bool) (one two : Reply) → is_refused one ≡ false → is_refused two ≡ false → is_refused (cond first one two) ≡ false
reported true one two is_carried other_reported = is_carried
reported false one two is_carried other_reported = other_reported

module _ (world : World) (request : Request) where
  refused_by : (b : Bool) (refusal : Refusal) (rest : Option Refusal) (verdict : Verdict) → is_of_judging refusal ≡ true → MayCome world request (unless_refused rest verdict) → MayCome world request (unless_refused (cond b (Some refusal) rest) verdict)
  refused_by true refusal rest verdict is judged = is
  refused_by false refusal rest verdict is judged = judged

  unless : (checks : List Check) (verdict : Verdict) → AreOfJudging checks → MayCome world request verdict → MayCome world request (unless_refused (refusal_of checks) verdict)
  unless [] verdict are judged = judged
  unless (check ∷ checks) verdict are judged = refused_by check.0 check.1 (refusal_of checks) verdict are.0 (unless checks verdict are.1 judged)

  in_a_profile : (profile : Option Profile) (judge_there : Profile → Verdict) → ((profile : Profile) → MayCome world request (judge_there profile)) → MayCome world request (in_profile profile judge_there)
  in_a_profile None judge_there judged = refl
  in_a_profile (Some profile) judge_there judged = judged profile

  in_a_file : (node : Option Node) (judge_there : ℕ → ℤ → List ℕ → Content → Verdict) → ((parent : ℕ) (modified : ℤ) (name : List ℕ) (content : Content) → MayCome world request (judge_there parent modified name content)) → MayCome world request (in_file node judge_there)
  in_a_file None judge_there judged = refl
  in_a_file (Some Abandoned) judge_there judged = refl
  in_a_file (Some (Folder parent modified name)) judge_there judged = refl
  in_a_file (Some (File parent modified name content)) judge_there judged = judged parent modified name content

  -- a request for a file of a profile
  in_file_of : (number file : ℕ) (checks : Profile → ℕ → ℤ → List ℕ → Content → List Check) (verdict : Profile → ℕ → ℤ → List ℕ → Content → Verdict)
      → ((profile : Profile) (parent : ℕ) (modified : ℤ) (name : List ℕ) (content : Content) → AreOfJudging (checks profile parent modified name content))
      → ((profile : Profile) (parent : ℕ) (modified : ℤ) (name : List ℕ) (content : Content) → MayCome world request (verdict profile parent modified name content))
      → MayCome world request (in_profile (numbered world.profiles number) (λ profile. in_file (node_at profile.nodes file) (λ parent modified name content. unless_refused (refusal_of (checks profile parent modified name content)) (verdict profile parent modified name content))))
  in_file_of number file checks verdict are judged =
      in_a_profile (numbered world.profiles number)
      (λ profile. in_file (node_at profile.nodes file) (λ parent modified name content. unless_refused (refusal_of (checks profile parent modified name content)) (verdict profile parent modified name content)))
      (λ profile. in_a_file (node_at profile.nodes file)
      (λ parent modified name content. unless_refused (refusal_of (checks profile parent modified name content)) (verdict profile parent modified name content))
      (λ parent modified name content. unless (checks profile parent modified name content) (verdict profile parent modified name content) (are profile parent modified name content) (judged profile parent modified name content)))

pub judged : (setting : Setting) (world : World) (version : ℕ) (request : Request) → MayCome world request (judge setting world version request)
unfolding judge judge_create judge_folder judge_file judge_piece judge_finish judge_abandon judge_status judge_export
judged setting world version (CreateProfile scan_limit match_all hash) =
    unless world (CreateProfile scan_limit match_all hash) (create_checks setting.limits world scan_limit)
    (Accepted (replies.Made (length world.profiles + 1)) (world_with world (world.profiles ++ record { scan_limit = scan_limit; match_all = match_all; hash = hash; nodes = [] } ∷ [])))
    (refl, (refl, tt)) (record { command = refl; no_refusal = refl; one_more = refl })
judged setting world version (AddFolder number parent modified name) =
    let request = AddFolder number parent modified name in
    let place = λ (profile : Profile). Accepted (replies.Node (length profile.nodes + 1)) (world_set world number (with_node profile (Folder parent modified name))) in
    in_a_profile world request (numbered world.profiles number)
    (λ profile. unless_refused (refusal_of (folder_checks setting.limits profile.nodes parent modified name)) (place profile))
    (λ profile. unless world request (folder_checks setting.limits profile.nodes parent modified name) (place profile)
    (refl, (refl, (refl, (refl, (refl, (refl, (refl, tt))))))) (record { command = refl; no_refusal = refl; one_more = refl }))
judged setting world version (AddFile number parent modified size piece_size name) =
    let request = AddFile number parent modified size piece_size name in
    let place = λ (profile : Profile). Accepted (replies.Node (length profile.nodes + 1)) (world_set world number (with_node profile (File parent modified name (record { size = size; piece_size = piece_size; pieces = []; finished = false })))) in
    in_a_profile world request (numbered world.profiles number)
    (λ profile. unless_refused (refusal_of (file_checks setting.limits world version profile.nodes parent modified size piece_size name)) (place profile))
    (λ profile. unless world request (file_checks setting.limits world version profile.nodes parent modified size piece_size name) (place profile)
    (refl, (refl, (refl, (refl, (refl, (refl, (refl, (refl, (refl, tt))))))))) (record { command = refl; no_refusal = refl; one_more = refl }))
judged setting world version (Piece number file index bytes) =
    in_file_of world (Piece number file index bytes) number file
    (λ profile parent modified name content. piece_checks content index bytes)
    (λ profile parent modified name content. Accepted (replies.Taken (length content.pieces + 1)) (world_set world number (node_set profile file (File parent modified name (with_piece content index bytes)))))
    (λ profile parent modified name content. (refl, (refl, (refl, (refl, tt)))))
    (λ profile parent modified name content. record { command = refl; no_refusal = refl; one_more = refl })
judged setting world version (Finish number file) =
    in_file_of world (Finish number file) number file
    (λ profile parent modified name content. finish_checks version profile.hash content)
    (λ profile parent modified name content. Accepted (finished_reply (finding_of setting profile name content)) (world_set world number (node_set profile file (File parent modified name (as_finished content)))))
    (λ profile parent modified name content. (refl, (refl, (refl, tt))))
    (λ profile parent modified name content. record { command = refl; no_refusal = refl; one_more = refl })
judged setting world version (Abandon number file) =
    in_file_of world (Abandon number file) number file
    (λ profile parent modified name content. abandon_checks content)
    (λ profile parent modified name content. Accepted replies.Abandoned (world_set world number (node_set profile file Abandoned)))
    (λ profile parent modified name content. (refl, tt))
    (λ profile parent modified name content. record { command = refl; no_refusal = refl; one_more = refl })
judged setting world version (Status number file) =
    in_file_of world (Status number file) number file
    (λ profile parent modified name content. [])
    (λ profile parent modified name content. Answered (progress_of content))
    (λ profile parent modified name content. tt)
    (λ profile parent modified name content. record {
      query = refl;
      no_refusal = reported content.finished (replies.Progress (count_of content) (count_of content)) (replies.Progress (length content.pieces) (missing_of content)) refl refl;
    })
judged setting world version (Export number from max filter) =
    let request = Export number from max filter in
    let place = λ (profile : Profile). Answered (part_of setting world.accepted profile from max filter) in
    in_a_profile world request (numbered world.profiles number)
    (λ profile. unless_refused (refusal_of (export_checks max)) (place profile))
    (λ profile. unless world request (export_checks max) (place profile) (refl, tt) (record { query = refl; no_refusal = refl }))

-- so it is of the verdict, whatever it is called
pub judged_as : (setting : Setting) (world : World) (version : ℕ) (request : Request) (verdict : Verdict) → judge setting world version request ≡ verdict → MayCome world request verdict
judged_as setting world version request verdict is = rw (← is) (judged setting world version request)

-- ---- the number that a part of an export reports

abbrev part_number : Verdict → ℕ
part_number (Answered (replies.Part as_of total bytes)) = as_of
part_number _ = 0

number_unless : (refused : Option Refusal) (as_of total its_as_of its_total : ℕ) (bytes its_bytes : List ℕ)
    → unless_refused refused (Answered (replies.Part its_as_of its_total its_bytes)) ≡ Answered (replies.Part as_of total bytes) → as_of ≡ its_as_of
number_unless None as_of total its_as_of its_total bytes its_bytes is = sym_number (ap part_number is)
  where
    sym_number : its_as_of ≡ as_of → as_of ≡ its_as_of
    sym_number same = cc
number_unless (Some refusal) as_of total its_as_of its_total bytes its_bytes is = absurd cc

pub exported_as_of : (setting : Setting) (world : World) (version number from max as_of total : ℕ) (filter : Filter) (bytes : List ℕ) → judge setting world version (Export number from max filter) ≡ Answered (replies.Part as_of total bytes) → as_of ≡ world.accepted
unfolding judge judge_export
exported_as_of setting world version number from max as_of total filter bytes is = by (numbered world.profiles number) is
  where
    by : (found : Option Profile) → in_profile found (λ profile. unless_refused (refusal_of (export_checks max)) (Answered (part_of setting world.accepted profile from max filter))) ≡ Answered (replies.Part as_of total bytes) → as_of ≡ world.accepted
    by None reported = absurd cc
    by (Some profile) reported =
        let text = setting.export_text (records setting profile) filter profile.hash in
        number_unless (refusal_of (export_checks max)) as_of total world.accepted (length text) bytes (take max (drop from text)) reported
