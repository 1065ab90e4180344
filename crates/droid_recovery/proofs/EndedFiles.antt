-- A file that has ended stays so, whatever is accepted after it.
use Rattle.std.proofs.Common.{◌≡◌, inl, inr, ℕ, ◌+◌, ◌-◌, ◌<◌, ◌==◌, ℤ, List, [], ◌∷◌, ◌++◌, length, slice_set, Bool, true, false, cond, Option, Some, None, refl, sym, ap, subst, ◌∙◌, append_assoc, append-nil, arith}
use Rattle.std.proofs.lemmas.Bool.{cases_Bool, eqb-true, eqb-false, false≢true, ltb-true, ltb-false}
use Rattle.std.specs.Prelude.{nat_lt}
use Rattle.droid_frame.specs.declared.filter.Filter.{Filter}
use Rattle.droid_frame.specs.declared.hash_kind.HashKind.{HashKind}
use Rattle.droid_frame.specs.declared.refusal.Refusal.{Refusal}
use Rattle.droid_frame.specs.declared.refusal.Refusal.TheVariants.{AlreadyFinished}
use Rattle.droid_frame.specs.declared.reply.Reply.{Reply}
use Rattle.droid_frame.specs.declared.reply.Reply.TheVariants as replies
use Rattle.droid_frame.specs.declared.request.Request.{Request}
use Rattle.droid_frame.specs.declared.request.Request.TheVariants.{CreateProfile, AddFolder, AddFile, Piece, Finish, Abandon, Status, Export}
use Rattle.droid_recovery.specs.BareWorlds.{Bare, HaveEnded}
use Rattle.droid_recovery.specs.Ending.{Ends, IsEnded, has_ended}
use Rattle.droid_core_spec.proofs.After.{after_checks, after_file, after_profile}
use Rattle.droid_core_spec.proofs.ByKind.{is_create, is_folder, is_file, is_piece, is_finish, is_abandon, is_status, is_export}
use Rattle.droid_core_spec.proofs.Legal.{world_next}
use Rattle.droid_core_spec.specs.Exported.{part_of}
use Rattle.droid_core_spec.specs.Files.{as_finished, finding_of, finished_reply, progress_of, with_piece}
use Rattle.droid_core_spec.specs.Histories.{Entry, GoesOn, History, IsLegal, IsNext, command, world_after, world_of}
use Rattle.droid_core_spec.specs.Judging.{Check, Verdict, Accepted, Answered, create_checks, folder_checks, file_checks, piece_checks, finish_checks, abandon_checks, export_checks, in_file, in_profile, judge, judge_create, judge_folder, judge_file, judge_piece, judge_finish, judge_abandon, judge_status, judge_export, node_set, refusal_of, unless_refused, with_node, world_set}
use Rattle.droid_core_spec.specs.Setting.{Setting}
use Rattle.droid_core_spec.specs.World.{Content, Node, Folder, File, Abandoned, Profile, World, numbered, node_at, unless_abandoned, world_with}
use Rattle.droid_recovery.proofs.BareVerdicts.{file_here}
use Rattle.droid_recovery.proofs.Items.{numbered_before, numbered_past, numbered_set_other, numbered_set_same}

-- ---- where an item is

some_same : {X : Type 0} {x y : X} → Some x ≡ Some y → x ≡ y
some_same is = cc

-- an item that is there has a number that is not past the end
is_within : {X : Type 0} (xs : List X) (number : ℕ) (x : X) → numbered xs number ≡ Some x → number < length xs + 1
is_within xs number x is = elim (cases_Bool (nat_lt number (length xs + 1))) [
  | inl low ↦ ltb-true number (length xs + 1) low
  | inr high ↦ absurd (let past = ltb-false number (length xs + 1) high in
      let none = numbered_past xs number (omega arith) in
      let it = sym is ∙ none in cc)
]

module _ (world : World) (profile file : ℕ) (is : IsEnded world profile file) where
  -- one profile more
  made : (fresh : Profile) → IsEnded (world_with world (world.profiles ++ fresh ∷ [])) profile file
  made fresh = record { its = is.its; node = is.node; there = numbered_before world.profiles (fresh ∷ []) profile (is_within world.profiles profile is.its is.there) ∙ is.there; at = is.at; ended = is.ended }

  -- another profile in the place of one
  set_elsewhere : (number : ℕ) (its after : Profile) → numbered world.profiles number ≡ Some its → (profile ≡ number → ⊥) → IsEnded (world_set world number after) profile file
  set_elsewhere number its after there apart = record { its = is.its; node = is.node; there = numbered_set_other world.profiles number profile its after there apart ∙ is.there; at = is.at; ended = is.ended }

  set_here : (number : ℕ) (its after : Profile) → numbered world.profiles number ≡ Some its → profile ≡ number → (its ≡ is.its → (node : Node) × (numbered after.nodes file ≡ Some node) × (has_ended node ≡ true)) → IsEnded (world_set world number after) profile file
  set_here number its after there same still =
      let own : its ≡ is.its = some_same (sym there ∙ subst (λ n. numbered world.profiles n ≡ Some is.its) same is.there) in
      let now = still own in
      subst (λ n. IsEnded (world_set world number after) n file) (sym same)
      (record { its = after; node = now.0; there = numbered_set_same world.profiles number its after there; at = now.1; ended = now.2 })

  set_either : (number : ℕ) (its after : Profile) → numbered world.profiles number ≡ Some its → (its ≡ is.its → (node : Node) × (numbered after.nodes file ≡ Some node) × (has_ended node ≡ true)) → IsEnded (world_set world number after) profile file
  set_either number its after there still = elim (cases_Bool (profile == number)) [
    | inl same ↦ set_here number its after there (eqb-true profile number same) still
    | inr other ↦ set_elsewhere number its after there (eqb-false profile number other)
  ]

  -- one node more
  added : (number : ℕ) (its : Profile) (node : Node) → numbered world.profiles number ≡ Some its → IsEnded (world_set world number (with_node its node)) profile file
  added number its node there = set_either number its (with_node its node) there
      (λ own. let here : numbered its.nodes file ≡ Some is.node = rw own is.at in (is.node, numbered_before its.nodes (node ∷ []) file (is_within its.nodes file is.node here) ∙ here, is.ended))

  -- a node in the place of an unfinished file
  turned : (number id : ℕ) (its : Profile) (parent : ℕ) (modified : ℤ) (name : List ℕ) (content : Content) (after : Node) → numbered world.profiles number ≡ Some its → node_at its.nodes id ≡ Some (File parent modified name content)
      → content.finished ≡ false → IsEnded (world_set world number (node_set its id after)) profile file
  turned number id its parent modified name content after there at unfinished = set_either number its (node_set its id after) there (λ own. still (rw own is.at))
    where
      was : numbered its.nodes id ≡ Some (File parent modified name content)
      was = file_here its.nodes id parent modified name content at

      still : numbered its.nodes file ≡ Some is.node → (node : Node) × (numbered (node_set its id after).nodes file ≡ Some node) × (has_ended node ≡ true)
      still here = elim (cases_Bool (file == id)) [
        | inl same ↦ absurd (
            let equal = eqb-true file id same in
            let one : is.node ≡ File parent modified name content = some_same (sym here ∙ subst (λ n. numbered its.nodes n ≡ Some (File parent modified name content)) (sym equal) was) in
            let says : has_ended (File parent modified name content) ≡ true = subst (λ n. has_ended n ≡ true) one is.ended in
            false≢true (sym unfinished ∙ says))
        | inr other ↦ (is.node, numbered_set_other its.nodes id file (File parent modified name content) after was (eqb-false file id other) ∙ here, is.ended)
      ]

first_holds_not : (b : Bool) (refusal : Refusal) (more : Option Refusal) → cond b (Some refusal) more ≡ None → b ≡ false
first_holds_not true refusal more is = absurd cc
first_holds_not false refusal more is = refl

-- ---- after a request

module _ (setting : Setting) (world : World) (profile file : ℕ) (is : IsEnded world profile file) where
  abbrev Still : World → Type 0
  Still after = IsEnded after profile file

  after_create : (scan_limit : ℕ) (match_all : Bool) (hash : HashKind) → Still (world_after world (judge_create setting world scan_limit match_all hash))
  unfolding judge_create
  after_create scan_limit match_all hash =
      let fresh : Profile = record { scan_limit = scan_limit; match_all = match_all; hash = hash; nodes = [] } in
      after_checks world Still is (refusal_of (create_checks setting.limits world scan_limit)) (Accepted (replies.Made (length world.profiles + 1)) (world_with world (world.profiles ++ fresh ∷ []))) (λ none. made world profile file is fresh)

  after_folder : (number parent : ℕ) (modified : ℤ) (name : List ℕ) → Still (world_after world (judge_folder setting world number parent modified name))
  unfolding judge_folder
  after_folder number parent modified name = after_profile world Still is (numbered world.profiles number) _ (λ its there.
      let node = Folder parent modified name in
      after_checks world Still is (refusal_of (folder_checks setting.limits its.nodes parent modified name)) (Accepted (replies.Node (length its.nodes + 1)) (world_set world number (with_node its node))) (λ none. added world profile file is number its node there))

  after_add_file : (version number parent : ℕ) (modified : ℤ) (size piece_size : ℕ) (name : List ℕ) → Still (world_after world (judge_file setting world version number parent modified size piece_size name))
  unfolding judge_file
  after_add_file version number parent modified size piece_size name = after_profile world Still is (numbered world.profiles number) _ (λ its there.
      let node = File parent modified name (record { size = size; piece_size = piece_size; pieces = []; finished = false }) in
      after_checks world Still is (refusal_of (file_checks setting.limits world version its.nodes parent modified size piece_size name)) (Accepted (replies.Node (length its.nodes + 1)) (world_set world number (with_node its node))) (λ none. added world profile file is number its node there))

  after_piece : (number id index : ℕ) (bytes : List ℕ) → Still (world_after world (judge_piece world number id index bytes))
  unfolding judge_piece
  after_piece number id index bytes = after_profile world Still is (numbered world.profiles number) _ (λ its there. after_file world Still is (node_at its.nodes id) _ (λ parent modified name content at.
      let node = File parent modified name (with_piece content index bytes) in
      after_checks world Still is (refusal_of (piece_checks content index bytes)) (Accepted (replies.Taken (length content.pieces + 1)) (world_set world number (node_set its id node)))
      (λ none. turned world profile file is number id its parent modified name content node there at (first_holds_not content.finished AlreadyFinished _ none))))

  after_finish : (version number id : ℕ) → Still (world_after world (judge_finish setting world version number id))
  unfolding judge_finish
  after_finish version number id = after_profile world Still is (numbered world.profiles number) _ (λ its there. after_file world Still is (node_at its.nodes id) _ (λ parent modified name content at.
      let node = File parent modified name (as_finished content) in
      after_checks world Still is (refusal_of (finish_checks version its.hash content)) (Accepted (finished_reply (finding_of setting its name content)) (world_set world number (node_set its id node)))
      (λ none. turned world profile file is number id its parent modified name content node there at (first_holds_not content.finished AlreadyFinished _ none))))

  after_abandon : (number id : ℕ) → Still (world_after world (judge_abandon world number id))
  unfolding judge_abandon
  after_abandon number id = after_profile world Still is (numbered world.profiles number) _ (λ its there. after_file world Still is (node_at its.nodes id) _ (λ parent modified name content at.
      let node = Abandoned in
      after_checks world Still is (refusal_of (abandon_checks content)) (Accepted (replies.Abandoned) (world_set world number (node_set its id node)))
      (λ none. turned world profile file is number id its parent modified name content node there at (first_holds_not content.finished AlreadyFinished _ none))))

  after_status : (number id : ℕ) → Still (world_after world (judge_status world number id))
  unfolding judge_status
  after_status number id = after_profile world Still is (numbered world.profiles number) _ (λ its there. after_file world Still is (node_at its.nodes id) (λ parent modified name content. Answered (progress_of content)) (λ parent modified name content at. is))

  after_export : (number from max : ℕ) (filter : Filter) → Still (world_after world (judge_export setting world number from max filter))
  unfolding judge_export
  after_export number from max filter = after_profile world Still is (numbered world.profiles number) _ (λ its there. after_checks world Still is (refusal_of (export_checks max)) (Answered (part_of setting world.accepted its from max filter)) (λ none. is))

  after_request : (version : ℕ) (request : Request) → Still (world_after world (judge setting world version request))
  after_request version (CreateProfile scan_limit match_all hash) = rw (is_create setting world version scan_limit match_all hash) (after_create scan_limit match_all hash)
  after_request version (AddFolder number parent modified name) = rw (is_folder setting world version number parent modified name) (after_folder number parent modified name)
  after_request version (AddFile number parent modified size piece_size name) = rw (is_file setting world version number parent modified size piece_size name) (after_add_file version number parent modified size piece_size name)
  after_request version (Piece number id index bytes) = rw (is_piece setting world version number id index bytes) (after_piece number id index bytes)
  after_request version (Finish number id) = rw (is_finish setting world version number id) (after_finish version number id)
  after_request version (Abandon number id) = rw (is_abandon setting world version number id) (after_abandon number id)
  after_request version (Status number id) = rw (is_status setting world version number id) (after_status number id)
  after_request version (Export number from max filter) = rw (is_export setting world version number from max filter) (after_export number from max filter)

-- ---- the end of a file

module _ (world : World) (number id : ℕ) (reply : Reply) (after : World) (checks : Profile → Content → List Check) (replied : Profile → List ℕ → Content → Reply) (turn : ℕ → ℤ → List ℕ → Content → Node)
    (ends : (parent : ℕ) (modified : ℤ) (name : List ℕ) (content : Content) → has_ended (turn parent modified name content) ≡ true) where
  abbrev there_judged : Profile → ℕ → ℤ → List ℕ → Content → Verdict
  there_judged its parent modified name content = unless_refused (refusal_of (checks its content)) (Accepted (replied its name content) (world_set world number (node_set its id (turn parent modified name content))))

  by_checks : (its : Profile) (parent : ℕ) (modified : ℤ) (name : List ℕ) (content : Content) → numbered world.profiles number ≡ Some its → node_at its.nodes id ≡ Some (File parent modified name content)
      → (first : Option Refusal) → unless_refused first (Accepted (replied its name content) (world_set world number (node_set its id (turn parent modified name content)))) ≡ Accepted reply after → IsEnded after number id
  by_checks its parent modified name content there at (Some refusal) is = absurd cc
  by_checks its parent modified name content there at None is =
      let left : world_set world number (node_set its id (turn parent modified name content)) ≡ after = cc in
      subst (λ w. IsEnded w number id) left (record {
        its = node_set its id (turn parent modified name content);
        node = turn parent modified name content;
        there = numbered_set_same world.profiles number its _ there;
        at = numbered_set_same its.nodes id (File parent modified name content) _ (file_here its.nodes id parent modified name content at);
        ended = ends parent modified name content;
      })

  by_node : (its : Profile) → numbered world.profiles number ≡ Some its → (found : Option Node) → node_at its.nodes id ≡ found → in_file found (there_judged its) ≡ Accepted reply after → IsEnded after number id
  by_node its there None at is = absurd cc
  by_node its there (Some (Folder parent modified name)) at is = absurd cc
  by_node its there (Some (File parent modified name content)) at is = by_checks its parent modified name content there at (refusal_of (checks its content)) is
  by_node its there (Some Abandoned) at is = absurd cc

  by_profile : (found : Option Profile) → numbered world.profiles number ≡ found → in_profile found (λ its. in_file (node_at its.nodes id) (there_judged its)) ≡ Accepted reply after → IsEnded after number id
  by_profile None there is = absurd cc
  by_profile (Some its) there is = by_node its there (node_at its.nodes id) refl is

finish_ends : (setting : Setting) (world after : World) (version number id : ℕ) (reply : Reply) → judge_finish setting world version number id ≡ Accepted reply after → IsEnded after number id
unfolding judge_finish
finish_ends setting world after version number id reply is =
    by_profile world number id reply after (λ its content. finish_checks version its.hash content) (λ its name content. finished_reply (finding_of setting its name content)) (λ parent modified name content. File parent modified name (as_finished content)) (λ parent modified name content. refl) (numbered world.profiles number) refl is

abandon_ends : (world after : World) (number id : ℕ) (reply : Reply) → judge_abandon world number id ≡ Accepted reply after → IsEnded after number id
unfolding judge_abandon
abandon_ends world after number id reply is =
    by_profile world number id reply after (λ its content. abandon_checks content) (λ its name content. replies.Abandoned) (λ parent modified name content. Abandoned) (λ parent modified name content. refl) (numbered world.profiles number) refl is

-- ---- histories

split : (setting : Setting) (start before later : History) → GoesOn setting start (before ++ later) → GoesOn setting (start ++ before) later
split setting start [] later legal = subst (λ (h : History). GoesOn setting h later) (sym (append-nil start)) legal
split setting start (entry ∷ before) later legal = subst (λ (h : History). GoesOn setting h later) (append_assoc start (entry ∷ []) before) (split setting (start ++ entry ∷ []) before later legal.1)

pub stays_ended : (setting : Setting) (before later : History) (profile file : ℕ) → GoesOn setting before later → IsEnded (world_of setting before) profile file → IsEnded (world_of setting (before ++ later)) profile file
stays_ended setting before [] profile file legal is = subst (λ (h : History). IsEnded (world_of setting h) profile file) (sym (append-nil before)) is
stays_ended setting before (entry ∷ later) profile file legal is =
    let may = legal.0 in
    let after = subst (λ (v : Verdict). IsEnded (world_after (world_of setting before) v) profile file) may.accepted (after_request setting (world_of setting before) profile file is entry.frame.version may.request) in
    let now = subst (λ (w : World). IsEnded w profile file) (sym (world_next setting before entry may)) after in
    subst (λ (h : History). IsEnded (world_of setting h) profile file) (append_assoc before (entry ∷ []) later)
    (stays_ended setting (before ++ entry ∷ []) later profile file legal.1 now)

ends_now : (setting : Setting) (before : History) (entry : Entry) (may : IsNext setting before entry) (profile file : ℕ) → Ends entry profile file → IsEnded may.after profile file
ends_now setting before entry may profile file (inl is) =
    let request : may.request ≡ Finish profile file = some_same (sym may.asked ∙ is) in
    let accepted = subst (λ (r : Request). judge setting (world_of setting before) entry.frame.version r ≡ Accepted entry.reply may.after) request may.accepted in
    finish_ends setting (world_of setting before) may.after entry.frame.version profile file entry.reply (sym (is_finish setting (world_of setting before) entry.frame.version profile file) ∙ accepted)
ends_now setting before entry may profile file (inr is) =
    let request : may.request ≡ Abandon profile file = some_same (sym may.asked ∙ is) in
    let accepted = subst (λ (r : Request). judge setting (world_of setting before) entry.frame.version r ≡ Accepted entry.reply may.after) request may.accepted in
    abandon_ends (world_of setting before) may.after profile file entry.reply (sym (is_abandon setting (world_of setting before) entry.frame.version profile file) ∙ accepted)

pub ended_in : (setting : Setting) (before later : History) (entry : Entry) (profile file : ℕ) → IsLegal setting (before ++ entry ∷ later) → Ends entry profile file
    → IsEnded (world_of setting (before ++ entry ∷ later)) profile file
ended_in setting before later entry profile file legal ends =
    let on = split setting [] before (entry ∷ later) legal in
    let after = ends_now setting before entry on.0 profile file ends in
    let now = subst (λ (w : World). IsEnded w profile file) (sym (world_next setting before entry on.0)) after in
    subst (λ (h : History). IsEnded (world_of setting h) profile file) (append_assoc before (entry ∷ []) later)
    (stays_ended setting (before ++ entry ∷ []) later profile file on.1 now)

pub have_ended : (bare : Bare) (world : World) → ((profile file : ℕ) → bare profile file ≡ true → IsEnded world profile file) → HaveEnded bare world
have_ended bare world each profile id parent modified name content its there here is_bare =
    let it = each profile id is_bare in
    let same : it.its ≡ its = some_same (sym it.there ∙ there) in
    let node : it.node ≡ File parent modified name content = some_same (sym it.at ∙ subst (λ (p : Profile). numbered p.nodes id ≡ Some (File parent modified name content)) (sym same) here) in
    subst (λ (n : Node). has_ended n ≡ true) node it.ended
