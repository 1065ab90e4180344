-- The replies to an accepted piece and to an accepted Finish.
use Rattle.std.proofs.Common.{◌≡◌, ℕ, ◌+◌, ℤ, List, length, true, Option, Some, None, sym, ap, subst, ◌∙◌}
use Rattle.std.specs.List.{AllByRecursion}
use Rattle.droid_frame.specs.Replies.{reply_kind}
use Rattle.droid_frame.specs.declared.refusal.Refusal.{Refusal}
use Rattle.droid_frame.specs.declared.reply.Reply.{Reply}
use Rattle.droid_frame.specs.declared.reply.Reply.TheVariants.{Taken}
use Rattle.droid_frame.specs.declared.request.Request.TheVariants.{Piece, Finish}
use Rattle.droid_recovery.proofs.BareEnds.{finishes_bare}
use Rattle.droid_recovery.specs.BareWorlds.{Bare}
use Rattle.droid_recovery.specs.FoundWords.{FindsWords}
use Rattle.droid_core_spec.proofs.ByKind.{is_piece}
use Rattle.droid_core_spec.specs.Files.{Finding, bytes_of, finding_of, finished_reply, with_piece}
use Rattle.droid_core_spec.specs.Judging.{Verdict, Accepted, in_file, in_profile, judge, judge_piece, node_set, piece_checks, refusal_of, unless_refused, world_set}
use Rattle.droid_core_spec.specs.Setting.{Setting}
use Rattle.droid_core_spec.specs.World.{Content, Node, Folder, File, Abandoned, Profile, World, node_at, numbered}
use Rattle.droid_store.specs.Changes.{IsWord}

by_checks : (first : Option Refusal) (held : ℕ) (left after : World) (reply : Reply) → unless_refused first (Accepted (Taken held) left) ≡ Accepted reply after → reply_kind reply ≡ 131
by_checks (Some refusal) held left after reply is = absurd cc
by_checks None held left after reply is =
    let same : Taken held ≡ reply = cc in
    ap reply_kind (sym same)

module _ (world after : World) (number id index : ℕ) (bytes : List ℕ) (reply : Reply) where
  abbrev judged_there : Profile → ℕ → ℤ → List ℕ → Content → Verdict
  judged_there its parent modified name content =
      unless_refused (refusal_of (piece_checks content index bytes)) (Accepted (Taken (length content.pieces + 1)) (world_set world number (node_set its id (File parent modified name (with_piece content index bytes)))))

  by_node : (its : Profile) (found : Option Node) → in_file found (judged_there its) ≡ Accepted reply after → reply_kind reply ≡ 131
  by_node its None is = absurd cc
  by_node its (Some (Folder parent modified name)) is = absurd cc
  by_node its (Some (File parent modified name content)) is = by_checks (refusal_of (piece_checks content index bytes)) _ _ after reply is
  by_node its (Some Abandoned) is = absurd cc

  by_profile : (found : Option Profile) → in_profile found (λ its. in_file (node_at its.nodes id) (judged_there its)) ≡ Accepted reply after → reply_kind reply ≡ 131
  by_profile None is = absurd cc
  by_profile (Some its) is = by_node its (node_at its.nodes id) is

  by_piece : judge_piece world number id index bytes ≡ Accepted reply after → reply_kind reply ≡ 131
  unfolding judge_piece
  by_piece is = by_profile (numbered world.profiles number) is

pub piece_is_taken : (setting : Setting) (world after : World) (version number id index : ℕ) (bytes : List ℕ) (reply : Reply) → judge setting world version (Piece number id index bytes) ≡ Accepted reply after → reply_kind reply ≡ 131
piece_is_taken setting world after version number id index bytes reply accepted = by_piece world after number id index bytes reply (sym (is_piece setting world version number id index bytes) ∙ accepted)

same_puids : (one other : Finding) → finished_reply one ≡ finished_reply other → one.puids ≡ other.puids
same_puids one other same = cc

pub finish_is_finished : (setting : Setting) (bare : Bare) (world after : World) (version number id : ℕ) (reply : Reply) → bare number id ≡ true → judge setting world version (Finish number id) ≡ Accepted reply after → reply_kind reply ≡ 132
finish_is_finished setting bare world after version number id reply is_bare accepted = ap reply_kind (finishes_bare setting bare world after version number id reply is_bare accepted).replied

pub finish_finds_words : (setting : Setting) (bare : Bare) (world after : World) (version number id : ℕ) (reply : Reply) → FindsWords setting → bare number id ≡ true → judge setting world version (Finish number id) ≡ Accepted reply after
    → (finding : Finding) → reply ≡ finished_reply finding → AllByRecursion IsWord finding.puids
finish_finds_words setting bare world after version number id reply words is_bare accepted finding same_reply =
    let it = finishes_bare setting bare world after version number id reply is_bare accepted in
    let its = finding_of setting it.its it.name it.content in
    let same : its.puids ≡ finding.puids = same_puids its finding (sym it.replied ∙ same_reply) in
    subst (AllByRecursion IsWord) same (words it.name (bytes_of it.content) it.its.scan_limit it.its.match_all)
