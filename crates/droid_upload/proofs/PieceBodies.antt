-- The body of a Piece, and the bytes in it.
use Rattle.std.proofs.Common.{◌≡◌, ℕ, ◌+◌, ◌-◌, ◌<◌, min, List, ◌++◌, length, drop, refl, ap, subst, ◌∙◌, append_assoc}
use Rattle.std.proofs.lemmas.List.{get_or-append-add}
use Rattle.droid_frame.specs.Bodies.{SpellsRequest}
use Rattle.droid_frame.specs.Fields.{IsBytes, IsU32, u32_bytes}
use Rattle.droid_frame.specs.declared.request.Request.TheVariants.{Piece}
use Rattle.droid_frame.specs.RunningHashes.{running_kind, HoldsAll}
use Rattle.droid_frame.specs.declared.running_hash.RunningHash.{RunningHash}
use Rattle.droid_tree.specs.Observation.{Read}
use Rattle.droid_tree.specs.Reading.{ReadsPiece}
use Rattle.droid_tree.specs.declared.folder_entry.FolderEntry.{FolderEntry}
use Rattle.droid_upload.specs.Deeds.{Deed, Observed}
use Rattle.droid_upload.specs.Steps.{Hashes, Sees, begin, piece_head, wanted_at}
use Rattle.droid_upload.specs.declared.file_pieces.Target.{Target}
use Rattle.droid_upload.specs.declared.upload.Upload.{Upload}

bytes_behind : (before bytes : List ℕ) → IsBytes (before ++ bytes) → IsBytes bytes
bytes_behind before bytes all i = subst (λ n. n < 256) (get_or-append-add before bytes i 0) (all (length before + i))

pub spells_piece : (profile number index : ℕ) (bytes items body : List ℕ) → items ≡ piece_head profile number index ++ bytes → body ≡ items → IsU32 profile × IsU32 number × IsU32 index → IsBytes body
    → SpellsRequest 2 4 body (Piece profile number index bytes)
spells_piece profile number index bytes items body is same ranges all = record {
  version_is = refl;
  kind_is = refl;
  body_is = same ∙ (is ∙ (append_assoc (u32_bytes profile) (u32_bytes number ++ u32_bytes index) bytes ∙ ap (λ (l : List ℕ). u32_bytes profile ++ l) (append_assoc (u32_bytes number) (u32_bytes index) bytes)));
  has_spelling = (ranges.0, ranges.1, ranges.2, bytes_behind (piece_head profile number index) bytes (subst IsBytes (same ∙ is) all));
}

pub own_bytes : (profile number index : ℕ) (begun body bytes slice own : List ℕ) → begun ≡ piece_head profile number index → body ≡ begun ++ bytes → slice ≡ body → own ≡ drop 12 slice → own ≡ bytes
own_bytes profile number index begun body bytes slice own begun_is body_is slice_is own_is = own_is ∙ ap (λ (l : List ℕ). drop 12 l) (slice_is ∙ (body_is ∙ ap (λ (l : List ℕ). l ++ bytes) begun_is))

pub hashes_own : (own bytes : List ℕ) (old new : RunningHash) → own ≡ bytes → running_kind new ≡ running_kind old → ((before : List ℕ) → HoldsAll old before → HoldsAll new (before ++ own)) → Hashes bytes old new
hashes_own own bytes old new is kind holds = record { kind = kind; holds = λ before held. subst (λ (l : List ℕ). HoldsAll new (before ++ l)) is (holds before held) }

-- a piece was read where it begins
pub read_there : (to : Target) (path : List ℕ) (entry : FolderEntry) {T C W : Type 0} (does : Upload T C W → Deed → Upload T C W → Type 0) (index from wanted : ℕ) (before after : List ℕ) (old new : Upload T C W)
    → from ≡ begin to path entry index → wanted ≡ min to.into.piece_size (entry.len - from) → (reads : ReadsPiece (Sees does) path entry from wanted before after old new)
    → (length reads.bytes ≡ wanted_at to path entry index) × does old (Observed (Read path entry (begin to path entry index) (wanted_at to path entry index) reads.bytes)) new
read_there to path entry does index from wanted before after old new from_is wanted_is reads =
    let same : wanted ≡ wanted_at to path entry index = wanted_is ∙ ap (λ (n : ℕ). min to.into.piece_size (entry.len - n)) from_is in (
      reads.counted ∙ same,
      subst (λ (n : ℕ). does old (Observed (Read path entry n (wanted_at to path entry index) reads.bytes)) new) from_is
          (subst (λ (n : ℕ). does old (Observed (Read path entry from n reads.bytes)) new) same reads.observed),
    )
