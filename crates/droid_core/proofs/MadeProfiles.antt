-- What a request for a new profile comes to.
use Rattle.std.proofs.Common.{◌≡◌, inl, inr, ℕ, zero, suc, ◌+◌, ◌<◌, ◌==◌, List, [], ◌∷◌, ◌++◌, length, Bool, true, false, Option, Some, None, refl, sym, ap, ◌∙◌, arith, length-append}
use Rattle.std.specs.Prelude.{nat_lt, Result, Err}
use Rattle.std.proofs.lemmas.List.{length-map}
use Rattle.std.proofs.lemmas.Bool.{cases_Bool, ltb-true, ltb-false, eqb-true, eqb-false}
use Rattle.droid_frame.specs.declared.hash_kind.HashKind.{HashKind}
use Rattle.droid_frame.specs.declared.refusal.Refusal.{Refusal}
use Rattle.droid_frame.specs.declared.reply.Reply.{Reply}
use Rattle.droid_frame.specs.declared.reply.Reply.TheVariants as replies
use Rattle.droid_core_spec.specs.Judging.{refusal_of, create_checks, judge_create, Accepted, Refuses}
use Rattle.droid_core_spec.specs.Setting.{Setting}
use Rattle.droid_core_spec.specs.World.{Profile, World, world_with, numbered}
use Rattle.droid_store.specs.Changes.{with_reply, with_profile}
use Rattle.droid_store.specs.Rows.{Rows}
use Rattle.droid_core.proofs.Items.{numbered_before, numbered_last, numbered_past}
use Rattle.droid_core.proofs.Made.{profile_made}
use Rattle.droid_core.proofs.Soundness.{sound_made, scan_limit_of_checks}
use Rattle.droid_core.proofs.UnfinishedRows.{unfinished_made}
use Rattle.droid_core.specs.Rows.{profile_row, KeepsWorld}
use Rattle.droid_core.specs.Files.{OpenFile, OpenFiles, open_at}
use Rattle.droid_core.specs.declared.holdings.Holdings.{Holdings}
use Rattle.droid_core.specs.declared.stamps.Stamp.{Stamp}
use Rattle.droid_core.specs.Assemblies.{HasItsAssemblyIn, HasAssemblies}
use Rattle.droid_core.specs.Changes.{stamped, Comes}
use Rattle.droid_core.specs.HoldingsStanding.{IsIn}
use Rattle.droid_core.proofs.Staying.{still_of}

abbrev pub fresh : ℕ → Bool → HashKind → Profile
fresh scan_limit match_all hash = record { scan_limit = scan_limit; match_all = match_all; hash = hash; nodes = [] }

abbrev pub with_fresh : World → ℕ → Bool → HashKind → World
with_fresh world scan_limit match_all hash = world_with world (world.profiles ++ fresh scan_limit match_all hash ∷ [])

-- ---- no file of a new profile has an assembly

none_of_fresh : (scan_limit : ℕ) (match_all : Bool) (hash : HashKind) (id : ℕ) (found : Option OpenFile) → found ≡ None → HasItsAssemblyIn (Some (fresh scan_limit match_all hash)) id found
none_of_fresh scan_limit match_all hash zero found none = none
none_of_fresh scan_limit match_all hash (suc place) found none = none

module _ (profiles : List Profile) (scan_limit : ℕ) (match_all : Bool) (hash : HashKind) (number id : ℕ) (found : Option OpenFile) (has : HasItsAssemblyIn (numbered profiles number) id found) where
  past_all : length profiles < number → found ≡ None
  past_all past = rw (numbered_past profiles number past) at has

  at_end : (b : Bool) → (number == length profiles + 1) ≡ b → length profiles < number → HasItsAssemblyIn (numbered (profiles ++ fresh scan_limit match_all hash ∷ []) number) id found
  at_end true is past = rw (numbered_last profiles (fresh scan_limit match_all hash) number (eqb-true number (length profiles + 1) is)) (none_of_fresh scan_limit match_all hash id found (past_all past))
  at_end false isnt past =
      let apart = eqb-false number (length profiles + 1) isnt in
      let long = length-append profiles (fresh scan_limit match_all hash ∷ []) in
      rw (numbered_past (profiles ++ fresh scan_limit match_all hash ∷ []) number (omega arith)) (past_all past)

  still_its : HasItsAssemblyIn (numbered (profiles ++ fresh scan_limit match_all hash ∷ []) number) id found
  still_its = elim (cases_Bool (nat_lt number (length profiles + 1))) [
    | inl low ↦ rw (numbered_before profiles (fresh scan_limit match_all hash ∷ []) number (ltb-true number (length profiles + 1) low)) has
    | inr high ↦ let past = ltb-false number (length profiles + 1) high in at_end (number == length profiles + 1) refl (omega arith)
  ]

assemblies_made : (world : World) (files : OpenFiles) (scan_limit : ℕ) (match_all : Bool) (hash : HashKind) → HasAssemblies world files → HasAssemblies (with_fresh world scan_limit match_all hash) files
assemblies_made world files scan_limit match_all hash has = record {
  each = λ number id. still_its world.profiles scan_limit match_all hash number id (open_at number id files.files) (has.each number id);
  count = has.count ∙ sym (unfinished_made world (fresh scan_limit match_all hash) refl);
}

-- ---- what is judged, and what comes of it

pub create_refused : (setting : Setting) (world : World) (scan_limit : ℕ) (match_all : Bool) (hash : HashKind) (refusal : Refusal) → refusal_of (create_checks setting.limits world scan_limit) ≡ Some refusal
    → judge_create setting world scan_limit match_all hash ≡ Refuses refusal
unfolding judge_create
create_refused setting world scan_limit match_all hash refusal is = rw is refl

create_accepted : (setting : Setting) (world : World) (scan_limit : ℕ) (match_all : Bool) (hash : HashKind) → refusal_of (create_checks setting.limits world scan_limit) ≡ None
    → judge_create setting world scan_limit match_all hash ≡ Accepted (replies.Made (length world.profiles + 1)) (with_fresh world scan_limit match_all hash)
unfolding judge_create
create_accepted setting world scan_limit match_all hash is = rw is refl

refusal_same : {refusal other : Refusal} → Refuses refusal ≡ Refuses other → refusal ≡ other
refusal_same is = cc

abbrev refuses : Refusal → Result Reply Refusal
refuses refusal = Err refusal

-- a request has one refusal
pub refused_alone : (setting : Setting) (world : World) (scan_limit : ℕ) (match_all : Bool) (hash : HashKind) (refusal other : Refusal) → refusal_of (create_checks setting.limits world scan_limit) ≡ Some refusal
    → judge_create setting world scan_limit match_all hash ≡ Refuses other → refuses refusal ≡ refuses other
refused_alone setting world scan_limit match_all hash refusal other is judged = ap refuses (refusal_same (sym (create_refused setting world scan_limit match_all hash refusal is) ∙ judged))

-- where nothing refuses it, it has none
pub never_refused : (setting : Setting) (world : World) (scan_limit : ℕ) (match_all : Bool) (hash : HashKind) (refusal : Refusal) → refusal_of (create_checks setting.limits world scan_limit) ≡ None
    → judge_create setting world scan_limit match_all hash ≡ Refuses refusal → ⊥
never_refused setting world scan_limit match_all hash refusal is judged =
    let both = sym (create_accepted setting world scan_limit match_all hash is) ∙ judged in
    cc

-- the world has as many profiles as there are rows
pub profile_count : (setting : Setting) (world : World) (rows : Rows) → KeepsWorld setting world rows → length rows.profiles ≡ length world.profiles
profile_count setting world rows keeps = ap length keeps.profiles ∙ length-map world.profiles profile_row

pub comes_made : (setting : Setting) (world : World) (old new : Holdings) (stamp : Stamp) (scan_limit : ℕ) (match_all : Bool) (hash : HashKind) (number : ℕ)
    → IsIn setting world old → refusal_of (create_checks setting.limits world scan_limit) ≡ None → number ≡ length world.profiles + 1
    → new.limits ≡ old.limits → new.registry ≡ old.registry → new.files ≡ old.files
    → new.store ≡ with_reply (stamped stamp (replies.Made number)) (with_profile scan_limit match_all hash old.store)
    → Comes setting world old new stamp (judge_create setting world scan_limit match_all hash) (replies.Made number)
comes_made setting world old new stamp scan_limit match_all hash number is allowed number_is limits registry files store =
    rw (create_accepted setting world scan_limit match_all hash allowed) (
      ap (λ n. replies.Made n) number_is,
      record {
        world_is = record {
          is_setting = still_of setting old new limits registry is.is_setting;
          rows = rw store (profile_made setting world old.store (stamped stamp (replies.Made number)) scan_limit match_all hash is.rows);
          sound = sound_made world scan_limit match_all hash is.sound (scan_limit_of_checks setting.limits world scan_limit allowed);
          files = rw files (assemblies_made world old.files scan_limit match_all hash is.files);
          room = rw files is.room;
        };
        replies = ap (λ (rows : Rows). rows.replies) store ∙ ap (λ (n : ℕ). old.store.replies ++ stamped stamp (replies.Made n) ∷ []) number_is;
      },
    )
