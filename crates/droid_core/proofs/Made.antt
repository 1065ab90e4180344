-- The rows of the empty world, and of a world with one profile more.
use Rattle.std.proofs.Common.{◌≡◌, ◌⊎◌, inl, inr, ℕ, zero, suc, ◌+◌, ◌≤◌, ◌==◌, List, [], ◌∷◌, ◌++◌, length, Bool, true, false, refl, sym, ap, ◌∙◌, arith, length-append}
use Rattle.std.proofs.lemmas.Bool.{cases_Bool, ltb-true, ltb-false, eqb-true, eqb-false}
use Rattle.std.proofs.lemmas.List.{map-append}
use Rattle.std.specs.Prelude.{nat_lt}
use Rattle.droid_frame.specs.declared.hash_kind.HashKind.{HashKind}
use Rattle.droid_core_spec.specs.Setting.{Setting}
use Rattle.droid_core_spec.specs.World.{Profile, World, empty_world, world_with, numbered}
use Rattle.droid_store.specs.Changes.{with_reply, with_profile}
use Rattle.droid_store.specs.declared.rows.Entry.{Entry}
use Rattle.droid_store.specs.Rows.{Rows, no_rows}
use Rattle.droid_core.specs.Rows.{profile_row, node_rows, KeepsWorld}
use Rattle.droid_core.proofs.Items.{numbered_before, numbered_last, numbered_past}

no_profile : (setting : Setting) (number : ℕ) → [] ≡ node_rows setting number (numbered {A = Profile} [] number)
no_profile setting zero = refl
no_profile setting (suc place) = refl

pub world_empty : (setting : Setting) → KeepsWorld setting empty_world no_rows
world_empty setting = record { profiles = refl; nodes = no_profile setting; accepted = refl; short = tt }

-- a reply row more for each command
pub one_more_reply : (world : World) (rows : Rows) (e : Entry) → length rows.replies ≡ world.accepted → length (rows.replies ++ e ∷ []) ≡ world.accepted + 1
one_more_reply world rows e counted = let more = length-append rows.replies (e ∷ []) in omega arith

-- a profile without nodes has no rows, as a number without a profile has none
fresh_nodes : (setting : Setting) (profiles : List Profile) (fresh : Profile) (number : ℕ) → fresh.nodes ≡ []
    → node_rows setting number (numbered profiles number) ≡ node_rows setting number (numbered (profiles ++ fresh ∷ []) number)
fresh_nodes setting profiles fresh number bare = elim (cases_Bool (nat_lt number (length profiles + 1))) [
  | inl low ↦ let less = ltb-true number (length profiles + 1) low in
      sym (ap (λ one. node_rows setting number one) (numbered_before profiles (fresh ∷ []) number less))
  | inr high ↦ let past = ltb-false number (length profiles + 1) high in
      ap (λ one. node_rows setting number one) (numbered_past profiles number (omega arith)) ∙ at_end (cases_Bool (number == length profiles + 1)) past
]
  where
    at_end : ((number == length profiles + 1) ≡ true) ⊎ ((number == length profiles + 1) ≡ false) → length profiles + 1 ≤ number → [] ≡ node_rows setting number (numbered (profiles ++ fresh ∷ []) number)
    at_end (inl is) past = rw (numbered_last profiles fresh number (eqb-true number (length profiles + 1) is)) (rw bare refl)
    at_end (inr isnt) past =
        let apart = eqb-false number (length profiles + 1) isnt in
        let long = length-append profiles (fresh ∷ []) in
        rw (numbered_past (profiles ++ fresh ∷ []) number (omega arith)) refl

pub profile_made : (setting : Setting) (world : World) (rows : Rows) (e : Entry) (scan_limit : ℕ) (match_all : Bool) (hash : HashKind) → KeepsWorld setting world rows
    → KeepsWorld setting (world_with world (world.profiles ++ record { scan_limit = scan_limit; match_all = match_all; hash = hash; nodes = [] } ∷ [])) (with_reply e (with_profile scan_limit match_all hash rows))
profile_made setting world rows e scan_limit match_all hash has =
    let fresh : Profile = record { scan_limit = scan_limit; match_all = match_all; hash = hash; nodes = [] } in
    record {
      profiles = ap (λ these. these ++ profile_row fresh ∷ []) has.profiles ∙ sym (map-append profile_row world.profiles (fresh ∷ []));
      nodes = λ number. has.nodes number ∙ fresh_nodes setting world.profiles fresh number refl;
      accepted = one_more_reply world rows e has.accepted;
      short = has.short;
    }
