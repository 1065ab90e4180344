-- The text of an export is kept where its part leaves something of it unread.
use Rattle.std.proofs.Common.{◌≡◌, ℕ, false, IsTrue, IfOk, Option, refl, sym, subst}
use Rattle.std.specs.Prelude.{Result, Ok, Err}
use Rattle.droid_frame.specs.declared.filter.Filter.{Filter}
use Rattle.droid_frame.specs.declared.refusal.Refusal.{Refusal}
use Rattle.droid_frame.specs.declared.reply.Reply.{Reply}
use Rattle.droid_frame.specs.declared.request.Request.{Request}
use Rattle.droid_frame.specs.declared.request.Request.TheVariants.{Export}
use Rattle.droid_core_spec.specs.Verdicts.{is_command}
use Rattle.droid_core.specs.Changes.{answered}
use Rattle.droid_core.specs.KeptTexts.{IsFor, is_followed}
use Rattle.droid_core.specs.declared.queries.kept_text.KeptText.{KeptText}

-- what the call says of its reply holds of the reply that is answered
pub text_kept : (result : Result Reply Refusal) (profile from max : ℕ) (filter : Filter) (last : Option KeptText) → IfOk result (λ reply. IsTrue (is_followed from max reply) → IsFor profile filter last)
    → IsTrue (is_followed from max (answered result)) → IsFor profile filter last
text_kept (Ok reply) profile from max filter last keeps followed = keeps followed
text_kept (Err refusal) profile from max filter last keeps followed = absurd cc

-- an Export is a query
pub is_query : (request : Request) (profile from max : ℕ) (filter : Filter) → request ≡ Export profile from max filter → is_command request ≡ false
is_query request profile from max filter is = rw is refl

-- what is kept stays where nothing changes it
pub still_for : (profile : ℕ) (filter : Filter) (before after : Option KeptText) → after ≡ before → IsFor profile filter before → IsFor profile filter after
still_for profile filter before after same keeps = subst (IsFor profile filter) (sym same) keeps

-- the part that was asked, with the parameters by which it is named
pub kept_by : {profile from max profile' from' max' : ℕ} {filter filter' : Filter} (result : Result Reply Refusal) (last : Option KeptText)
    → Export profile from max filter ≡ Export profile' from' max' filter' → IfOk result (λ reply. IsTrue (is_followed from max reply) → IsFor profile filter last) → IfOk result (λ reply. IsTrue (is_followed from' max' reply) → IsFor profile' filter' last)
kept_by {profile} {from} {max} {profile'} {from'} {max'} {filter} {filter'} result last same keeps =
    let p : profile ≡ profile' = cc in
    let f : from ≡ from' = cc in
    let m : max ≡ max' = cc in
    let l : filter ≡ filter' = cc in
    subst (λ (its : ℕ). IfOk result (λ reply. IsTrue (is_followed from' max' reply) → IsFor its filter' last)) p
    (subst (λ (its : Filter). IfOk result (λ reply. IsTrue (is_followed from' max' reply) → IsFor profile its last)) l
    (subst (λ (its : ℕ). IfOk result (λ reply. IsTrue (is_followed from' its reply) → IsFor profile filter last)) m
    (subst (λ (its : ℕ). IfOk result (λ reply. IsTrue (is_followed its max reply) → IsFor profile filter last)) f keeps)))
