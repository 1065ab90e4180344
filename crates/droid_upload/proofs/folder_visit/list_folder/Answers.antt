use Rattle.std.proofs.Common.{refl}
use Rattle.std.proofs.lemmas.Result.{MatchResult-weaker}
use Rattle.droid_upload.proofs.folder_visit.list_folder.Goals as goal

pub returns-in-Ok-clause-listed : goal.returns-in-Ok-clause-listed
returns-in-Ok-clause-listed g c =
    MatchResult-weaker c.in-Ok.read c.in-Ok.ensures.read
    (λ listing lists. record { observed = lists.listed; listed = record { same = lists.same; in_order = lists.in_order; are_repeated = lists.are_repeated }; happened = (lists.observed, refl) })
    (λ why unread. (unread.0, (unread.1, refl)))
