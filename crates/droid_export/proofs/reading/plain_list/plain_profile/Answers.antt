use Rattle.std.proofs.Common.{◌∙◌, sym}
use Rattle.droid_export.specs.PlainRows.{fields_in}
use Rattle.droid_export.proofs.PlainLists.{rows_found}
use Rattle.droid_export.proofs.reading.plain_list.plain_profile.Goals as goal

pub returns-in_ok-profile-in-Some-hash_of_header : goal.returns-in_ok-profile-in-Some-hash_of_header
returns-in_ok-profile-in-Some-hash_of_header c =
    rows_found c.in-Some-hash_of_header.digest c.args.formats c.args.text.now c.in-Some.rest.now (fields_in c.in-Some.header.fields) c.in_ok-profile-in-Some-hash_of_header.profile
    c.in-Some.ensures.read c.in-Some.ensures.unmarked (sym c.hash_of_header.ensures ∙ c.in-Some-hash_of_header.is) c.in_ok-profile-in-Some-hash_of_header.ensures
