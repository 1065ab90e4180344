use Rattle.std.proofs.Common.{IfOk, subst}
use Rattle.droid_lists.specs.ListForms.{form_of}
use Rattle.droid_lists.specs.Listings.{HasFormats, ListSaysBy, first_in}
use Rattle.droid_lists.specs.declared.list_form.ListForm.{ListForm}
use Rattle.droid_lists.proofs.Listing.{memory_says}
use Rattle.droid_lists.proofs.list_content.read_list.Goals as goal

pub returns-in-Ok-clause-says : goal.returns-in-Ok-clause-says
returns-in-Ok-clause-says c =
    subst (λ (form : ListForm). ListSaysBy form c.args.formats c.args.text.now (first_in c.list_by.result)) c.in-Ok.ensures c.list_by.ensures.says

pub returns-in-Ok-clause-formats : goal.returns-in-Ok-clause-formats
returns-in-Ok-clause-formats c =
    subst (λ (form : ListForm). IfOk c.list_by.result (λ read. HasFormats c.args.formats form c.args.text.now read.1.items)) c.in-Ok.ensures c.list_by.ensures.formats

pub returns-in-Err-clause-says : goal.returns-in-Err-clause-says
returns-in-Err-clause-says c = memory_says (form_of c.args.in_bag c.args.text.now) c.args.formats c.args.text.now
