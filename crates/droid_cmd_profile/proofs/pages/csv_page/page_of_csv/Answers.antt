use Rattle.droid_cmd_profile.proofs.pages.csv_page.page_of_csv.Goals as goal

pub returns-in-Ok-page_of : goal.returns-in-Ok-page_of
returns-in-Ok-page_of c = λ records are.
    let given = c.in-Ok.ensures records are in
    (given.0, given.1, record { report = c.in-Ok.report; counts = given.2; page = c.in-Ok-page_of.ensures })
