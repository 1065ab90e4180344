use Rattle.std.specs.Prelude.{option_map}
use Rattle.droid_cmd_profile.proofs.PagesNow.{given_now}
use Rattle.droid_cmd_profile.proofs.pages.csv_report.page_now.Goals as goal

pub returns : goal.returns
returns g c = λ records are.
    given_now c.args.title.now c.as_str.result.now c.args.name.now (option_map (λ text. text.now) c.args.registry) records c.page_of_csv.result (c.page_of_csv.ensures records are)
