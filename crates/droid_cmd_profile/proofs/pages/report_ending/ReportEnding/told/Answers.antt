use Rattle.std.proofs.Common.{Bor, ◌≡◌, ◌∙◌, ℕ, List, Option, Some, None, codes, option_map, refl, ap, subst}
use Rattle.std.specs.Option.{unwrap_or}
use Rattle.droid_terminal.specs.Endings.{output_name, told}
use Rattle.droid_cmd_profile.specs.Endings.{TellsPage}
use Rattle.droid_cmd_profile.proofs.pages.report_ending.ReportEnding.told.Goals as goal

named : (output : Option (Bor (List ℕ))) (other : Bor (List ℕ)) → other.now ≡ codes "standard output" → (unwrap_or output other).now ≡ output_name (option_map (λ text. text.now) output)
named None other is = is
named (Some text) other is = refl

name_of : (output : Option (Bor (List ℕ))) (found other : Bor (List ℕ)) → found ≡ unwrap_or output other → other.now ≡ codes "standard output" → found.now ≡ output_name (option_map (λ text. text.now) output)
name_of output found other same is = ap (λ (text : Bor (List ℕ)). text.now) same ∙ named output other is

pub returns-in-NoPage : goal.returns-in-NoPage
returns-in-NoPage g c =
    rw c.in-NoPage.is
    (subst (λ (page : List ℕ). TellsPage c.in-NoPage.fault c.args.profile.now page (told c.told.result)) (name_of c.args.output _ _ c.unwrap_or-output.ensures refl) c.told.ensures)
