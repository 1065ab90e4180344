use Rattle.std.proofs.Common.{◌∙◌, ℕ, List, Option, Some, None, Vec, ap}
use Rattle.std.specs.declared.alloc.Global.{Global}
use Rattle.droid_cmd_profile.specs.Kept.{kept_by, kept_contents}
use Rattle.droid_cmd_profile.proofs.KeptTexts.{kept_text}
use Rattle.droid_cmd_profile.proofs.laws.the_kept_text_is_the_csv.Goals as goal

pub returns : goal.returns
returns g c = λ options ending old new begun kept profiles written begun_is empty kept_is.
    kept_text g.T.Tree.observes g.W.Watcher.hears g.S.Write.contents g.S.SteadyWrite.seen g.S.SteadyWrite.room (λ writer. kept_contents g.O.Write.contents writer.stream) (λ writer. writer.seen) (λ writer. None)
    g.M.Write.contents g.M.SteadyWrite.seen g.M.SteadyWrite.room options old new kept.items ending profiles written
    (ap (λ (text : Option (Vec ℕ Global)). kept_by text (g.O.Write.contents old.recipient.csv.stream.output)) begun_is ∙ ap (λ (items : List ℕ). Some items) empty)
    (ap (λ (text : Option (Vec ℕ Global)). kept_by text (g.O.Write.contents new.recipient.csv.stream.output)) kept_is)
