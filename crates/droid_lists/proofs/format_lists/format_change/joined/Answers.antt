use Rattle.std.proofs.Common.{◌∙◌, ◌++◌, ℕ, List, ◌∷◌, ap, sym}
use Rattle.std.specs.List.{flat_map}
use Rattle.droid_lists.proofs.Joining.{none_joined, some_joined}
use Rattle.droid_lists.proofs.format_lists.format_change.joined.Goals as goal

pub returns-in_default : goal.returns-in_default
returns-in_default c = c.in_ok-none.ensures ∙ sym (none_joined c.args.puids.now c.in_default.ensures.cases)

pub returns : goal.returns
returns c =
    c.from.ensures
    ∙ (c.in_ok-append_after_spaces.ensures
    ∙ (ap (λ (l : List ℕ). l ++ flat_map (λ puid. 32 ∷ puid) c.in-Some.others.now) (c.in_ok-text.ensures.items ∙ c.as_slice.ensures.value)
    ∙ sym (some_joined c.args.puids.now c.in-Some.first.now c.in-Some.others.now c.in-Some.ensures.cases.0)))
