use Rattle.std.proofs.Common.{◌≡◌, List, ℕ, length, ap, sym, ◌∙◌}
use Rattle.std.specs.Str.{str_to_ascii_lowercase}
use Rattle.droid_export.specs.Filters.{extension}
use Rattle.droid_export.specs.Index.{places_of}
use Rattle.droid_export.proofs.IndexContents.{marked_flags}
use Rattle.droid_export.proofs.FlagMarks.{written_over}
use Rattle.droid_export.proofs.selection.met_by.Goals as goal

pub returns : goal.returns
returns c =
    let found : c.places_of.result.now ≡ places_of c.args.index.now.extensions (str_to_ascii_lowercase (extension c.args.node.now)) =
    c.places_of.ensures ∙ ap (λ (text : List ℕ). places_of c.args.index.now.extensions text)
    (c.as_str.ensures.value ∙ (c.in_ok-extension.ensures ∙ ap (λ (text : List ℕ). str_to_ascii_lowercase text) c.extension.ensures)) in
    let flags = marked_flags c.args.node.now c.args.criteria.now c.args.index.now c.as_mut_slice-flags.result.now c.mark_all.new.flags c.mark.new.flags c.places_of.result.now c.requires
    (c.as_mut_slice-flags.ensures.value ∙ c.in_ok-met.ensures) c.mark_all.ensures.length c.mark.ensures.length c.mark_all.ensures.marked found c.mark.ensures.marked in
    let long = c.as_mut_slice-flags.ensures.len in
    written_over _ _ _ _ (c.mark.ensures.length ∙ (c.mark_all.ensures.length ∙ long)) (ap length (sym c.as_mut_slice-flags.ensures.value) ∙ long) flags
