use Rattle.std.proofs.Common.{◌≡◌, Bool, List, ℕ, nat_lt, length, FitsSigned, rules, sym, ap, ◌∙◌}
use Rattle.std.proofs.lemmas.Int.{to_z-of_z}
use Rattle.std.specs.Int.{w64}
use Rattle.droid_core_spec.specs.Conditions.{is_bad_name, is_moment}
use Rattle.droid_tree.specs.Paths.{below}
use Rattle.droid_profile.proofs.Meanings.{not_refused, refused_for_moment, refused_for_name, refused_for_path}
use Rattle.droid_profile.proofs.walk.refusal.entry_refusal.Goals as goal

-- what a test of the name says of the entry
of_entry : (test : List ℕ → Bool) (name its : List ℕ) (result outcome : Bool) → name ≡ its → result ≡ test name → result ≡ outcome → test its ≡ outcome
of_entry test name its result outcome same is was = ap test (sym same) ∙ (sym is ∙ was)

abbrev is_long : List ℕ → List ℕ → Bool
is_long path name = nat_lt 4096 (length (below path name))

pub returns-then-is_bad_name : goal.returns-then-is_bad_name
returns-then-is_bad_name c =
    refused_for_name c.args.path.now c.args.entry.now (of_entry is_bad_name c.args.name.now c.args.entry.now.name _ _ c.requires c.is_bad_name.ensures c.if-is_bad_name.true)

pub returns-then-is_too_long : goal.returns-then-is_too_long
returns-then-is_too_long c =
    refused_for_path c.args.path.now c.args.entry.now (of_entry is_bad_name c.args.name.now c.args.entry.now.name _ _ c.requires c.is_bad_name.ensures c.if-is_bad_name.false)
    (of_entry (is_long c.args.path.now) c.args.name.now c.args.entry.now.name _ _ c.requires c.is_too_long.ensures c.if-is_too_long.true)

pub returns-then-not-is_moment : goal.returns-then-not-is_moment
returns-then-not-is_moment c =
    let fits : FitsSigned w64 c.args.entry.now.modified = search rules in
    refused_for_moment c.args.path.now c.args.entry.now (of_entry is_bad_name c.args.name.now c.args.entry.now.name _ _ c.requires c.is_bad_name.ensures c.if-is_bad_name.false)
    (of_entry (is_long c.args.path.now) c.args.name.now c.args.entry.now.name _ _ c.requires c.is_too_long.ensures c.if-is_too_long.false)
    (ap is_moment (sym (to_z-of_z w64 c.args.entry.now.modified fits)) ∙ (sym c.is_moment.ensures ∙ c.if-not-is_moment.true))

pub returns : goal.returns
returns c =
    let fits : FitsSigned w64 c.args.entry.now.modified = search rules in
    not_refused c.args.path.now c.args.entry.now (of_entry is_bad_name c.args.name.now c.args.entry.now.name _ _ c.requires c.is_bad_name.ensures c.if-is_bad_name.false)
    (of_entry (is_long c.args.path.now) c.args.name.now c.args.entry.now.name _ _ c.requires c.is_too_long.ensures c.if-is_too_long.false)
    (ap is_moment (sym (to_z-of_z w64 c.args.entry.now.modified fits)) ∙ (sym c.is_moment.ensures ∙ c.if-not-is_moment.false))
