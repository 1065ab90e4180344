use Rattle.std.proofs.Common.{◌≡◌, ℕ, List, length, ◌∷◌, [], Option, Some, String, Global, BTreeMap, string_bytes, unwrap_or, refl, rules, arith, sym, ap, subst, ◌∙◌}
use Rattle.std.specs.BTreeMap.{btree_map_len}
use Rattle.std.proofs.lemmas.Map.Text.{btree_map_updates_text}
use Rattle.droid_terminal.specs.WalkCounts.{CountsFormats, count_in}
use Rattle.droid_terminal.proofs.Counting.{counted_once, one_more_few}
use Rattle.droid_terminal.proofs.totals.count_format.Goals as goal

pub returns-in-Some-clause-counts : goal.returns-in-Some-clause-counts
returns-in-Some-clause-counts c =
    let puid = c.as_str.result.now in
    let next = c.saturating_add.result in
    let before = c.args.formats.now in
    let after = c.get_mut.follows.lender next in
    let was : count_in before puid ≡ c.in-Some.count.now = ap (λ (o : Option ℕ). unwrap_or o 0) (sym c.in-Some.ensures.value) in
    subst (λ (p : List ℕ). CountsFormats (p ∷ []) before after) c.as_str.ensures.value
    (counted_once before after puid c.in-Some.count.now next c.saturating_add.ensures was
    (btree_map_updates_text puid before after (Some next) ((c.get_mut.follows.holds next).3 (search rules))))

pub returns-clause-counts : goal.returns-clause-counts
returns-clause-counts c =
    let puid = string_bytes c.into_string-puid.result in
    let before = c.args.formats.now in
    let between = c.get_mut.follows.lender-at-none in
    let after = c.insert.new.self in
    let same : puid ≡ c.args.puid.now = c.into_string-puid.ensures ∙ c.in_ok-try_clone.ensures in
    let none : count_in before c.as_str.result.now ≡ 0 = ap (λ (o : Option ℕ). unwrap_or o 0) (sym c.in_default.ensures.value) in
    let unchanged : between ≡ before = c.get_mut.follows.holds-at-none in
    let was : count_in between puid ≡ 0 = ap (λ (m : BTreeMap (String Global) ℕ). count_in m puid) unchanged ∙ (ap (count_in before) (same ∙ sym c.as_str.ensures.value) ∙ none) in
    let counted : CountsFormats (puid ∷ []) between after
    = counted_once between after puid 0 1 refl was (btree_map_updates_text puid between after (Some 1) c.in_ok-insert.ensures.updates) in
    subst (λ (m : BTreeMap (String Global) ℕ). CountsFormats (c.args.puid.now ∷ []) m after) unchanged (subst (λ (p : List ℕ). CountsFormats (p ∷ []) between after) same counted)

pub returns-in-Some-clause-few : goal.returns-in-Some-clause-few
returns-in-Some-clause-few c = let kept = (c.get_mut.follows.holds c.saturating_add.result).2 in omega (arith, kept)

pub returns-then-len-ge-FORMATS_LIMIT-clause-few : goal.returns-then-len-ge-FORMATS_LIMIT-clause-few
returns-then-len-ge-FORMATS_LIMIT-clause-few c = let unchanged = c.get_mut.follows.holds-at-none in omega (arith, ap btree_map_len unchanged)

pub returns-in_err-try_clone-clause-few : goal.returns-in_err-try_clone-clause-few
returns-in_err-try_clone-clause-few c = let unchanged = c.get_mut.follows.holds-at-none in omega (arith, ap btree_map_len unchanged)

pub returns-in_err-insert-clause-few : goal.returns-in_err-insert-clause-few
returns-in_err-insert-clause-few c = let unchanged = c.get_mut.follows.holds-at-none in omega (arith, ap btree_map_len unchanged, ap length c.in_err-insert.ensures.err)

pub returns-clause-few : goal.returns-clause-few
returns-clause-few c =
    let unchanged = c.get_mut.follows.holds-at-none in
    one_more_few _ _ _ c.in_ok-insert.field-0 (ap btree_map_len unchanged) c.in_ok-insert.ensures.len (omega (arith, c.if-len-ge-FORMATS_LIMIT.false, c.len.ensures.len))
