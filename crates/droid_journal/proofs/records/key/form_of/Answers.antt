use Rattle.std.proofs.Common.{rules, ◌≡◌, ◌∙◌, ◌<◌, ℕ, Bool, true, false, List, length, take, refl, sym, ap, arith}
use Rattle.std.specs.Prelude.{IsTrue, if◌then◌else◌}
use Rattle.std.specs.Str.{bytes_eq}
use Rattle.std.proofs.lemmas.List.{length-take}
use Rattle.std.proofs.lemmas.Slice.Eq.{bytes_eq-Decides}
use Rattle.droid_journal.specs.Chains.{first_line_before, form_of}
use Rattle.droid_journal.specs.declared.records.key.Form.{Form}
use Rattle.droid_journal.specs.declared.records.key.Form.TheVariants as forms
use Rattle.droid_journal.proofs.records.key.form_of.Goals as goal

not_true : (b : Bool) → (b ≡ true → ⊥) → b ≡ false
not_true true isnt = absurd (isnt refl)
not_true false isnt = refl

abbrev form_by : Bool → Form
form_by b = if b then forms.Before else forms.Present

is_before : (header : List ℕ) → take 21 header ≡ first_line_before → form_of header ≡ forms.Before
unfolding form_of
is_before header is = ap form_by ((bytes_eq-Decides (take 21 header) first_line_before).1 is)

is_present : (header : List ℕ) → (take 21 header ≡ first_line_before → ⊥) → form_of header ≡ forms.Present
unfolding form_of
is_present header isnt = ap form_by (not_true (bytes_eq (take 21 header) first_line_before) (λ true_is. isnt ((bytes_eq-Decides (take 21 header) first_line_before).0 true_is)))

pub returns-then-header-lt-LINE : goal.returns-then-header-lt-LINE
returns-then-header-lt-LINE c =
    let header = c.args.header.now in
    let short : length header < 21 = c.if-header-lt-LINE.true in
    sym (is_present header (λ same. let long : length (take 21 header) ≡ 21 = ap length same in omega (arith, long, short, length-take 21 header)))

pub returns-then-before : goal.returns-then-before
returns-then-before c =
    let shown : IsTrue c.is_same-before.result = search rules in
    sym (is_before c.args.header.now (sym c.split_at.ensures.front ∙ c.is_same-before.ensures.0 shown ∙ c.as_slice.ensures))

pub returns : goal.returns
returns c =
    sym (is_present c.args.header.now (λ same. let shown : IsTrue c.is_same-before.result = c.is_same-before.ensures.1 (c.split_at.ensures.front ∙ same ∙ sym c.as_slice.ensures) in let isnt : c.is_same-before.result ≡ false = search rules in absurd cc))
