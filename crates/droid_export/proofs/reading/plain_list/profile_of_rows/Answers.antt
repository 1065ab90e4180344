use Rattle.std.proofs.Common.{◌≡◌, ◌∙◌, ◌+◌, ◌++◌, ℕ, Bool, List, Ok, sym, ap, subst, rules}
use Rattle.std.specs.Option.{option_map}
use Rattle.droid_export.specs.ReadingCalls.{rows_of}
use Rattle.droid_export.specs.FormatRows as formats
use Rattle.droid_export.specs.PlainRows.{fields_in}
use Rattle.droid_export.specs.Profiles.{with_entry}
use Rattle.droid_export.specs.declared.reading.profile.Profile.{Profile}
use Rattle.droid_export.proofs.PlainLists.{Comes, comes_first, comes_more, comes_to, nothing_in}
use Rattle.droid_export.proofs.reading.plain_list.profile_of_rows.Goals as goal

pub loop-last-init : goal.loop-last-init
loop-last-init c = (c.new-kept.ensures.kept, rw (c.new-rows.ensures, c.new-kept.ensures.rows) (comes_first c.args.digest c.args.formats c.args.text.now))

pub loop-last-preserved : goal.loop-last-preserved
loop-last-preserved c =
    let inv = c.loop-last.invariant in
    let fields = fields_in c.in-Some.row.fields in
    let number : c.in-Some-checked_add.record ≡ c.loop-last.records + 1 = search rules in
    let taken : with_entry c.in-Some-checked_add.record (rows_of c.loop-last.rows) c.in-Ok.entry c.repeats-repeated.result ≡ Ok (rows_of c.take.new.self) = c.in_default-take.ensures in
    let grown = c.in_ok-add.ensures.rows ∙ ap (λ (kept : Bool). c.loop-last.kept.rows.items ++ formats.rows_if kept (formats.rows_of fields)) inv.0 in (
      c.add.ensures.kept ∙ inv.0,
      rw number
          (comes_more c.args.digest c.args.formats c.args.text.now c.loop-last.rest.now c.in-Some.behind.now c.loop-last.records (rows_of c.loop-last.rows) (option_map (λ row. fields_in row.fields) c.loop-last.last)
          c.loop-last.kept.rows.items c.add.new.self.rows.items fields c.in-Ok.entry (rows_of c.take.new.self) c.in-Some.ensures.read (sym c.in_ok-entry.ensures ∙ c.in-Ok.is)
          (rw (c.repeats-repeated.ensures, c.as_ref.ensures.value, number) at taken) grown inv.1),
    )

pub returns-in-Ok-judge : goal.returns-in-Ok-judge
returns-in-Ok-judge c = λ records are.
    let last = option_map (λ row. fields_in row.fields) c.loop-last.last in
    let profile : Profile = record { items = c.in-Ok-judge.items; formats = c.loop-last.kept.rows } in
    comes_to c.args.digest c.args.formats c.args.text.now c.loop-last.records (rows_of c.loop-last.rows) last profile records c.in-Ok-judge.ensures
    (subst (λ (rest : List ℕ). Comes c.args.digest c.args.formats c.args.text.now rest c.loop-last.records (rows_of c.loop-last.rows) last c.loop-last.kept.rows.items) (nothing_in c.loop-last.rest.now (search rules)) c.loop-last.invariant.1) are
