use Rattle.droid_report.specs.Lines.{line_of}
use Rattle.droid_report.specs.declared.classes.By.TheVariants as by
use Rattle.droid_report.specs.declared.keys.Alike.TheVariants as alike
use Rattle.droid_report.proofs.Grouping.{groups_more}
use Rattle.droid_report.proofs.Listing.{lists_more}
use Rattle.droid_report.proofs.Totalling.{tally_more, totals_more}
use Rattle.droid_report.proofs.counts.Counts.add.Goals as goal

pub returns : goal.returns
returns c = λ lines old.
    let was = c.args.self.now in
    let line = line_of c.args.row.now in
    record {
      totals = totals_more lines line was.totals c.add.new.self c.add.ensures old.totals;
      classes = record {
        years = tally_more by.Year lines line was.classes.years.items c.add-2.new.self.years.items c.add-2.ensures.years old.classes.years;
        sizes = tally_more by.Size lines line was.classes.sizes.items c.add-2.new.self.sizes.items c.add-2.ensures.sizes old.classes.sizes;
        depths = tally_more by.Depth lines line was.classes.depths.items c.add-2.new.self.depths.items c.add-2.ensures.depths old.classes.depths;
      };
      formats = groups_more alike.Format lines line was.formats c.add_row.new.groups c.in_ok-add_row.ensures old.formats;
      contents = groups_more alike.Content lines line was.contents c.add_row-2.new.groups c.in_ok-add_row-2.ensures old.contents;
      lists = lists_more lines line was.lists c.add-3.new.self c.in_ok-add.ensures old.lists;
    }
