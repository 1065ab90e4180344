use Rattle.droid_report.specs.declared.classes.By.TheVariants as by
use Rattle.droid_report.specs.declared.keys.Alike.TheVariants as alike
use Rattle.droid_report.proofs.Grouping.{groups_none}
use Rattle.droid_report.proofs.Listing.{lists_none}
use Rattle.droid_report.proofs.Totalling.{tally_none, totals_none}
use Rattle.droid_report.proofs.counts.Counts.new.Goals as goal

pub returns : goal.returns
returns c =
    record {
      totals = totals_none c.none.result c.none.ensures;
      classes = record {
        years = tally_none by.Year c.in_ok-classes.classes.years.items c.in_ok-classes.ensures.years;
        sizes = tally_none by.Size c.in_ok-classes.classes.sizes.items c.in_ok-classes.ensures.sizes;
        depths = tally_none by.Depth c.in_ok-classes.classes.depths.items c.in_ok-classes.ensures.depths;
      };
      formats = groups_none alike.Format c.new-2.result c.new-2.ensures.empty;
      contents = groups_none alike.Content c.new-3.result c.new-3.ensures.empty;
      lists = lists_none c.new-4.result c.new-4.ensures.unidentified c.new-4.ensures.mismatches c.new-4.ensures.several_formats c.new-4.ensures.largest c.new-4.ensures.oldest c.new-4.ensures.newest;
    }
