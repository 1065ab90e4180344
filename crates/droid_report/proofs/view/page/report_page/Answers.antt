use Rattle.droid_report.proofs.view.page.report_page.Goals as goal

pub returns : goal.returns
returns c = record { orders = c.in_ok-orders.orders; in_order = c.in_ok-orders.ensures; fits = c.in_ok-page.ensures }
