use Rattle.droid_cmd_profile.proofs.pages.page_writer.write_page.Goals as goal

pub returns-clause-stopped : goal.returns-clause-stopped
returns-clause-stopped g c = λ start counts.
    (c.write_all.new.progress.retries, c.write_all.ensures.counts start (rw c.new-progress.ensures.retries counts))
