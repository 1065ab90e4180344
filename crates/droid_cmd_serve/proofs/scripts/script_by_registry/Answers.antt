use Rattle.droid_cmd_serve.proofs.FreshServices.{reported_alike, reported_neither}
use Rattle.droid_cmd_serve.proofs.ScriptEndings.{ends_over, ends_unmade, unmade_by_no_script, unread, unwritten}
use Rattle.droid_cmd_serve.proofs.scripts.script_by_registry.Goals as goal

pub returns-in-Ok-clause-ends : goal.returns-in-Ok-clause-ends
returns-in-Ok-clause-ends g c =
    let made = c.in-Ok.ensures.made in
    ends_over (g.F.Read.remaining c.args.file.now) c.script_over.result (g.R.Read.remaining c.args.reader.now) (g.W.Write.contents c.args.writer.now) (g.W.Write.contents c.script_over.new.writer)
    c.script_over.ensures.registry_read
    (record { registry = made.registry; is_read = made.is_read; ends = λ setting program. c.script_over.ensures.ends setting (made.made.stands setting program) })

pub returns-in-Ok-clause-registry_fault : goal.returns-in-Ok-clause-registry_fault
returns-in-Ok-clause-registry_fault g c = λ sound.
    reported_neither _ _ _ _ (λ e. absurd cc) (λ e. c.script_over.ensures.registry_read _ e) (c.in-Ok.ensures.registry_fault sound)

pub returns-in-Err-clause-ends : goal.returns-in-Err-clause-ends
returns-in-Err-clause-ends g c =
    ends_unmade (g.F.Read.remaining c.args.file.now) c.in-Err.ending (g.R.Read.remaining c.args.reader.now) (g.W.Write.contents c.args.writer.now) c.in-Err.ensures.not_made

pub returns-in-Err-clause-registry_fault : goal.returns-in-Err-clause-registry_fault
returns-in-Err-clause-registry_fault g c = λ sound. reported_alike _ _ _ _ (λ e. cc) (λ e. cc) (c.in-Err.ensures.registry_fault sound)

pub returns-in-Err-clause-read_fault : goal.returns-in-Err-clause-read_fault
returns-in-Err-clause-read_fault g c = λ sound. unread (g.R.SteadyRead.seen c.args.reader.now) _ sound (λ e. unmade_by_no_script _ c.in-Err.ending _ c.in-Err.ensures.not_made e)

pub returns-in-Err-clause-write_fault : goal.returns-in-Err-clause-write_fault
returns-in-Err-clause-write_fault g c = λ sound endless.
    unwritten g.W.SteadyWrite.seen g.W.Write.contents (g.R.Read.remaining c.args.reader.now) c.args.writer.now _ sound (λ e. unmade_by_no_script _ c.in-Err.ending _ c.in-Err.ensures.not_made e)
