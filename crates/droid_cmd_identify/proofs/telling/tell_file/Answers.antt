use Rattle.std.proofs.Common.{inl}
use Rattle.std.proofs.lemmas.Result.{IfOk-weaker}
use Rattle.droid_cmd_identify.proofs.telling.tell_file.Goals as goal

pub returns-in-Ok : goal.returns-in-Ok
returns-in-Ok g c =
    IfOk-weaker c.tell_read.result _ _
    (λ outcome told. inl (record { ends = c.identify_entry.new.ends; identity = c.in-Ok.identity; middle = c.identify_entry.new.tree; read = rw c.in-Ok.is at c.in_ok-read.ensures.read; told = told }))
    c.tell_read.ensures
