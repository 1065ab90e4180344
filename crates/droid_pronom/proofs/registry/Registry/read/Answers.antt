use Rattle.std.proofs.Common.{refl, rules}
use Rattle.droid_pronom.proofs.RegistryReading.{read_too_long, file_other}
use Rattle.droid_pronom.proofs.registry.Registry.read.Goals as goal

pub returns-in-Ok-clause-fault : goal.returns-in-Ok-clause-fault
returns-in-Ok-clause-fault g c = λ sound. record {
  fault = λ is. absurd (file_other (c.parse.ensures (rw is search rules)) is);
  otherwise = λ _. (c.in-Ok.ensures.fault sound).otherwise (λ e. cc);
}

pub returns-in-Err-TooLong-clause-reads : goal.returns-in-Err-TooLong-clause-reads
returns-in-Err-TooLong-clause-reads g c = λ bytes is memory failed. read_too_long _ _ bytes (rw c.in-Err-TooLong.field-0-is at c.in-Err-TooLong.ensures.err) is

pub returns-in-Err-TooLong-clause-fault : goal.returns-in-Err-TooLong-clause-fault
returns-in-Err-TooLong-clause-fault g c = λ sound. record { fault = λ is. cc; otherwise = λ _. (c.in-Err-TooLong.ensures.fault sound).otherwise (λ e. cc) }

pub returns-in-Err-Memory-clause-fault : goal.returns-in-Err-Memory-clause-fault
returns-in-Err-Memory-clause-fault g c = λ sound. record { fault = λ is. cc; otherwise = λ _. (c.in-Err-Memory.ensures.fault sound).otherwise (λ e. cc) }

pub returns-in-Err-Read-clause-fault : goal.returns-in-Err-Read-clause-fault
returns-in-Err-Read-clause-fault g c = λ sound. record { fault = λ _. (c.in-Err-Read.ensures.fault sound).fault (cc); otherwise = λ other. absurd (other refl) }
