use Rattle.droid_recovery.proofs.recovery_machine.RecoveringMachine.into_service.Goals as goal

pub returns-clause-stands : goal.returns-clause-stands
returns-clause-stands c = λ recovery records history stood have ended.
    c.in_ok-service.ensures.stands recovery.setting recovery.bare history (stood.recovers history have) ended
