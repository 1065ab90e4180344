pub mod MachineRuns
