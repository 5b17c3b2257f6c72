pub mod RepairOutcome
