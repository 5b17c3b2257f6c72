pub mod AddLaws
pub mod HoldLaws
pub mod NameLaws
pub mod PlanLaws
