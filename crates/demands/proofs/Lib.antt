mod Contracts
mod TestLaws
mod Definitions
mod Outcomes
pub mod Demand1
pub mod Demand2
pub mod Demand3
pub mod UsedCells
pub mod PlanSheets
mod Regrading
pub mod BrittleItems
pub mod Untallied
pub mod PlanNumbers
pub mod RuleOrder
pub mod FirstRules
