pub mod LastWritten
mod PlanWalk
mod Unranking
mod Ranking
