pub mod LastTally
