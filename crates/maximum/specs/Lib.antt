pub mod Maximum
