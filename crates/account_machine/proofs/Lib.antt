pub mod Sums
pub mod Orders
pub mod OperationTables
