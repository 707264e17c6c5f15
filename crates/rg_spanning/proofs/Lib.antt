pub mod RowLaws
mod Orders
pub mod TreeGrowth
pub mod TreeTables
