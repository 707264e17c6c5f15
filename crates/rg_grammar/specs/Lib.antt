pub mod Entry
pub mod Grammar
pub mod Last
pub mod ListPosition
pub mod Text
