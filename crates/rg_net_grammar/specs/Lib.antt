pub mod Item
pub mod Contents
pub mod Table
pub mod Reading
pub mod Text
pub mod View
