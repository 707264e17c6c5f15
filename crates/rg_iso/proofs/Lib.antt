mod WordOrder
pub mod OneMeeting
pub mod Refuting
pub mod OneTold
pub mod Walking
pub mod Following
pub mod Mapping
pub mod Leading
mod Numbers
mod SomeTold
