pub mod Contents
pub mod Renewal
pub mod View
pub mod Settling
pub mod Steps
