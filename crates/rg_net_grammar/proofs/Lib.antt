pub mod Walk
pub mod Items
pub mod Complete
pub mod WholeTexts
pub mod Going
