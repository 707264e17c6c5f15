pub mod WholeNumbers
pub mod ColumnViews
pub mod ChordRows
pub mod LabelCounts
pub mod StatesNamed
pub mod SettingViews
