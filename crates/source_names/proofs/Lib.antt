pub mod VarTypeLaws
pub mod RowLaws
pub mod WordLaws
pub mod PlaceLaws
