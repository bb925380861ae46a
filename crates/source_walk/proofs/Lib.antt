pub mod SeenLaws
pub mod RowLaws
pub mod ListedRows
pub mod SigLaws
pub mod TopLaws
pub mod RuleLaws
