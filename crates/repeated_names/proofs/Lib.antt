pub mod FirstLaws
pub mod ScanLaws
pub mod RepeatLaws
