pub mod Told
pub mod Exports
pub mod WrittenLevels
pub mod WrittenParts
pub mod Fitting
pub mod FittingDecls
