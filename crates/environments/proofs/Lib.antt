pub mod PackageLemmas
pub mod MentionLemmas
pub mod ReferenceWalkLemmas
pub mod RoleLemmas
pub mod ExportedLemmas
pub mod PackageListLemmas
