pub mod SameDecl
