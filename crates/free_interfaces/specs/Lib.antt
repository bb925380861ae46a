pub mod AllTypes
