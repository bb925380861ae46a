pub mod FileBytes
