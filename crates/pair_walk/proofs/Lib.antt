pub mod SameLemmas
pub mod DifferLemmas
pub mod CountLemmas
pub mod RoomLemmas
