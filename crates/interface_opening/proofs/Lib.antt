pub mod OpeningLemmas
pub mod OpenedLaws
pub mod RoomLemmas
pub mod MeetingLemmas
pub mod ExitLemmas
pub mod MappedLemmas
