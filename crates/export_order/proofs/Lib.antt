pub mod MemberLemmas
pub mod QueueLemmas
