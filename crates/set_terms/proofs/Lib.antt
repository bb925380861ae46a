mod KnownLemmas
mod SumLemmas
mod EventLemmas
mod TurnLemmas
mod MeetLemmas
