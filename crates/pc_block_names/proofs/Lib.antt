mod NumberedLemmas
mod NodeLemmas
mod RoutineLemmas
mod GivenLemmas
