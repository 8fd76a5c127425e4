pub mod Events
pub mod EventsLemmas
