pub mod LeadLemmas
pub mod KindLemmas
pub mod NameLemmas
pub mod RoutineLemmas
pub mod TypeLemmas
pub mod LineLemmas
pub mod DeclarerLemmas
