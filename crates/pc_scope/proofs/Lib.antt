mod RegionSteps
mod SecondKid
mod SiteSteps
mod CountingSteps
mod ByName
pub mod InOrder
pub mod Chains
pub mod Firsts
pub mod Parts
pub mod Regions
pub mod FromTop
pub mod OwnerExamples
