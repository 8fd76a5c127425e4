pub mod Fetched
pub mod FormSteps
pub mod Numbers
pub mod Referred
