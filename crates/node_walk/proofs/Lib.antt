pub mod NodeSteps
