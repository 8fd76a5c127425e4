pub mod Logs
pub mod LogSteps
