pub mod DataSteps
pub mod ListSteps
pub mod AllSteps
