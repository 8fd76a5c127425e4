pub mod Figures
pub mod Keeping
pub mod OpenAnswers
pub mod LookAnswers
pub mod States
pub mod SavingAnswers
pub mod Telling
pub mod Commits
