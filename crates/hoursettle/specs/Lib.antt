pub mod Reason
pub mod Sentence
