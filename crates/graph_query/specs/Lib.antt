pub mod Answered
pub mod AnswersMeet
pub mod inner
