pub mod AnswerLemmas
mod NameLemmas
mod MemberLemmas
mod HaltLemmas
