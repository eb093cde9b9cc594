mod OneAnswer
mod Outcomes
mod FileLemmas
mod AnswerLemmas
