pub mod AskedFacts
mod QuestionFacts
