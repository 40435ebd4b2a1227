pub mod SetupWords
