mod PlacedTexts
mod PlacedNumbers
mod LogBounds
mod AnsweredRevisions
mod CheckpointRevisions
mod ToldNumbers
mod PlacingFacts
mod DecidingFacts
