pub mod Children
pub mod Fitting
pub mod IndexTexts
pub mod MergedLemmas
pub mod RightLemmas
pub mod Tested
