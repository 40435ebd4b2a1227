pub mod SeveralEnds
