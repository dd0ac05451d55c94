-- Steps of the proofs: what is known of a plant's text halfway. No public contract of `plant` cites them.
pub mod Declaring
pub mod Expected
pub mod Lines
pub mod NamesRead
pub mod ReadParts
pub mod Reading
pub mod Refusing
pub mod SameNames
pub mod SoundWords
