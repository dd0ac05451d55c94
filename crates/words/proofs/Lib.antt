pub mod DurationPrefix
pub mod AsciiNames
pub mod AsciiTexts
pub mod NumbersBeyond
pub mod DurationParts
pub mod DurationParse
pub mod DurationWords
