pub mod Sending
pub mod ByteReading
pub mod BegunTexts
pub mod ListTexts
pub mod ValueTexts
pub mod Lists
pub mod Messages
mod OneReading
mod OneMessage
pub mod Parts
pub mod WordsRead
