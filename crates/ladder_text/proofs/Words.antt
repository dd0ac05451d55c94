-- Words above symbols.
pub mod RowWords
pub mod WordOrder
pub mod NamedSymbols
pub mod NearWords
pub mod SpanRows
pub mod BareRows
