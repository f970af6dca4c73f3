pub mod KnownResults
