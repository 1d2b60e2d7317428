-- That the definitions are what the code's own contracts say.
pub mod Operands
pub mod Replies
pub mod Addresses
pub mod Readings
pub mod Words
pub mod Texts
pub mod OneReading
pub mod LinesRead
