-- What the proofs of this crate and of those above it use:
-- `Places`: what a memory keeps where one question follows another, and where a value is remembered.
-- `Ledger`: what one question after another spends (`Spends`), over `Places`.
-- `WhatIfs`: what a cell shows whose formula is a what-if, which cells may be read for it, and what is so where nothing was done.
-- `Words`: all that these proofs are written in and don't say themselves: names of the library, of the crates below and of the definitions.
pub mod Places
pub mod Ledger
pub mod WhatIfs
pub mod Words
