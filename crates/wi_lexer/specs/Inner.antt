-- Words of the code's own contracts, and readers that laws tie to the definitions. Nothing here needs belief.
pub mod Cell
pub mod Ends
pub mod Inside
pub mod Mark
pub mod Name
pub mod Number
pub mod Rectangle
pub mod Reference
pub mod Runs
pub mod Text
pub mod Token
pub mod Tokens
