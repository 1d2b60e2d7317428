-- The commands of a workbook by tables: what each asks for, for which causes it is refused, and what it does.
pub mod Operands
pub mod Command
pub mod Edits
pub mod Causes
pub mod Does
pub mod Step
