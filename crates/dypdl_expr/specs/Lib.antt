pub mod Tokens
pub mod Grammar
pub mod Refusals
pub mod Lexemes
pub mod Rows
