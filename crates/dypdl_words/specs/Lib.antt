pub mod Ends
pub mod Scopes
pub mod Words
pub mod Seen
pub mod Leaves
pub mod Folding
pub mod Trees
