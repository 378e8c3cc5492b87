mod Best
mod Founds
mod Endings
