pub mod formers
pub mod Lending
pub mod Bytes
pub mod Results
